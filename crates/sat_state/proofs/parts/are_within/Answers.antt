use Rattle.std.proofs.Common.{◌≡◌, ◌∙◌, All, Contains, length, take, sym, ap, subst, arith}
use Rattle.std.proofs.lemmas.Bool.{eqb-true}
use Rattle.std.proofs.lemmas.List.{take_all}
use Rattle.std.proofs.lemmas.List.Elements.{All-more}
use Rattle.sat_state.specs.WatchesInside.{literal_at}
use Rattle.sat_state.proofs.Codes.{literal_again}
use Rattle.sat_state.proofs.parts.are_within.Goals as goal
use Rattle.sat_state.proofs.parts.are_within.Goals.{then-place-few+then-code, then-place-few+else-code, else-place-few}

pub loop-lit-preserved : goal.loop-lit-preserved
loop-lit-preserved c =
    let few = c.args.few.now in
    let many = c.args.many.now in
    let l = c.loop-lit in
    elim c.if-place-few.branch [
      | then-place-few+then-code w ↦
          let x = w.index-few-place.result in
          let same : x ≡ c.lit-item.result
          = sym (literal_again x) ∙ ap literal_at (sym w.code.ensures.value ∙ w.if-code.true ∙ w.code-then-place-few.ensures.value) ∙ literal_again c.lit-item.result in
          let among : Contains many x = subst (Contains many) (sym same) (l.lit-index, c.loop-lit-test.true, sym c.lit-item.is) in
          record {
            within = omega (arith, w.if-place-few.true, w.place-is);
            all = rw w.place-is (All-more (Contains many) few l.place x w.if-place-few.true l.invariant.all (subst (Contains many) w.index-few-place.is among));
          }
      | then-place-few+else-code w ↦ rw w.place-is l.invariant
      | else-place-few w ↦ rw w.place-is l.invariant
    ]

pub returns : goal.returns
returns c = λ yes.
    let few = c.args.few.now in
    let whole : take c.loop-lit.place few ≡ few = take_all c.loop-lit.place few (let is = eqb-true c.loop-lit.place (length few) yes in omega (arith, is)) in
    subst (All (Contains c.args.many.now)) whole c.loop-lit.invariant.all
