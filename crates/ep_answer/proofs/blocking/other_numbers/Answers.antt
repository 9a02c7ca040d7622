use Rattle.std.proofs.Common.{◌≡◌, ℤ, pos, length, get_or, subst, sym, ap, ◌∙◌, w64, to_z, of_z, arith, rules}
use Rattle.std.proofs.lemmas.Int.{to_z-of_z}
use Rattle.ep_answer.specs.Searches.{BlocksFirst}
use Rattle.ep_answer.proofs.OtherNumbers.{blocks_all, blocks_literal, blocks_none, blocks_only}
use Rattle.ep_answer.proofs.blocking.other_numbers.Goals.{in-Is+in_ok-push, in_default}
use Rattle.ep_answer.proofs.blocking.other_numbers.Goals as goal

pub loop-place-init : goal.loop-place-init
loop-place-init c = blocks_none c.args.layout.now c.args.vars.now c.args.cells.now c.new-lits.result.items c.new-lits.ensures.items

pub loop-place-preserved : goal.loop-place-preserved
loop-place-preserved c =
    let k = c.loop-place.place in
    let v : ℤ = get_or c.args.cells.now k (pos 0) in
    let fits : to_z w64 (of_z w64 v) ≡ v = to_z-of_z w64 v (search rules) in
    elim c.match-eq.branch [
      | in-Is+in_ok-push w ↦
          blocks_literal c.args.layout.now c.args.vars.now c.args.cells.now k c.loop-place.lits.items c.match-eq.lits.items w.in-Is.lit w.negated.result (to_z w64 (of_z w64 v)) c.requires.numbers c.requires.long c.loop-place-test.true
          fits (sym w.in-Is.is ∙ c.eq.ensures) w.negated.ensures (ap (λ ls. ls.items) w.lits-is ∙ w.in_ok-push.ensures.items) c.loop-place.invariant
      | in_default w ↦
          blocks_only c.args.layout.now c.args.vars.now c.args.cells.now k c.loop-place.lits.items c.match-eq.lits.items c.eq.result (to_z w64 (of_z w64 v)) c.requires.numbers c.requires.long c.loop-place-test.true
          fits c.eq.ensures w.in_default.not-Is (ap (λ ls. ls.items) w.lits-is) c.loop-place.invariant
    ]

pub returns : goal.returns
returns c =
    let all : c.loop-place.place ≡ length c.args.vars.now = omega (arith, c.loop-place-test.false, c.loop-place.auto.place-end) in
    blocks_all c.args.layout.now c.args.vars.now c.args.cells.now c.loop-place.lits.items c.new.result c.requires.long
    (subst (λ n. BlocksFirst c.args.layout.now c.args.vars.now c.args.cells.now n c.loop-place.lits.items) all c.loop-place.invariant) c.new.ensures.same
