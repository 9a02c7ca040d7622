use Rattle.std.proofs.Common.{◌≡◌, ◌↔◌, ◌∷◌, [], ◌++◌, pos, ◌≤ℤ◌, ◌<ℤ◌, get_or, arith, subst, sym, ap}
use Rattle.std.proofs.lemmas.Int.{ints}
use Rattle.std.proofs.lemmas.List.{take_all, get_or_default}
use Rattle.std.specs.List.{All, Any}
use Rattle.ep_base.specs.declared.run_lists.Run.{Run}
use Rattle.ep_base.specs.Runs.{AreApart, IsIn}
use Rattle.ep_base.proofs.RunSteps.{JoinedSoFar, joined_more, joined_skip}
use Rattle.ep_base.proofs.run_lists.join_sorted.Goals as goal
use Rattle.ep_base.proofs.run_lists.join_sorted.Goals.{then-part+in_ok-add_run, else-part}

pub loop-part-preserved : goal.loop-part-preserved
loop-part-preserved c =
    let parts = c.args.parts.now in
    let count = c.loop-part.part-index in
    let part = get_or parts count (record { lo = pos 0; hi = pos 0 }) in
    let is : (d : Run) → get_or parts count d ≡ part = λ d. get_or_default parts count d (record { lo = pos 0; hi = pos 0 }) c.loop-part-test.true in
    elim c.if-part.branch [
      | then-part+in_ok-add_run w ↦
          let added = ap (λ v. v.items) (sym w.runs-is) in
          joined_more parts count c.loop-part.runs.items c.if-part.runs.items part c.loop-part-test.true is c.requires c.loop-part.invariant
          (subst AreApart added w.in_ok-add_run.ensures.apart)
          (subst (All (λ run. run.lo ≤ℤ part.lo)) added w.in_ok-add_run.ensures.behind)
          (λ number. subst (λ runs. Any (IsIn number) runs ↔ Any (IsIn number) (c.loop-part.runs.items ++ part ∷ [])) added (w.in_ok-add_run.ensures.numbers number))
      | else-part w ↦
          let none : part.hi <ℤ part.lo = omega (arith, ints) in
          joined_skip parts count c.if-part.runs.items part c.loop-part-test.true is c.requires (subst (λ v. JoinedSoFar parts count v.items) (sym w.runs-is) c.loop-part.invariant) none
    ]

pub returns-clause-numbers : goal.returns-clause-numbers
returns-clause-numbers c = λ number.
    subst (λ parts. Any (IsIn number) c.loop-part.runs.items ↔ Any (IsIn number) parts) (take_all c.loop-part.part-index c.args.parts.now c.loop-part-test.false) (c.loop-part.invariant.numbers number)
