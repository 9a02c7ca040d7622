use Rattle.ep_eval.proofs.Words.{◌≡◌, ℤ, pos, ◌+ℤ◌, ap, ◌∙◌, w64, to_z, of_z, arith, ints, to_z-of_z, IsFilledIn}
use Rattle.ep_eval.proofs.WalkSteps.{run_last, run_step}
use Rattle.ep_eval.proofs.walking.behind_first.Goals as goal

pub returns-then-run-clause-numbers : goal.returns-then-run-clause-numbers
returns-then-run-clause-numbers c =
    let lo : ℤ = c.args.run.lo in
    let hi : ℤ = c.args.run.hi in
    let first : to_z w64 (of_z w64 lo) ≡ lo = to_z-of_z w64 lo (omega (arith, ints)) in
    let last : to_z w64 (of_z w64 hi) ≡ hi = to_z-of_z w64 hi (omega (arith, ints)) in
    run_step c.args.run c.args.later.now _ _
    (ap (λ x. to_z w64 (of_z w64 (x +ℤ pos 1))) first ∙ to_z-of_z w64 (lo +ℤ pos 1) (omega (arith, ints))) last (omega (arith, ints))

pub returns-then-run-clause-walk : goal.returns-then-run-clause-walk
unfolding IsFilledIn
returns-then-run-clause-walk c =
    let lo : ℤ = c.args.run.lo in
    let hi : ℤ = c.args.run.hi in
    let last : to_z w64 (of_z w64 hi) ≡ hi = to_z-of_z w64 hi (omega (arith, ints)) in
    let inner : to_z w64 (of_z w64 lo) ≡ lo = to_z-of_z w64 lo (omega (arith, ints)) in
    let first : to_z w64 (of_z w64 (to_z w64 (of_z w64 lo) +ℤ pos 1)) ≡ lo +ℤ pos 1 =
    ap (λ x. to_z w64 (of_z w64 (x +ℤ pos 1))) inner ∙ to_z-of_z w64 (lo +ℤ pos 1) (omega (arith, ints)) in
    record { here = omega (arith, ints, first, last); behind = c.requires.behind }

pub returns-clause-numbers : goal.returns-clause-numbers
returns-clause-numbers c =
    run_last c.args.run c.args.later.now _ c.requires.here (omega (arith, ints)) c.walk_of.ensures.numbers
