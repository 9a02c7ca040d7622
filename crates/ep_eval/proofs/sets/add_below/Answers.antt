use Rattle.ep_eval.proofs.Words.{◌≡◌, ◌&&◌, ◌||◌, pos, ◌-ℤ◌, ap, ap₂, ◌∙◌, w64, to_z, of_z, rules, arith, int_min, int_le, ints, to_z-of_z, runs_have}
use Rattle.ep_eval.proofs.SetSteps.{some_below}
use Rattle.ep_eval.proofs.sets.add_below.Goals as goal

pub returns : goal.returns
returns c n =
    let run = c.args.run in
    let other = c.args.other in
    let low = to_z-of_z w64 other.lo (omega (arith, ints)) in
    let least = to_z-of_z w64 (other.lo -ℤ pos 1) (omega (arith, ints)) in
    let high = to_z-of_z w64 run.hi (omega (arith, ints)) in
    let first : to_z w64 (of_z w64 run.lo) ≡ run.lo = to_z-of_z w64 run.lo (omega (arith, ints)) in
    let word = to_z-of_z w64 c.min.result (search rules) in
    let last : to_z w64 (of_z w64 c.min.result) ≡ int_min run.hi (other.lo -ℤ pos 1) = grind (arith, ints, c.min.ensures.value, low, least, high, word) in
    c.in_ok-add_filled.ensures n
    ∙ ap (λ b. runs_have n c.args.parts.now.items || b)
    (ap (λ a. int_le a n && int_le n (to_z w64 (of_z w64 c.min.result))) first ∙ some_below n run.lo run.hi other.lo _ last)
