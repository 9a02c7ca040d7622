use Rattle.ep_eval.proofs.Words.{◌≡◌, ◌&&◌, ◌||◌, pos, ◌+ℤ◌, ap, ap₂, ◌∙◌, w64, to_z, of_z, rules, arith, int_max, int_le, ints, to_z-of_z, runs_have}
use Rattle.ep_eval.proofs.SetSteps.{some_above}
use Rattle.ep_eval.proofs.sets.add_above.Goals as goal

pub returns : goal.returns
returns c n =
    let run = c.args.run in
    let other = c.args.other in
    let high = to_z-of_z w64 other.hi (omega (arith, ints)) in
    let most = to_z-of_z w64 (other.hi +ℤ pos 1) (omega (arith, ints)) in
    let low = to_z-of_z w64 run.lo (omega (arith, ints)) in
    let last : to_z w64 (of_z w64 run.hi) ≡ run.hi = to_z-of_z w64 run.hi (omega (arith, ints)) in
    let word = to_z-of_z w64 c.max.result (search rules) in
    let first : to_z w64 (of_z w64 c.max.result) ≡ int_max run.lo (other.hi +ℤ pos 1) = grind (arith, ints, c.max.ensures.value, low, most, high, word) in
    c.in_ok-add_filled.ensures n
    ∙ ap (λ b. runs_have n c.args.parts.now.items || b)
    (ap (λ a. int_le (to_z w64 (of_z w64 c.max.result)) n && int_le n a) last ∙ some_above n run.lo run.hi other.hi _ first)
