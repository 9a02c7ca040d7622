use Rattle.std.proofs.Common.{◌≡◌, inr, ℤ, pos, ◌-◌, refl, slice_index_or, arith, rules, to_z, of_z}
use Rattle.std.specs.Int.{w128}
use Rattle.std.proofs.lemmas.Int.{ints, to_z-of_z}
use Rattle.enc_linear.specs.declared.terms.Step.{Step}
use Rattle.enc_linear.proofs.Ladders.{above_same, found_there, none_rising, within_same}
use Rattle.enc_linear.proofs.terms.rising_worth.Goals as goal

pub returns-then-last-worth : goal.returns-then-last-worth
returns-then-last-worth c =
    let d : Step = record { value = pos 0; worth = pos 0 } in
    let n = c.count_up_to-count.result - 1 in
    let x : ℤ = (slice_index_or c.args.steps.now n d).worth in
    let e : to_z w128 (of_z w128 x) ≡ x = to_z-of_z w128 x (search rules) in
    let k : to_z w128 (of_z w128 c.args.worth) ≡ c.args.worth = to_z-of_z w128 c.args.worth c.ranges.worth in
    none_rising c.args.steps.now c.count_up_to-count.result n c.args.worth d c.requires c.count_up_to-count.ensures.bound
    (within_same _ _ _ _ _ c.count_up_to-count.ensures.before (omega (arith, ints))) (above_same _ _ _ _ _ c.count_up_to-count.ensures.behind (omega (arith, ints)))
    (inr (omega arith, omega (arith, ints, e, k, c.if-last-worth.true)))

pub returns : goal.returns
returns c =
    let d : Step = record { value = pos 0; worth = pos 0 } in
    let n = c.count_up_to-count.result - 1 in
    let x : ℤ = (slice_index_or c.args.steps.now n d).worth in
    let e : to_z w128 (of_z w128 x) ≡ x = to_z-of_z w128 x (search rules) in
    let k : to_z w128 (of_z w128 c.args.worth) ≡ c.args.worth = to_z-of_z w128 c.args.worth c.ranges.worth in
    let low = c.count_up_to-count.ensures.before n d (omega arith) (omega arith) in
    (found_there c.args.steps.now n d _ (omega arith) refl, omega (arith, ints, e, k, low, c.if-last-worth.false))
