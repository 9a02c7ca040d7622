use Rattle.std.proofs.Common.{◌≡◌, inr, ℤ, pos, refl, slice_index_or, arith, rules, to_z, of_z}
use Rattle.std.specs.Int.{w128}
use Rattle.std.proofs.lemmas.Int.{ints, to_z-of_z}
use Rattle.enc_linear.specs.declared.terms.Step.{Step}
use Rattle.enc_linear.proofs.Ladders.{above_same, found_there, none_falling}
use Rattle.enc_linear.proofs.terms.falling_worth.Goals as goal

pub returns-then-first-worth : goal.returns-then-first-worth
returns-then-first-worth c =
    let d : Step = record { value = pos 0; worth = pos 0 } in
    let n = c.count_above-count.result in
    let x : ℤ = (slice_index_or c.args.steps.now n d).worth in
    let e : to_z w128 (of_z w128 x) ≡ x = to_z-of_z w128 x (search rules) in
    let k : to_z w128 (of_z w128 c.args.worth) ≡ c.args.worth = to_z-of_z w128 c.args.worth c.ranges.worth in
    none_falling c.args.steps.now n c.args.worth d c.requires (above_same _ _ _ _ _ c.count_above-count.ensures.before (omega (arith, ints)))
    (inr (omega arith, omega (arith, ints, e, k, c.if-first-worth.true)))

pub returns : goal.returns
returns c =
    let d : Step = record { value = pos 0; worth = pos 0 } in
    let n = c.count_above-count.result in
    let x : ℤ = (slice_index_or c.args.steps.now n d).worth in
    let e : to_z w128 (of_z w128 x) ≡ x = to_z-of_z w128 x (search rules) in
    let k : to_z w128 (of_z w128 c.args.worth) ≡ c.args.worth = to_z-of_z w128 c.args.worth c.ranges.worth in
    let low = c.count_above-count.ensures.behind n d (omega arith) (omega arith) in
    (found_there c.args.steps.now n d _ (omega arith) refl, omega (arith, ints, e, k, low, c.if-first-worth.false))
