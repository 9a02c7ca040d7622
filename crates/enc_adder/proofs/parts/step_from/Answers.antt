use Rattle.std.proofs.Common.{◌∙◌, ◌*ℤ◌, ◌-ℤ◌, ◌≤ℤ◌, ℤ, pos, FitsSigned, ap, refl, arith, to_z, of_z}
use Rattle.std.specs.Prelude.{unsigned_abs}
use Rattle.std.specs.Int.{w128}
use Rattle.std.proofs.lemmas.Int.{ints, to_z-of_z}
use Rattle.enc_adder.specs.Parts.{IsSizeOfCoefficient}
use Rattle.enc_adder.proofs.Products.{none_negative, product_is, size_fits}
use Rattle.enc_adder.proofs.parts.step_from.Goals as goal

pub overflow_mul-product : goal.overflow_mul-product
overflow_mul-product c =
    let x : ℤ = to_z w128 (of_z w128 c.args.size) in
    let d : ℤ = to_z w128 (of_z w128 (to_z w128 (of_z w128 c.from.result) -ℤ to_z w128 (of_z w128 c.from-2.result))) in
    size_fits x d (omega (arith, ints, c.requires.size.0), omega (arith, ints, c.requires.size.1)) (omega (arith, ints, c.from.ensures, c.from-2.ensures)) (omega (arith, ints, c.from.ensures, c.from-2.ensures))

pub returns-clause-worth : goal.returns-clause-worth
returns-clause-worth c =
    let x : ℤ = to_z w128 (of_z w128 c.args.size) in
    let d : ℤ = to_z w128 (of_z w128 (to_z w128 (of_z w128 c.from.result) -ℤ to_z w128 (of_z w128 c.from-2.result))) in
    let size : IsSizeOfCoefficient x = (omega (arith, ints, c.requires.size.0), omega (arith, ints, c.requires.size.1)) in
    let low : pos 0 ≤ℤ d = omega (arith, ints, c.from.ensures, c.from-2.ensures) in
    let fits : FitsSigned w128 (x *ℤ d) = size_fits x d size low (omega (arith, ints, c.from.ensures, c.from-2.ensures)) in
    ap pos c.unsigned_abs-worth.ensures.value ∙ ap (λ n. pos (unsigned_abs n)) (to_z-of_z w128 (x *ℤ d) fits) ∙ none_negative x d size.0 low
    ∙ product_is (x *ℤ d) x d c.args.size (c.args.value -ℤ c.args.least) refl (omega (arith, ints)) (omega (arith, ints, c.from.ensures, c.from-2.ensures))
