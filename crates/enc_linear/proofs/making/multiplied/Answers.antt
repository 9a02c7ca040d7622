use Rattle.std.proofs.Common.{◌≡◌, ◌∙◌, ◌*ℤ◌, ℤ, to_z, of_z, w64, arith}
use Rattle.std.specs.Int.{w128}
use Rattle.std.proofs.lemmas.Int.{ints, to_z-of_z}
use Rattle.enc_linear.proofs.Ladders.{gives}
use Rattle.enc_linear.proofs.Multiples.{made_step}
use Rattle.enc_linear.proofs.making.multiplied.Goals as goal

pub returns : goal.returns
returns c =
    let x : ℤ = to_z w128 (of_z w128 c.from-left.result) in
    let y : ℤ = to_z w128 (of_z w128 c.from-right.result) in
    let left : x ≡ c.args.coefficient = to_z-of_z w128 c.from-left.result (omega (arith, ints)) ∙ c.from-left.ensures ∙ to_z-of_z w64 c.args.coefficient (omega (arith, ints)) in
    let right : y ≡ c.args.value = to_z-of_z w128 c.from-right.result (omega (arith, ints)) ∙ c.from-right.ensures ∙ to_z-of_z w64 c.args.value (omega (arith, ints)) in
    made_step c.args.coefficient c.args.value x y c.in_ok-worth.worth _ _ (gives _ _ (x *ℤ y) c.in_ok-worth.worth c.checked_mul.ensures c.in_ok-worth.ensures.ok_part) left right (omega (arith, ints)) (omega (arith, ints))
