use Rattle.std.proofs.Common.{rules, ◌+ℤ◌, ◌*ℤ◌, ◌<ℤ◌, ◌≤ℤ◌, ℤ, arith}
use Rattle.std.proofs.lemmas.Int.{ints, to_z-of_z}
use Rattle.std.specs.Int.{w64, w128}
use Rattle.ep_implied.proofs.Products.{at_most_floor}
use Rattle.ep_implied.proofs.SumSteps.{raised_is}
use Rattle.ep_implied.proofs.rounding.most_of.Goals as goal

pub returns : goal.returns
returns c = λ sum within.
    let n : ℤ = c.in-Some.number in
    let near = c.in-Some.ensures.near in
    let short = to_z-of_z w64 n (omega (arith, ints, near)) in
    let unit = to_z-of_z w128 c.args.unit c.ranges.unit in
    let beyond = raised_is c.in-Some-raised.beyond _ c.args.unit _ c.args.unit _ n c.in-Some-raised.ensures unit unit short in
    let most = to_z-of_z w128 c.args.most c.ranges.most in
    let after = to_z-of_z w128 c.in-Some-raised.beyond (search rules) in
    let high : c.args.most <ℤ (c.args.unit +ℤ (c.args.unit *ℤ n)) = omega (arith, ints, c.if-beyond-most.false, beyond, most, after) in
    let low : sum ≤ℤ n = at_most_floor c.args.unit c.args.most n sum (omega (arith, ints, c.if-unit-le0.false)) high within in
    omega (arith, ints, low, short)
