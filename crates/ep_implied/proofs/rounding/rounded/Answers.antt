use Rattle.std.proofs.Common.{rules, ◌*ℤ◌, ◌≤ℤ◌, ℤ, pos, refl, sym, subst, arith}
use Rattle.std.proofs.lemmas.Int.{ints, to_z-of_z}
use Rattle.std.specs.Int.{w64, w128}
use Rattle.ep_implied.specs.Sums.{IsRounded}
use Rattle.ep_implied.proofs.Products.{below_rounded}
use Rattle.ep_implied.proofs.SumSteps.{raised_is}
use Rattle.ep_implied.proofs.rounding.rounded.Goals as goal

pub returns : goal.returns
returns c =
    let n : ℤ = c.in-Some.coefficient in
    let near = c.in-Some.ensures.near in
    let short = to_z-of_z w64 n (omega (arith, ints, near)) in
    let back = raised_is c.in-Some-raised.back (pos 0) (pos 0) _ c.args.unit _ n c.in-Some-raised.ensures refl (to_z-of_z w128 c.args.unit c.ranges.unit) short in
    let whole = to_z-of_z w128 c.args.whole c.ranges.whole in
    let after = to_z-of_z w128 c.in-Some-raised.back (search rules) in
    let least = c.counts_no_more.ensures.low c.if-not-counts_no_more.false in
    let low : (c.args.unit *ℤ n) ≤ℤ c.args.whole = omega (arith, ints, least, back, whole, after) in
    subst (λ (m : ℤ). IsRounded c.args.whole c.args.unit c.args.natural m) (sym short)
    (record {
      near = near;
      below = below_rounded c.args.whole c.args.unit n c.args.natural low
          (λ off. let exact = c.counts_no_more.ensures.exact c.if-not-counts_no_more.false off in omega (arith, ints, exact, back, whole, after));
    })
