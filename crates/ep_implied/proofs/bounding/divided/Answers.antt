use Rattle.std.proofs.Common.{rules, ◌≤ℤ◌, ◌*ℤ◌, pos, None, List, ℤ, ℕ, arith, subst, sym, ◌∙◌}
use Rattle.std.proofs.lemmas.Int.{ints, to_z-of_z}
use Rattle.std.specs.List.{All}
use Rattle.std.specs.Int.{w64, w128}
use Rattle.ep_base.specs.declared.operators.CompareOp.TheVariants as op
use Rattle.ep_flat.specs.Cons.{linear}
use Rattle.ep_flat.specs.FlatViews.{plain_flat}
use Rattle.ep_implied.specs.Follows.{FollowsFrom}
use Rattle.ep_implied.specs.Sums.{IsRounded, TakesIn}
use Rattle.ep_implied.proofs.Following.{StandForFirst, follows, none_stand, one_more_stands}
use Rattle.ep_implied.proofs.bounding.divided.Goals as goal

pub loop-place-init : goal.loop-place-init
loop-place-init c =
    subst (λ (ps : List (ℤ × ℕ)). StandForFirst (plain_flat c.args.flat.now).vars c.args.sum.now.coefficients.items (pos 2048) 0 ps) (sym c.new-parts.ensures.items)
    (none_stand (plain_flat c.args.flat.now).vars c.args.sum.now.coefficients.items (pos 2048))

pub loop-place-preserved : goal.loop-place-preserved
loop-place-preserved c =
    let near = c.in-Some.ensures.near in
    let whole = to_z-of_z w128 c.index-in-loop-place.result.now (search rules) ∙ c.index-in-loop-place.ensures in
    let short = to_z-of_z w64 c.in-Some.coefficient (omega (arith, ints, near)) in
    one_more_stands (plain_flat c.args.flat.now).vars c.args.sum.now.coefficients.items (pos 2048) c.loop-place.place c.index.result.now c.index-in-loop-place.result.now c.is_natural-natural.result c.in-Some.coefficient
    c.loop-place.parts.items c.push_part.new.parts.items (omega (arith, c.loop-place-test.true, c.len-place-end.ensures))
    (omega (arith, c.loop-place-test.true, c.len-place-end.ensures, c.if-len.false, c.len.ensures, c.len-2.ensures)) (λ is. subst (All (λ (n : ℤ). pos 0 ≤ℤ n)) c.index.ensures (c.is_natural-natural.ensures is))
    (subst (λ (w : ℤ). IsRounded w (pos 2048) c.is_natural-natural.result c.in-Some.coefficient) whole c.in-Some.ensures)
    (subst (λ (n : ℤ). TakesIn (n, c.loop-place.place) c.loop-place.parts.items c.push_part.new.parts.items) short c.in_ok-push_part.ensures) c.loop-place.invariant

pub returns : goal.returns
returns c =
    let most = to_z-of_z w128 c.args.sum.now.most (search rules) in
    let number = to_z-of_z w64 c.in-Some-most_of.number (search rules) in
    subst (λ (n : ℤ). FollowsFrom (plain_flat c.args.flat.now) (record { truth = None; kind = linear c.loop-place.parts.items op.AtMost n })) (sym number)
    (follows (plain_flat c.args.flat.now) c.args.sum.now.coefficients.items (pos 2048) c.args.sum.now.most c.loop-place.place c.loop-place.parts.items c.in-Some-most_of.number
    (omega (arith, c.loop-place-test.false, c.len-place-end.ensures, c.if-len.false, c.len.ensures, c.len-2.ensures)) c.loop-place.invariant c.requires
    (λ sum low. c.in-Some-most_of.ensures sum (subst (λ (m : ℤ). (pos 2048 *ℤ sum) ≤ℤ m) (sym most) low)))
