use Rattle.std.proofs.Common.{rules, ◌∙◌, ◌+ℤ◌, ◌*ℤ◌, ℤ, pos, get_or, ap, take}
use Rattle.std.proofs.lemmas.Int.{to_z-of_z}
use Rattle.std.specs.Int.{w64, w128}
use Rattle.ep_implied.specs.Sums.{parts_sum, weighed}
use Rattle.ep_implied.proofs.SumSteps.{no_parts, parts_all, parts_more}
use Rattle.ep_implied.proofs.sums.add_parts.Goals as goal

pub loop-part-init : goal.loop-part-init
loop-part-init c = λ values. no_parts _ values (weighed 0 c.args.coefficients.now.items values)

pub loop-part-preserved : goal.loop-part-preserved
loop-part-preserved c = λ values.
    parts_more _ values _ _ _ c.args.parts.now c.loop-part.part-index (pos 0, 0) _ c.loop-part-test.true (to_z-of_z w64 (get_or c.args.parts.now c.loop-part.part-index (pos 0, 0)).0 (search rules))
    (c.loop-part.invariant values) (c.add_part.ensures c.if-not-add_part.false values)

pub returns : goal.returns
returns c = λ is values.
    parts_all c.args.times values _ _ c.args.parts.now c.loop-part.part-index c.loop-part-test.false
    (c.loop-part.invariant values ∙ ap (λ (t : ℤ). weighed 0 c.args.coefficients.now.items values +ℤ (t *ℤ parts_sum (take c.loop-part.part-index c.args.parts.now) values)) (to_z-of_z w128 c.args.times c.ranges.times))
