use Rattle.std.proofs.Common.{drop, ap, sym, ◌∙◌, ◌+◌}
use Rattle.std.specs.Prelude.{◌||◌}
use Rattle.ep_tree.specs.Faults.{has_open_range}
use Rattle.ep_tree.specs.Views.{ranges_of}
use Rattle.ep_types_rules.proofs.RuleSteps.{open_end, open_next}
use Rattle.ep_types_rules.proofs.rules.has_open_range.Goals as goal

pub returns-then-is_open : goal.returns-then-is_open
returns-then-is_open c =
    sym (c.loop-range.invariant ∙ open_next c.args.ranges.now c.loop-range.range-index c.range-item.result c.is_open.result c.loop-range-test.true c.range-item.is c.is_open.ensures
    ∙ ap (λ b. b || has_open_range (ranges_of (drop (c.loop-range.range-index + 1) c.args.ranges.now))) c.if-is_open.true)

pub loop-range-preserved : goal.loop-range-preserved
loop-range-preserved c =
    c.loop-range.invariant ∙ open_next c.args.ranges.now c.loop-range.range-index c.range-item.result c.is_open.result c.loop-range-test.true c.range-item.is c.is_open.ensures
    ∙ ap (λ b. b || has_open_range (ranges_of (drop (c.loop-range.range-index + 1) c.args.ranges.now))) c.if-is_open.false

pub returns : goal.returns
returns c = sym (c.loop-range.invariant ∙ open_end c.args.ranges.now c.loop-range.range-index c.loop-range-test.false)
