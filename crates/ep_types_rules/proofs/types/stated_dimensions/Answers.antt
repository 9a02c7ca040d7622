use Rattle.std.proofs.Common.{drop, sym, ap, ◌∙◌, ◌+◌}
use Rattle.ep_tree.specs.Types.{stated_dimensions}
use Rattle.ep_types_rules.proofs.RuleSteps.{or_else, states_next, states_nothing}
use Rattle.ep_types_rules.proofs.types.stated_dimensions.Goals as goal

pub returns-in-Some : goal.returns-in-Some
unfolding or_else
returns-in-Some c =
    sym (c.loop-part.invariant ∙ states_next c.args.parts.now c.loop-part.part-index _ c.loop-part-test.true
    ∙ ap (λ o. or_else o (stated_dimensions (drop (c.loop-part.part-index + 1) c.args.parts.now))) (sym c.dimensions.ensures ∙ c.in-Some.is))

pub loop-part-preserved : goal.loop-part-preserved
unfolding or_else
loop-part-preserved c =
    c.loop-part.invariant ∙ states_next c.args.parts.now c.loop-part.part-index _ c.loop-part-test.true
    ∙ ap (λ o. or_else o (stated_dimensions (drop (c.loop-part.part-index + 1) c.args.parts.now))) (sym c.dimensions.ensures ∙ c.in-None.is)

pub returns : goal.returns
returns c = sym (c.loop-part.invariant ∙ states_nothing c.args.parts.now c.loop-part.part-index c.loop-part-test.false)
