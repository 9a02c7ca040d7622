use Rattle.ep_types_rules.proofs.RuleSteps.{conclude_false, ill_typed_is}
use Rattle.ep_types_rules.proofs.rules.gives.Goals as goal

pub returns-else-holds : goal.returns-else-holds
returns-else-holds c = ill_typed_is _ _ (conclude_false c.args.place c.args.ty c.args.holds c.if-holds.false)
