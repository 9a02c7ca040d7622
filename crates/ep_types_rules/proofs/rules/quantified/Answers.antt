use Rattle.ep_types_rules.proofs.RuleSteps.{ill_typed_is, over_false}
use Rattle.ep_types_rules.proofs.rules.quantified.Goals as goal

pub returns-then-not-scalar : goal.returns-then-not-scalar
returns-then-not-scalar c = ill_typed_is _ _ (over_false c.args.place c.args.scalar _ c.if-not-scalar.true)
