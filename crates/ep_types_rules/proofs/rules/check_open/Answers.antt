use Rattle.std.proofs.Common.{◌∙◌}
use Rattle.ep_types_rules.proofs.RuleSteps.{closed, not_closed}
use Rattle.ep_types_rules.proofs.Said.{open_domain_says}
use Rattle.ep_types_rules.proofs.rules.check_open.Goals as goal

pub returns-then-holds : goal.returns-then-holds
returns-then-holds c = closed c.args.holds _ c.if-holds.true

pub returns : goal.returns
returns c = λ fault s. not_closed c.args.holds _ c.if-holds.false ∙ open_domain_says c.args.place fault s
