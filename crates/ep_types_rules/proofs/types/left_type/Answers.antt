use Rattle.std.proofs.Common.{sym, ◌∙◌, arith}
use Rattle.ep_types_rules.proofs.RuleSteps.{left_none, left_some}
use Rattle.ep_types_rules.proofs.types.left_type.Goals as goal

pub returns-then-dims-eq0 : goal.returns-then-dims-eq0
returns-then-dims-eq0 c = c.of_scalar.ensures ∙ sym (left_none c.args.dims c.args.of c.if-dims-eq0.true)

pub returns : goal.returns
returns c = sym (left_some c.args.dims c.args.of (omega (arith, c.if-dims-eq0.false)))
