use Rattle.ep_instance_parts.proofs.ListedSteps.{joins_both, joins_left, joins_right}
use Rattle.ep_instance_parts.proofs.opened.joined.Goals as goal

pub returns-in_default : goal.returns-in_default
returns-in_default c = joins_left c.args.op c.args.one c.args.other c.in_default.is

pub returns-in_default-other : goal.returns-in_default-other
returns-in_default-other c = joins_right c.args.op c.args.one c.args.other c.in-Some.first c.in-Some.is c.in_default-other.is

pub returns : goal.returns
returns c =
    joins_both c.args.op c.args.one c.args.other c.in-Some.first c.in-Some-other.second c.in_ok-left.left c.in_ok-right.right c.in-Some.is c.in-Some-other.is
    c.in_ok-left.ensures.ok c.in_ok-right.ensures.ok
