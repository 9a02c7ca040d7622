use Rattle.ep_reach_laws.proofs.Lies.{value_lies_within}
use Rattle.ep_reach_laws.proofs.values_lie_within.Goals as goal

pub returns : goal.returns
returns c = record { within = value_lies_within }
