use Rattle.ep_reach_laws.proofs.Nodes.{numbers_lie_in_reaches}
use Rattle.ep_reach_laws.proofs.numbers_lie_in_reaches.Goals as goal

pub returns : goal.returns
returns c = record { numbers = numbers_lie_in_reaches }
