use Rattle.ep_ground.proofs.TermLaws.{reach_is}
use Rattle.ep_ground.proofs.laws.a_term_reaches_as_far_as_its_node.Goals as goal

pub returns : goal.returns
returns c = reach_is
