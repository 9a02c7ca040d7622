use Rattle.ep_ground.proofs.TermLaws.{value_is}
use Rattle.ep_ground.proofs.laws.a_term_has_the_value_of_its_node.Goals as goal

pub returns : goal.returns
returns c = value_is
