use Rattle.ep_ground.proofs.SameTerms.{equal_trees_equal_terms}
use Rattle.ep_ground.proofs.laws.equal_trees_are_equal_terms.Goals as goal

pub returns : goal.returns
returns c = equal_trees_equal_terms
