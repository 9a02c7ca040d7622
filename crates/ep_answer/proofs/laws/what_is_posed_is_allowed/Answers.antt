use Rattle.ep_answer.proofs.Posing.{posed_allows, posed_can_search}
use Rattle.ep_answer.proofs.laws.what_is_posed_is_allowed.Goals as goal

pub returns-clause-search : goal.returns-clause-search
returns-clause-search c = posed_can_search

pub returns-clause-allowed : goal.returns-clause-allowed
returns-clause-allowed c = posed_allows
