use Rattle.ep_tree_laws.proofs.Typing.{context_typed, domain_typed, expression_typed}
use Rattle.ep_tree_laws.proofs.faultless_has_a_type.Goals as goal

pub returns-clause-expressions : goal.returns-clause-expressions
returns-clause-expressions c = expression_typed

pub returns-clause-domains : goal.returns-clause-domains
returns-clause-domains c = domain_typed

pub returns-clause-names : goal.returns-clause-names
returns-clause-names c = context_typed
