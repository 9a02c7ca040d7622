use Rattle.ep_parse_parts.proofs.AgainAll.{one_domain, one_expr}
use Rattle.ep_parse_expr.proofs.laws.tokens_spell_one_tree.Goals as goal

pub returns-clause-expressions : goal.returns-clause-expressions
returns-clause-expressions c level one other tokens = one_expr level one other tokens

pub returns-clause-domains : goal.returns-clause-domains
returns-clause-domains c level one other tokens = one_domain level one other tokens
