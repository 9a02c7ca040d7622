use Rattle.ep_parse_expr.proofs.Answering.{front_domain, front_expr}
use Rattle.ep_parse_expr.proofs.laws.a_front_is_no_higher.Goals as goal

pub returns-clause-expressions : goal.returns-clause-expressions
returns-clause-expressions c level one other front more = front_expr level one other front more

pub returns-clause-domains : goal.returns-clause-domains
returns-clause-domains c level one other front more = front_domain level one other front more
