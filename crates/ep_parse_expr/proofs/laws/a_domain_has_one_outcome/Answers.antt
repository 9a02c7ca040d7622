use Rattle.ep_tree.specs.Heights.{domain_height}
use Rattle.ep_tree.specs.Spelling.{SpellsDomain, domains}
use Rattle.std.specs.Prelude.{drop}
use Rattle.ep_parse_parts.proofs.AgainAll.{one_domain}
use Rattle.ep_parse_expr.proofs.Answering.{outcome_domain}
use Rattle.ep_parse_expr.proofs.OneOutcome.{counted_on, fault_not_high, fault_once, high_once, read_no_fault, read_not_high, read_once}
use Rattle.ep_parse_expr.proofs.laws.a_domain_has_one_outcome.Goals as goal

pub returns-clause-some : goal.returns-clause-some
returns-clause-some c most from tokens = outcome_domain most from tokens

pub returns-clause-read_not_faulty : goal.returns-clause-read_not_faulty
returns-clause-read_not_faulty c most from tokens r f = read_no_fault (SpellsDomain domains) domain_height most (drop from tokens) r.2.0 f.1.0 r.0 r.2.2 f.1.2

pub returns-clause-read_not_high : goal.returns-clause-read_not_high
returns-clause-read_not_high c most from tokens r h = read_not_high (SpellsDomain domains) domain_height most (drop from tokens) r.2.0 h.1.0 r.0 r.2.2 h.1.2

pub returns-clause-faulty_not_high : goal.returns-clause-faulty_not_high
returns-clause-faulty_not_high c most from tokens f h = fault_not_high (SpellsDomain domains) domain_height most (drop from tokens) f.1.0 h.1.0 f.1.2 h.1.2

pub returns-clause-read_once : goal.returns-clause-read_once
returns-clause-read_once c most from tokens one other m n r s =
    let both = read_once (SpellsDomain domains) domain_height most (drop from tokens) r.0 s.0 one other (λ front. one_domain domains one other front) r.2 s.2 in (both.0, counted_on from r.0 s.0 m n r.1 s.1 both.1)

pub returns-clause-faulty_once : goal.returns-clause-faulty_once
returns-clause-faulty_once c most from tokens m n f g = counted_on from f.0 g.0 m n f.1 g.1 (fault_once (SpellsDomain domains) domain_height most (drop from tokens) f.0 g.0 f.2 g.2)

pub returns-clause-high_once : goal.returns-clause-high_once
returns-clause-high_once c most from tokens m n f g = counted_on from f.0 g.0 m n f.1 g.1 (high_once (SpellsDomain domains) domain_height most (drop from tokens) f.0 g.0 f.2 g.2)
