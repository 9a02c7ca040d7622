use Rattle.ep_tree.specs.Heights.{domain_height, height}
use Rattle.ep_tree.specs.Spelling.{Spells, SpellsDomain, domains, implications}
use Rattle.ep_parse_parts.proofs.AgainAll.{one_domain, one_expr}
use Rattle.ep_parse_expr.proofs.Answering.{list_outcome_domain, list_outcome_expr}
use Rattle.ep_parse_expr.proofs.OneOutcome.{fault_by_two, high_by_two, read_by_two}
use Rattle.ep_parse_expr.proofs.laws.an_outcome_goes_by_two_tokens.Goals as goal

pub returns-clause-too_high : goal.returns-clause-too_high
returns-clause-too_high c most tokens p q low any lt = high_by_two (Spells implications) height most tokens p q low any lt

pub returns-clause-read : goal.returns-clause-read
returns-clause-read c most tokens p q e low any le s = read_by_two (Spells implications) height most tokens p q e (one_expr implications) (list_outcome_expr most tokens) low any le s

pub returns-clause-faulty : goal.returns-clause-faulty
returns-clause-faulty c most tokens p q low any le none = fault_by_two (Spells implications) height most tokens p q low any le none

pub returns-clause-domain_too_high : goal.returns-clause-domain_too_high
returns-clause-domain_too_high c most tokens p q low any lt = high_by_two (SpellsDomain domains) domain_height most tokens p q low any lt

pub returns-clause-domain_read : goal.returns-clause-domain_read
returns-clause-domain_read c most tokens p q d low any le s = read_by_two (SpellsDomain domains) domain_height most tokens p q d (one_domain domains) (list_outcome_domain most tokens) low any le s

pub returns-clause-domain_faulty : goal.returns-clause-domain_faulty
returns-clause-domain_faulty c most tokens p q low any le none = fault_by_two (SpellsDomain domains) domain_height most tokens p q low any le none
