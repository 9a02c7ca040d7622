use Rattle.ep_parse_parts.proofs.Finding.{finds_at_domain}
use Rattle.ep_parse_below.proofs.OperandFacts.{domain_begun, domain_unknown}
use Rattle.ep_parse_below.proofs.below.Below.domain_begun_by.Goals as goal

pub returns-in-Some : goal.returns-in-Some
returns-in-Some g c = record { read = finds_at_domain _ _ _ _ (domain_begun _ _ _ _ _ c.requires.next c.in-Some.ensures.meant) c.domain_begun.ensures.read }

pub returns-in-None : goal.returns-in-None
returns-in-None g c = record { read = domain_unknown _ _ _ _ c.requires.next c.in-None.ensures.meant }
