use Rattle.ep_parse_parts.proofs.Finding.{finds_shown_domain}
use Rattle.ep_parse_below.proofs.OperandFacts.{domain_named}
use Rattle.ep_parse_below.proofs.below.Below.named_domain.Goals as goal

pub returns : goal.returns
returns g c = record { read = finds_shown_domain _ _ _ _ c.named_domain.ensures.made (domain_named _ _ _ _ _ _ _ c.requires.next c.in_ok-name.ensures.copied c.pass.ensures.place c.pass.ensures.passed) }
