use Rattle.ep_parse_parts.proofs.PartFacts.{no_domains_counted}
use Rattle.ep_parse_parts.proofs.parts.Domains.new.Goals as goal

pub returns-clause-counted : goal.returns-clause-counted
returns-clause-counted c = record { high = no_domains_counted _ c.new.ensures.items }
