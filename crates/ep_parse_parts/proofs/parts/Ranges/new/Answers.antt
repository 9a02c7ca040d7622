use Rattle.ep_parse_parts.proofs.PartFacts.{no_ranges_counted}
use Rattle.ep_parse_parts.proofs.parts.Ranges.new.Goals as goal

pub returns-clause-counted : goal.returns-clause-counted
returns-clause-counted c = record { high = no_ranges_counted _ c.new.ensures.items }
