use Rattle.ep_parse_parts.proofs.PartFacts.{no_parts_counted}
use Rattle.ep_parse_parts.proofs.parts.Parts.new.Goals as goal

pub returns-clause-counted : goal.returns-clause-counted
returns-clause-counted c = let n = no_parts_counted _ c.new.ensures.items in record { high = n.0; ends = n.1 }
