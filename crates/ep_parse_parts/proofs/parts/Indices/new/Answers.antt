use Rattle.ep_parse_parts.proofs.PartFacts.{no_indices_counted}
use Rattle.ep_parse_parts.proofs.parts.Indices.new.Goals as goal

pub returns-clause-counted : goal.returns-clause-counted
returns-clause-counted c = let n = no_indices_counted _ c.new.ensures.items in record { high = n.0; every = n.1 }
