use Rattle.ep_parse_parts.proofs.PartFacts.{no_terms_counted}
use Rattle.ep_parse_parts.proofs.parts.Terms.new.Goals as goal

pub returns-clause-counted : goal.returns-clause-counted
returns-clause-counted c = let n = no_terms_counted _ c.new.ensures.items in record { high = n.0; ends = n.1 }
