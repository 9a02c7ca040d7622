use Rattle.ep_parse_parts.proofs.PartFacts.{no_generators_counted}
use Rattle.ep_parse_parts.proofs.parts.Generators.new.Goals as goal

pub returns-clause-counted : goal.returns-clause-counted
returns-clause-counted c = record { high = no_generators_counted _ c.new.ensures.items }
