use Rattle.std.proofs.Common.{sym}
use Rattle.ep_parse_below.proofs.OperandFacts.{domain_nothing}
use Rattle.ep_parse_below.proofs.below.Below.unnamed_domain.Goals as goal

pub returns-in-None : goal.returns-in-None
returns-in-None g c = record { read = domain_nothing _ _ _ c.requires.no_name (sym c.in-None.ensures.next) }
