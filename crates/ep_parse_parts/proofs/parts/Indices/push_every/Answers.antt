use Rattle.std.proofs.Common.{refl}
use Rattle.ep_parse_parts.proofs.PartFacts.{every_pushed}
use Rattle.ep_parse_parts.proofs.parts.Indices.push_every.Goals as goal

pub returns-clause-counted : goal.returns-clause-counted
returns-clause-counted c = every_pushed _ _ c.requires.counted c.in_ok-push.ensures.items refl refl
