use Rattle.std.proofs.Common.{refl}
use Rattle.ep_parse_parts.proofs.PartFacts.{parts_pushed}
use Rattle.ep_parse_parts.proofs.parts.Parts.push.Goals as goal

pub returns-clause-counted : goal.returns-clause-counted
returns-clause-counted c = parts_pushed _ _ _ c.requires.counted c.requires.part c.in_ok-push.ensures.items (c.higher-highest.ensures.greater _ _ c.requires.counted.high c.requires.part.height) refl
