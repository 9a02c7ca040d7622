use Rattle.std.proofs.Common.{refl}
use Rattle.ep_parse_parts.proofs.PartFacts.{terms_pushed}
use Rattle.ep_parse_parts.proofs.parts.Terms.push.Goals as goal

pub returns-clause-counted : goal.returns-clause-counted
returns-clause-counted c = terms_pushed _ _ _ _ c.requires.counted c.requires.part c.in_ok-push.ensures.items (c.higher-highest.ensures.greater _ _ c.requires.counted.high c.requires.part.height) refl
