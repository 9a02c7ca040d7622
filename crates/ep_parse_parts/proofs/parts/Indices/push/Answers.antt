use Rattle.std.proofs.Common.{refl}
use Rattle.ep_parse_parts.proofs.PartFacts.{index_pushed}
use Rattle.ep_parse_parts.proofs.parts.Indices.push.Goals as goal

pub returns-clause-counted : goal.returns-clause-counted
returns-clause-counted c = index_pushed _ _ c.args.index c.requires.counted c.in_ok-push.ensures.items (c.higher-highest.ensures.greater _ _ c.requires.counted.high c.requires.index.height) refl
