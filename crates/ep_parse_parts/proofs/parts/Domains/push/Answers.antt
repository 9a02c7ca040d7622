use Rattle.std.proofs.Common.{refl}
use Rattle.ep_parse_parts.proofs.PartFacts.{domains_pushed}
use Rattle.ep_parse_parts.proofs.parts.Domains.push.Goals as goal

pub returns-clause-counted : goal.returns-clause-counted
returns-clause-counted c = domains_pushed _ _ c.args.part c.requires.counted c.in_ok-push.ensures.items (c.higher-highest.ensures.greater _ _ c.requires.counted.high c.requires.part.height)
