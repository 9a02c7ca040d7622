use Rattle.std.proofs.Common.{◌∷◌, [], ◌++◌, map, ap, refl, ◌∙◌}
use Rattle.ep_parse_parts.proofs.PartFacts.{generators_pushed, map_more}
use Rattle.ep_parse_parts.specs.Gathered.{as_read}
use Rattle.ep_parse_parts.proofs.parts.Generators.push.Goals as goal

pub returns : goal.returns
returns c =
    let more = ap (λ gs. map as_read gs) c.in_ok-push.ensures.items ∙ map_more as_read _ _ in
    record { pushed = more; counted = generators_pushed _ _ _ c.requires.counted more (c.higher-highest.ensures.greater _ _ c.requires.counted.high c.requires.domain.height) }
