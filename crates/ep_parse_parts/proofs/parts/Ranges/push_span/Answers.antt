use Rattle.std.proofs.Common.{◌∷◌, [], ◌++◌, map, ap, refl, ◌∙◌}
use Rattle.ep_parse_parts.proofs.PartFacts.{map_more, ranges_pushed, read_span}
use Rattle.ep_parse_parts.specs.DomainReaders.{of_span}
use Rattle.ep_parse_parts.specs.Gathered.{end_tree, range_read}
use Rattle.ep_parse_parts.proofs.parts.Ranges.push_span.Goals as goal

pub returns : goal.returns
returns c =
    let more = ap (λ rs. map range_read rs) c.in_ok-push.ensures.items ∙ map_more range_read _ _ ∙ ap (λ r. map range_read c.args.self.now.items.items ++ r ∷ []) (read_span c.args.first.end c.args.last.end) in
    record { pushed = more; counted = ranges_pushed _ _ (of_span (end_tree c.args.first.end) (end_tree c.args.last.end)) c.requires.counted more (c.higher-highest.ensures.greater _ _ c.requires.counted.high (c.higher-ends.ensures.greater _ _ c.requires.first.high c.requires.last.high)) }
