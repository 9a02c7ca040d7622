use Rattle.std.proofs.Common.{◌∷◌, [], ◌++◌, map, ap, refl, ◌∙◌}
use Rattle.ep_parse_parts.proofs.PartFacts.{map_more, ranges_pushed, read_one}
use Rattle.ep_parse_parts.specs.DomainReaders.{of_number}
use Rattle.ep_tree.specs.Views.{expr_tree}
use Rattle.ep_parse_parts.specs.Gathered.{range_read}
use Rattle.ep_parse_parts.proofs.parts.Ranges.push_one.Goals as goal

pub returns : goal.returns
returns c =
    let more = ap (λ rs. map range_read rs) c.in_ok-push.ensures.items ∙ map_more range_read _ _ ∙ ap (λ r. map range_read c.args.self.now.items.items ++ r ∷ []) (read_one c.args.number.expr) in
    record { pushed = more; counted = ranges_pushed _ _ (of_number (expr_tree c.args.number.expr)) c.requires.counted more (c.higher-highest.ensures.greater _ _ c.requires.counted.high c.requires.number.height) }
