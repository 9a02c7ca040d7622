use Rattle.std.proofs.Common.{rules, sym, ap, ◌∙◌, ◌+◌, ◌<◌, [], ◌∷◌, ◌++◌, length}
use Rattle.std.specs.Prelude.{map, slice_index_or}
use Rattle.std.proofs.lemmas.List.{get_or_default}
use Rattle.ep_base.specs.Intervals.{spanned}
use Rattle.ep_flat.specs.FlatViews.{plain_con}
use Rattle.ep_numbers.specs.Spans.{interval_of}
use Rattle.ep_flatten.specs.Building.{HasSmall, plain_built}
use Rattle.ep_flatten.proofs.Adding.{as_built, cell_advances, on_ok_five, spans_pushed}
use Rattle.ep_flatten.proofs.building.add_cell.Goals as goal

pub returns : goal.returns
returns c =
    let old = c.args.made.now in
    let new = c.note.new.made in
    let k = c.args.place in
    let span = c.cell_span-span.result in
    let below : k < length old.cells.items = search rules in
    let variable = c.index-variable.ensures ∙ sym (get_or_default old.cells.items k 0 c.index-variable.result.now below) in
    let holds : HasSmall (spanned (slice_index_or old.vars.items c.index-variable.result.now [])) (interval_of span) = c.cell_span-span.ensures.holds in
    on_ok_five c.note.result c.note.ensures.places c.note.ensures.spans c.note.ensures.vars c.note.ensures.cons c.note.ensures.cells
    (λ p s v n l. λ form g marks t built at bounded.
    as_built g marks (t + 1) new.vars.items old.vars.items (map plain_con new.cons.items) (map plain_con old.cons.items)
    new.places.items (old.places.items ++ c.index-variable.result.now ∷ []) (map interval_of new.spans.items) (map interval_of old.spans.items ++ interval_of span ∷ []) new.cells.items old.cells.items
    v (ap (map plain_con) n) p
    (spans_pushed old.spans.items new.spans.items span s)
    l
    (cell_advances (plain_built old) k c.index-variable.result.now form (interval_of span) g marks t variable below c.cell_span-span.ensures.small holds built at bounded))
