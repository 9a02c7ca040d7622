use Rattle.std.proofs.Common.{◌<◌, length, get_or, map, ap, ◌∙◌, arith}
use Rattle.std.proofs.lemmas.List.{get_or_default}
use Rattle.cnf_core.specs.Events.{plain_note}
use Rattle.enc_var.specs.Notes.{cell_notes}
use Rattle.enc_var.proofs.Noting.{more_cells}
use Rattle.enc_var.proofs.notes.notes_of_cells.Goals as goal

pub loop-k-init : goal.loop-k-init
unfolding cell_notes
loop-k-init c = ap (map plain_note) c.new-notes.ensures.items

pub loop-k-preserved : goal.loop-k-preserved
loop-k-preserved c =
    let places = c.args.places.now in
    let variables = c.args.variables.now in
    let k = c.loop-k.k in
    let low : k < length c.args.cells.now = omega (arith, c.loop-k-test.true) in
    let within : k < length places = omega (arith, low, c.requires.long) in
    let there : get_or places k 0 < length variables = c.requires.there k 0 within in
    more_cells variables c.args.cells.now places _ _ k c.index-cells-k.result 0 c.index-variables-places.result low within c.index-cells-k.is
    (c.index-variables-places.is ∙ get_or_default variables (get_or places k 0) _ _ there)
    c.requires.values c.loop-k.invariant c.in_ok-push_notes.ensures
