use Rattle.std.proofs.Common.{◌≡◌, map, take}
use Rattle.cnf_core.specs.Events.{plain_note}
use Rattle.enc_var.specs.Notes.{cell_notes}
use Rattle.enc_var.proofs.notes.notes_of_cells.Given as goal

abbrev pub invariant-loop-k : goal.invariant-loop-k
invariant-loop-k l = map plain_note l.notes.items ≡ cell_notes l.variables (take l.k l.cells) l.places
