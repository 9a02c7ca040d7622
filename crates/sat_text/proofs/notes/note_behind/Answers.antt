use Rattle.std.proofs.Common.{sym}
use Rattle.sat_text.proofs.NotePieces.{cell_last}
use Rattle.sat_text.proofs.notes.note_behind.Goals as goal

pub returns-in-None : goal.returns-in-None
returns-in-None c = sym (cell_last c.next_piece.result.0.now _ (rw c.in-None.is at c.next_piece.ensures.cuts))
