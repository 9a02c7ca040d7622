use Rattle.std.proofs.Common.{eqb, sym}
use Rattle.sat_text.proofs.NotePieces.{literal_more}
use Rattle.sat_text.proofs.notes.note_of_literal.Goals as goal

pub returns-in-Some : goal.returns-in-Some
returns-in-Some c =
    sym (literal_more (λ b. eqb b 32) c.args.cell.now c.args.value.now c.next_piece.result.0.now c.args.bytes.now c.in-Some.field-0.now (rw c.in-Some.is at c.next_piece.ensures.cuts))
