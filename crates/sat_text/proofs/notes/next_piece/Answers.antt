use Rattle.std.proofs.Common.{eqb}
use Rattle.sat_text.proofs.Cuts.{piece_taken, piece_last}
use Rattle.sat_text.proofs.notes.next_piece.Goals as goal

pub returns-in-Some-clause-cuts : goal.returns-in-Some-clause-cuts
returns-in-Some-clause-cuts c = piece_taken (λ b. eqb b c.args.separator) c.args.bytes.now c.split_at.result.1.now c.in-Some.end c.in-Some.ensures c.split_at.ensures.back

pub returns-in-None-clause-cuts : goal.returns-in-None-clause-cuts
returns-in-None-clause-cuts c = piece_last (λ b. eqb b c.args.separator) c.args.bytes.now c.in-None.ensures
