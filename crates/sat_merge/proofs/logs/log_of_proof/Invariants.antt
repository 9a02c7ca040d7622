use Rattle.std.specs.Prelude.{take}
use Rattle.sat_proof.specs.Lines.{row_lines}
use Rattle.sat_merge.proofs.Reading.{IsRead}
use Rattle.sat_merge.proofs.logs.log_of_proof.Given as goal

abbrev pub invariant-loop-row : goal.invariant-loop-row
invariant-loop-row l = IsRead l.formula.clauses (row_lines l.proof (take l.row-index l.rows)) l.ids.items l.log.events
