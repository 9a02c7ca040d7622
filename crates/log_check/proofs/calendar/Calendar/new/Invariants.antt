use Rattle.std.proofs.Common.{take}
use Rattle.sat_proof.specs.Lines.{row_lines}
use Rattle.log_check.specs.Parts.{TellsFirst}
use Rattle.log_check.proofs.calendar.Calendar.new.Given as goal

abbrev pub invariant-loop-index : goal.invariant-loop-index
invariant-loop-index l = TellsFirst l.lives l.newest l.until l.clauses (row_lines l.proof (take l.index l.rows))
