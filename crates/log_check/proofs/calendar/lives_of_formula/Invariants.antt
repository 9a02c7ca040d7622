use Rattle.std.proofs.Common.{take, []}
use Rattle.log_check.specs.Parts.{TellsFirst}
use Rattle.log_check.proofs.calendar.lives_of_formula.Given as goal

abbrev pub invariant-loop-index : goal.invariant-loop-index
invariant-loop-index l = TellsFirst l.lives l.index l.until (take l.index l.clauses) []
