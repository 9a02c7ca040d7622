use Rattle.std.proofs.Common.{List, drop}
use Rattle.cnf_core.specs.Literal.{Literal}
use Rattle.cnf_core.specs.Reading.{reading_succeeds}
use Rattle.log_check.specs.Verdict.{Live, hinted_clauses}
use Rattle.log_check.specs.Kept.{KeepsTrues, KeepsLive}
use Rattle.log_check.proofs.Hints.{GoesOn}
use Rattle.log_check.proofs.reading.reads.Given as goal

abbrev pub invariant-loop-hint : goal.invariant-loop-hint
invariant-loop-hint l =
    (trues : List Literal) (numbered : List Live) → KeepsTrues l.initial.signs trues → KeepsLive l.lives l.index numbered
    → GoesOn l.signs numbered (drop l.hint-index l.hints) (reading_succeeds trues (hinted_clauses numbered l.hints))
