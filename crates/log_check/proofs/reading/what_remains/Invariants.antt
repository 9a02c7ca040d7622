use Rattle.std.proofs.Common.{◌≡◌, List, drop}
use Rattle.cnf_core.specs.Literal.{Literal}
use Rattle.cnf_core.specs.Reading.{not_false}
use Rattle.log_check.specs.Kept.{KeepsTrues, remaining_of, remaining_with}
use Rattle.log_check.proofs.reading.what_remains.Given as goal

abbrev pub invariant-loop-lit : goal.invariant-loop-lit
invariant-loop-lit l = (trues : List Literal) → KeepsTrues l.signs trues → remaining_with l.found (not_false trues (drop l.lit-index l.clause)) ≡ remaining_of (not_false trues l.clause)
