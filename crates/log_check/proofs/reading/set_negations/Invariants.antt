use Rattle.std.proofs.Common.{map, take}
use Rattle.cnf_core.specs.Literal.{negation}
use Rattle.log_check.specs.Kept.{KeepsTrues}
use Rattle.log_check.proofs.Trues.{IsConsistent}
use Rattle.log_check.proofs.reading.set_negations.Given as goal

abbrev pub invariant-loop-lit : goal.invariant-loop-lit
invariant-loop-lit l = record {
  kept : KeepsTrues l.signs (map negation (take l.lit-index l.clause));
  consistent : IsConsistent l.signs;
}
