use Rattle.std.proofs.Common.{◌≡◌, length, take}
use Rattle.opb_solve.proofs.solving.values_from.Given as goal
use Rattle.opb_solve.specs.Meant.{values_from}

abbrev pub invariant-loop-var : goal.invariant-loop-var
invariant-loop-var l = l.values.items ≡ values_from (take (length l.yielded) l.vars) l.numbers
