use Rattle.std.proofs.Common.{◌-◌, length}
use Rattle.enc_atoms.specs.Atoms.{Adds}
use Rattle.enc_arith.specs.Functions.{function_value}
use Rattle.enc_arith.proofs.Running.{SaysTo}
use Rattle.enc_arith.proofs.runs.add_function.Given as goal

abbrev pub invariant-runs : goal.invariant-runs
invariant-runs l = Adds l.fn.layout l.fn.f l.fn.layout l.f (SaysTo l.fn.when l.fn.y l.fn.target.truth l.fn.target.result (function_value l.fn.function) l.numbers.items l.start)

abbrev pub decreases-runs : goal.decreases-runs
decreases-runs l = length l.numbers.items - l.start
