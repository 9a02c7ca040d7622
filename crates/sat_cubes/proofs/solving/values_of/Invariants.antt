use Rattle.std.specs.Prelude.{IfSome}
use Rattle.sat_cubes.specs.Solving.{AreValues}
use Rattle.sat_cubes.proofs.solving.values_of.Given as goal

abbrev pub invariant-loop-place : goal.invariant-loop-place
invariant-loop-place l = IfSome l.solver.kept (λ trues. AreValues trues l.place l.values.items)
