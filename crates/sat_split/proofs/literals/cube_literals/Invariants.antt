use Rattle.std.specs.Prelude.{◌≡◌, ◌++◌, drop}
use Rattle.sat_split.specs.Cubes.{cube_literals}
use Rattle.sat_split.proofs.literals.cube_literals.Given as goal

abbrev pub invariant-loop-var : goal.invariant-loop-var
invariant-loop-var l = l.literals.items ++ cube_literals l.bits (drop l.var-index l.vars) ≡ cube_literals l.cube l.vars
