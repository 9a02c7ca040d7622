use Rattle.std.specs.Prelude.{◌≡◌, take}
use Rattle.sat_split.specs.Cubes.{cube_log}
use Rattle.sat_split.proofs.logs.cube_log.Given as goal

abbrev pub invariant-loop-lit : goal.invariant-loop-lit
invariant-loop-lit l = l.log ≡ cube_log l.formula.clauses (take l.lit-index l.literals)
