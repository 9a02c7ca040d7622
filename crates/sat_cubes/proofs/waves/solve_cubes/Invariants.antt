use Rattle.std.specs.Prelude.{◌-◌, length}
use Rattle.sat_cubes.specs.Answers.{AreRefutedWithin}
use Rattle.sat_cubes.specs.Solving.{IsSoFar}
use Rattle.sat_cubes.proofs.waves.solve_cubes.Given as goal

abbrev pub invariant-waves : goal.invariant-waves
invariant-waves g l = record {
  so_far : IsSoFar l.formula l.vars.items l.ends.items l.joined;
  refuted_within : AreRefutedWithin l.formula.clauses l.vars.items (length l.ends.items) l.budget;
}

abbrev pub decreases-waves : goal.decreases-waves
decreases-waves g l = l.total - length l.ends.items
