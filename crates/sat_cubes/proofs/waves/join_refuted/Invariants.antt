use Rattle.std.specs.Prelude.{◌≡◌, ◌+◌, ℕ, length}
use Rattle.sat_cubes.specs.Answers.{AreRefutedWithin}
use Rattle.sat_cubes.specs.Solving.{AreSolved, IsSoFar}
use Rattle.sat_cubes.proofs.waves.join_refuted.Given as goal

abbrev pub invariant-loop-index : goal.invariant-loop-index
invariant-loop-index l = record {
  so_far : IsSoFar l.formula l.vars l.ends.items l.joined;
  count : length l.ends.items ≡ length l.fn.ends.items + l.index;
  refuted_within : (budget : ℕ) → AreSolved l.formula l.vars (length l.fn.ends.items) budget l.wave
      → AreRefutedWithin l.formula.clauses l.vars (length l.fn.ends.items) budget → AreRefutedWithin l.formula.clauses l.vars (length l.ends.items) budget;
}
