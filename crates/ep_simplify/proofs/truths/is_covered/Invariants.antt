use Rattle.std.proofs.Common.{◌≤ℤ◌, take}
use Rattle.std.specs.List.{All}
use Rattle.ep_simplify.proofs.truths.is_covered.Given as goal

abbrev pub invariant-loop-run : goal.invariant-loop-run
invariant-loop-run l = All (λ run. run.lo ≤ℤ l.x.low → l.x.high ≤ℤ run.hi → ⊥) (take l.run-index l.runs)
