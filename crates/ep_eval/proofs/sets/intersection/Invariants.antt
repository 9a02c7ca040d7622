use Rattle.ep_eval.proofs.Words.{◌≡◌, ◌&&◌, ℤ, take, runs_have}
use Rattle.ep_eval.proofs.sets.intersection.Given as goal

abbrev pub invariant-loop-run : goal.invariant-loop-run
invariant-loop-run l = (n : ℤ) → runs_have n l.parts.items ≡ (runs_have n l.one && runs_have n (take l.run-index l.other))
