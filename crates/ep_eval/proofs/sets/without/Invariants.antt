use Rattle.ep_eval.proofs.Words.{◌≡◌, not, ◌&&◌, ℤ, take, run_has, runs_have}
use Rattle.ep_eval.proofs.sets.without.Given as goal

abbrev pub invariant-loop-run : goal.invariant-loop-run
invariant-loop-run l = (n : ℤ) → runs_have n l.parts.items ≡ (runs_have n (take l.run-index l.runs) && not (run_has n l.other))
