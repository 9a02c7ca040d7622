use Rattle.ep_eval.proofs.Words.{◌≡◌, ◌&&◌, ◌||◌, ℤ, take, run_has, runs_have}
use Rattle.ep_eval.proofs.sets.add_overlaps.Given as goal

abbrev pub invariant-loop-run : goal.invariant-loop-run
invariant-loop-run l =
    (n : ℤ) → runs_have n l.parts.items ≡ (runs_have n l.fn.parts.items || (runs_have n (take l.run-index l.runs) && run_has n l.other))
