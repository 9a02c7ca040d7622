use Rattle.std.proofs.Common.{◌≡◌, ◌++◌, length, map, codes, false}
use Rattle.ep_print.specs.Putting.{continued}
use Rattle.ep_print.specs.Values.{run_text, runs_of}
use Rattle.ep_print.proofs.indices.push_runs.Given as goal

abbrev pub invariant-loop-rest : goal.invariant-loop-rest
invariant-loop-rest l = l.text.items ++ continued (codes ", ") l.started (map run_text (runs_of l.rest)) ≡ l.initial.text.items ++ continued (codes ", ") false (map run_text (runs_of l.indices))

abbrev pub decreases-loop-rest : goal.decreases-loop-rest
decreases-loop-rest l = length l.rest
