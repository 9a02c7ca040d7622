use Rattle.std.proofs.Common.{◌≤ℤ◌, ◌-ℤ◌}
use Rattle.ep_base.specs.Runs.{or_zero}
use Rattle.enc_var.specs.Decoding.{decoded}
use Rattle.enc_var.specs.Layouts.{literals_at}
use Rattle.ep_answer.specs.Searches.{kept_values}
use Rattle.ep_answer.proofs.decoding.number_of.Given as goal

abbrev pub invariant-loop-low : goal.invariant-loop-low
invariant-loop-low l = record {
  above : l.low ≤ℤ decoded (kept_values l.fn.solver) (literals_at l.fn.layout l.fn.var);
  below : decoded (kept_values l.fn.solver) (literals_at l.fn.layout l.fn.var) ≤ℤ l.high;
}

abbrev pub decreases-loop-low : goal.decreases-loop-low
decreases-loop-low l = or_zero (l.high -ℤ l.low)
