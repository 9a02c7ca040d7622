use Rattle.ep_eval.proofs.Words.{◌≡◌, ◌≤ℤ◌, pos, take, times_in}
use Rattle.ep_eval.proofs.counts.times.Given as goal

abbrev pub invariant-loop-part : goal.invariant-loop-part
invariant-loop-part l = record {
  value : l.times ≡ times_in (take l.part-index l.parts) l.number;
  low : pos 0 ≤ℤ l.times;
  high : l.times ≤ℤ pos l.part-index;
}
