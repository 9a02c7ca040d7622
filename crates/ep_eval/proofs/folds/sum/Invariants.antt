use Rattle.ep_eval.proofs.Words.{◌≡◌, ◌+ℤ◌, ◌≤◌, ◌*◌, drop, unsigned_abs, sum_of}
use Rattle.ep_eval.proofs.folds.sum.Given as goal

abbrev pub invariant-loop-part : goal.invariant-loop-part
invariant-loop-part l = record {
  value : sum_of l.parts ≡ l.sum +ℤ sum_of (drop l.part-index l.parts);
  near : unsigned_abs l.sum ≤ 9223372036854775808 * l.part-index;
}
