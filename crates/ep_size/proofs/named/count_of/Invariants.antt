use Rattle.ep_size.proofs.Words.{◌≡◌, ◌+◌, drop, length, numbers}
use Rattle.ep_size.proofs.named.count_of.Given as goal

abbrev pub invariant-loop-run : goal.invariant-loop-run
invariant-loop-run l = l.count + length (numbers (drop l.run-index l.run-items)) ≡ length l.set
