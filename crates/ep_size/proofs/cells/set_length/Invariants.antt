use Rattle.ep_size.proofs.Words.{◌≡◌, ◌+◌, ◌≤◌, drop, length, numbers, MOST_TOLD, capped}
use Rattle.ep_size.proofs.cells.set_length.Given as goal

abbrev pub invariant-loop-run : goal.invariant-loop-run
invariant-loop-run l = record {
  whole : capped (l.count + length (numbers (drop l.run-index l.run-items))) ≡ capped (length l.set);
  told : l.count ≤ MOST_TOLD;
}
