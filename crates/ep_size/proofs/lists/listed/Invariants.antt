use Rattle.ep_size.proofs.Words.{◌≡◌, ◌≤◌, ◌++◌, length, IsWalk, numbers_left}
use Rattle.ep_size.proofs.lists.listed.Given as goal

abbrev pub decreases-loop-number : goal.decreases-loop-number
decreases-loop-number l = length (numbers_left l.walk)

abbrev pub invariant-loop-number : goal.invariant-loop-number
invariant-loop-number l = (IsWalk l.walk) × (l.set ≡ l.numbers.items ++ numbers_left l.walk) × (length l.numbers.items ≤ l.count)
