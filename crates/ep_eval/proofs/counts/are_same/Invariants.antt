use Rattle.ep_eval.proofs.Words.{◌≡◌, drop, same_numbers}
use Rattle.ep_eval.proofs.counts.are_same.Given as goal

abbrev pub invariant-loop-i : goal.invariant-loop-i
invariant-loop-i l = same_numbers l.left l.right ≡ same_numbers (drop l.i l.left) (drop l.i l.right)
