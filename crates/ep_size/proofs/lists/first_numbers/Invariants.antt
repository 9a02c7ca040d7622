use Rattle.ep_size.proofs.Words.{◌≡◌, pos, counting}
use Rattle.ep_size.proofs.lists.first_numbers.Given as goal

abbrev pub invariant-loop-i : goal.invariant-loop-i
invariant-loop-i l = l.numbers.items ≡ counting (pos 1) l.i
