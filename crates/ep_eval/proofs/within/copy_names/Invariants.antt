use Rattle.ep_eval.proofs.Words.{◌≡◌, take}
use Rattle.ep_eval.proofs.within.copy_names.Given as goal

abbrev pub invariant-loop-own : goal.invariant-loop-own
invariant-loop-own l = l.copies.items ≡ take l.own-index l.typed
