use Rattle.ep_unroll.proofs.Words.{◌≡◌, ◌++◌, take}
use Rattle.ep_unroll.proofs.choices.push_keys.Given as goal

abbrev pub invariant-loop-other : goal.invariant-loop-other
invariant-loop-other l = l.keys.items ≡ l.initial.keys.items ++ take l.other-index l.others
