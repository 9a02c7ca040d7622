use Rattle.ep_unroll.proofs.Words.{◌≡◌, ◌++◌, take}
use Rattle.ep_unroll.proofs.picks.push_terms.Given as goal

abbrev pub invariant-loop-other : goal.invariant-loop-other
invariant-loop-other l = l.terms.items ≡ l.initial.terms.items ++ take l.other-index l.others
