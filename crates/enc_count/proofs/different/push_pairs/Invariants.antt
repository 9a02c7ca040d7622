use Rattle.std.proofs.Common.{◌≡◌, ◌++◌, map, take}
use Rattle.enc_count.proofs.different.push_pairs.Given as goal

abbrev pub invariant-loop-other : goal.invariant-loop-other
invariant-loop-other l = l.pairs.items ≡ l.initial.pairs.items ++ map (λ y. (l.var, y)) (take l.other-index l.others)
