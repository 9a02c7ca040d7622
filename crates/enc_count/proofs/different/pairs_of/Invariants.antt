use Rattle.std.proofs.Common.{◌≡◌, ◌++◌, drop}
use Rattle.enc_count.specs.Different.{all_pairs}
use Rattle.enc_count.proofs.different.pairs_of.Given as goal

abbrev pub invariant-loop-i : goal.invariant-loop-i
invariant-loop-i l = l.pairs.items ++ all_pairs (drop l.i l.vars) ≡ all_pairs l.vars
