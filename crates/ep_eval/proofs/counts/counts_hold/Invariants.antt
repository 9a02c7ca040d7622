use Rattle.ep_eval.proofs.Words.{◌≡◌, drop, counts_hold}
use Rattle.ep_eval.proofs.counts.counts_hold.Given as goal

abbrev pub invariant-loop-i : goal.invariant-loop-i
invariant-loop-i l = counts_hold l.op l.parts l.values l.counts ≡ counts_hold l.op l.parts (drop l.i l.values) (drop l.i l.counts)
