use Rattle.ep_size.proofs.Words.{take, map, plain_span, Sums}
use Rattle.ep_size.proofs.sums.sum_all.Given as goal

abbrev pub invariant-loop-span : goal.invariant-loop-span
invariant-loop-span l = Sums l.sum (map plain_span (take l.span-index l.spans))
