use Rattle.ep_size.proofs.Words.{take, map, plain_span, Hulls}
use Rattle.ep_size.proofs.remaining.hull_over.Given as goal

abbrev pub invariant-loop-span : goal.invariant-loop-span
invariant-loop-span l = Hulls l.hull (map plain_span (take l.span-index l.spans))
