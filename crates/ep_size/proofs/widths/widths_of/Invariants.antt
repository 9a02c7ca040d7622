use Rattle.ep_size.proofs.Words.{take, map, plain_span, Widens}
use Rattle.ep_size.proofs.widths.widths_of.Given as goal

abbrev pub invariant-loop-span : goal.invariant-loop-span
invariant-loop-span l = Widens l.all (map plain_span (take l.span-index l.spans))
