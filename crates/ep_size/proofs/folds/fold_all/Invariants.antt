use Rattle.ep_size.proofs.Words.{take, map, plain_span, Folds}
use Rattle.ep_size.proofs.folds.fold_all.Given as goal

abbrev pub invariant-loop-span : goal.invariant-loop-span
invariant-loop-span l = Folds l.folding l.fn.op (map plain_span (take l.span-index l.spans))
