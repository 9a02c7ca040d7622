use Rattle.ep_eval.proofs.Words.{◌≡◌, take, fold, int_min}
use Rattle.ep_eval.proofs.folds.least_from.Given as goal

abbrev pub invariant-loop-other : goal.invariant-loop-other
invariant-loop-other l = l.least ≡ fold int_min l.first (take l.other-index l.others)
