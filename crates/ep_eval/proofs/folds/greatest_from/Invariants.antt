use Rattle.ep_eval.proofs.Words.{◌≡◌, take, fold, int_max}
use Rattle.ep_eval.proofs.folds.greatest_from.Given as goal

abbrev pub invariant-loop-other : goal.invariant-loop-other
invariant-loop-other l = l.greatest ≡ fold int_max l.first (take l.other-index l.others)
