use Rattle.ep_eval.proofs.Words.{◌≡◌, drop, any_one}
use Rattle.ep_eval.proofs.folds.any_true.Given as goal

abbrev pub invariant-loop-part : goal.invariant-loop-part
invariant-loop-part l = any_one l.parts ≡ any_one (drop l.part-index l.parts)
