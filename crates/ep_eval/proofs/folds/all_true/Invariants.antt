use Rattle.ep_eval.proofs.Words.{◌≡◌, drop, all_one}
use Rattle.ep_eval.proofs.folds.all_true.Given as goal

abbrev pub invariant-loop-part : goal.invariant-loop-part
invariant-loop-part l = all_one l.parts ≡ all_one (drop l.part-index l.parts)
