use Rattle.ep_explain.proofs.Only.{IsOnly}
use Rattle.ep_explain.proofs.left.only_violated.Given as goal

abbrev pub invariant-loop-place : goal.invariant-loop-place
invariant-loop-place l = IsOnly l.violated l.left l.place l.only
