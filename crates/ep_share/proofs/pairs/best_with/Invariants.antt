use Rattle.ep_share.proofs.Best.{SoFar}
use Rattle.ep_share.specs.Cutting.{told_reach}
use Rattle.ep_share.proofs.pairs.best_with.Given as goal

abbrev pub invariant-loop-first : goal.invariant-loop-first
invariant-loop-first l = SoFar (told_reach l.spans) l.parts l.second l.first l.found
