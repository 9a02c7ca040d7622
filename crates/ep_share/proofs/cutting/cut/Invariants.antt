use Rattle.ep_share.proofs.Cuts.{IsLeft}
use Rattle.ep_share.proofs.cutting.cut.Given as goal

abbrev pub invariant-loop-turn : goal.invariant-loop-turn
invariant-loop-turn l = IsLeft l.cells l.fn.made l.fn.parts.items l.made l.left.items l._turn
