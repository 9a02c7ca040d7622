use Rattle.std.proofs.Common.{take}
use Rattle.std.specs.List.{All}
use Rattle.ep_ground.specs.Grounds.{StandsOver}
use Rattle.ep_reach.proofs.checks.all_stand_over.Given as goal

abbrev pub invariant-loop-term : goal.invariant-loop-term
invariant-loop-term l = All (StandsOver l.cells) (take l.term l.arena)
