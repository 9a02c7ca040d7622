use Rattle.std.proofs.Common.{take}
use Rattle.std.specs.List.{All}
use Rattle.ep_reach.specs.Reaching.{HasFewParts}
use Rattle.ep_share.proofs.sharing.have_few_parts.Given as goal

abbrev pub invariant-loop-term : goal.invariant-loop-term
invariant-loop-term l = All HasFewParts (take l.term l.arena)
