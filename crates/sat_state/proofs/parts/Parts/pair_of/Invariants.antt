use Rattle.std.proofs.Common.{take, All}
use Rattle.sat_state.proofs.Retired.{IsNotGuarded}
use Rattle.sat_state.proofs.parts.Parts.pair_of.Given as goal

-- none of the literals that were looked at is false and guarded
abbrev pub invariant-loop-found : goal.invariant-loop-found
invariant-loop-found l = All (IsNotGuarded l.self l.number) (take l.found-index l.lits)
