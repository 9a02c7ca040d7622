use Rattle.std.proofs.Common.{◌≤◌, take, length, All, Contains}
use Rattle.sat_state.proofs.parts.are_within.Given as goal

-- of the first ones, up to the place, all are among the others
abbrev pub invariant-loop-lit : goal.invariant-loop-lit
invariant-loop-lit l = record {
  within : l.place ≤ length l.few;
  all : All (Contains l.many) (take l.place l.few);
}
