use Rattle.std.proofs.Common.{◌≡◌, ◌⊎◌, take}
use Rattle.sat_search.specs.Analysis.{HasTwoFrom}
use Rattle.sat_search.proofs.GoingBack.{HasOneFrom}
use Rattle.sat_search.proofs.levels.second_level.Given as goal

abbrev pub invariant-loop-lit : goal.invariant-loop-lit
invariant-loop-lit l = record {
  one : (l.highest ≡ 0) ⊎ HasOneFrom l.state.trail l.highest (take l.lit-index l.lits);
  two : (l.second ≡ 0) ⊎ HasTwoFrom l.state.trail l.second (take l.lit-index l.lits);
}
