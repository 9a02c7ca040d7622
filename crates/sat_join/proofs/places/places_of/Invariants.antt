use Rattle.std.specs.Prelude.{take}
use Rattle.sat_join.specs.Joins.{ArePlaces}
use Rattle.sat_join.proofs.places.places_of.Given as goal

abbrev pub invariant-loop-hint : goal.invariant-loop-hint
invariant-loop-hint l = ArePlaces l.givens l.literals l.first (take l.hint-index l.hints) l.places.items
