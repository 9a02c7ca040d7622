use Rattle.sat_merge.proofs.Hinted.{GoesOn}
use Rattle.sat_merge.proofs.places.places_of.Given as goal

abbrev pub invariant-loop-hint : goal.invariant-loop-hint
invariant-loop-hint l = GoesOn l.ids l.hints l.hint-index l.places.items
