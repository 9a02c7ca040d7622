use Rattle.std.proofs.Common.{◌≡◌, None}
use Rattle.std.specs.Prelude.{IfSome}
use Rattle.ep_share.specs.Cutting.{AreFarBefore, ArePlacesOfNear, AreTwoPlaces, told_reach}
use Rattle.ep_share.proofs.pairs.best_places.Given as goal

abbrev pub invariant-loop-second : goal.invariant-loop-second
invariant-loop-second l = record {
  places : IfSome l.best (AreTwoPlaces l.parts);
  near : IfSome l.best (ArePlacesOfNear (told_reach l.spans) l.parts);
  far : l.best ≡ None → AreFarBefore (told_reach l.spans) l.parts l.second;
}
