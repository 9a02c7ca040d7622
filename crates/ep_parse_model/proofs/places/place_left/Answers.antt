use Rattle.std.proofs.Common.{sym}
use Rattle.ep_parse_model.proofs.NextSteps.{place_at_end, place_of_next}
use Rattle.ep_parse_model.proofs.places.place_left.Goals as goal

pub returns-then-is_empty : goal.returns-then-is_empty
returns-then-is_empty c = record { place = place_at_end c.args.text.now _ _ (sym c.if-is_empty.ensures.none) c.end_place.ensures.place }

pub returns : goal.returns
returns c = record { place = place_of_next c.args.text.now _ _ (sym c.if-is_empty.ensures.none) c.place.ensures.next }
