use Rattle.std.proofs.Common.{◌≡◌}
use Rattle.ep_base.specs.Tokens.{place_at}
use Rattle.ep_parse_model.proofs.places.end_place.Given as goal

abbrev pub invariant-loop-byte : goal.invariant-loop-byte
invariant-loop-byte l = l.place ≡ place_at l.text l.byte-index
