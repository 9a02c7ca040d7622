use Rattle.std.proofs.Common.{◌≡◌, take}
use Rattle.std.specs.Prelude.{map}
use Rattle.ep_flatten.specs.Saying.{variable_at}
use Rattle.ep_flatten.proofs.lists.places_of.Given as goal

abbrev pub invariant-loop-term : goal.invariant-loop-term
invariant-loop-term l = l.made.items ≡ map (variable_at l.places) (take l.term-index l.terms)
