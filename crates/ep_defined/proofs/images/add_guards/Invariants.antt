use Rattle.std.proofs.Common.{◌≡◌, ◌++◌, take}
use Rattle.ep_defined.specs.Images.{guards_in}
use Rattle.ep_defined.proofs.images.add_guards.Given as goal

abbrev pub invariant-loop-term : goal.invariant-loop-term
invariant-loop-term l = l.guards.items ≡ l.fn.guards.items ++ guards_in l.images (take l.term-index l.terms)
