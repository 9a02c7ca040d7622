use Rattle.ep_ground.specs.GroundViews.{plain_ground}
use Rattle.ep_flatten.specs.Building.{IsBuilt, plain_built}
use Rattle.ep_flatten.proofs.flattening.built.Given as goal

abbrev pub invariant-loop-term : goal.invariant-loop-term
invariant-loop-term l = IsBuilt (plain_ground l.g) l.marks.marked.items l.term (plain_built l.made)
