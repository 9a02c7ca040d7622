use Rattle.std.specs.Prelude.{map}
use Rattle.ep_flat.specs.FlatViews.{plain_con}
use Rattle.ep_ground.specs.GroundViews.{plain_ground}
use Rattle.ep_flatten.specs.Building.{HasTops, plain_built}
use Rattle.ep_flatten.proofs.asserting.tops_of.Given as goal

abbrev pub invariant-loop-term : goal.invariant-loop-term
invariant-loop-term l = HasTops (plain_ground l.g) l.marks.asserted.items (plain_built l.made) l.term (map plain_con l.cons.items)
