use Rattle.std.proofs.Common.{◌≤◌, length}
use Rattle.ep_ground.specs.GroundViews.{plain_ground}
use Rattle.ep_flatten.specs.FormViews.{plain_forms}
use Rattle.ep_flatten.specs.Marking.{AreMarksFrom}
use Rattle.ep_flatten.proofs.marks.marks_of.Given as goal

abbrev pub invariant-loop-term : goal.invariant-loop-term
invariant-loop-term l = (l.term ≤ length (plain_ground l.g).nodes) × AreMarksFrom (plain_ground l.g) (plain_forms l.forms) l.term l.term l.marks.asserted.items l.marks.marked.items

abbrev pub decreases-loop-term : goal.decreases-loop-term
decreases-loop-term l = l.term
