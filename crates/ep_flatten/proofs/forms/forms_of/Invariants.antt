use Rattle.ep_ground.specs.GroundViews.{plain_ground}
use Rattle.ep_flatten.specs.Forms.{HaveForms}
use Rattle.ep_flatten.specs.FormViews.{plain_forms}
use Rattle.ep_flatten.proofs.forms.forms_of.Given as goal

abbrev pub invariant-loop-term : goal.invariant-loop-term
invariant-loop-term l = HaveForms (plain_ground l.g).nodes l.term (plain_forms l.forms.items)
