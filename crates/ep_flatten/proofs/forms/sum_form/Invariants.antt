use Rattle.std.proofs.Common.{take, List, length}
use Rattle.ep_ground.specs.Nodes.{GroundNode}
use Rattle.ep_flatten.specs.Forms.{HaveForms}
use Rattle.ep_flatten.specs.FormViews.{plain_forms, plain_sum}
use Rattle.ep_flatten.specs.Sums.{Gathers}
use Rattle.ep_flatten.proofs.forms.sum_form.Given as goal

abbrev pub invariant-loop-part : goal.invariant-loop-part
invariant-loop-part l = (nodes : List GroundNode) → HaveForms nodes (length (plain_forms l.forms)) (plain_forms l.forms) → Gathers nodes l.number (take l.part-index l.parts) (plain_sum l.sum)
