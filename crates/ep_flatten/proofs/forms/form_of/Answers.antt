use Rattle.std.proofs.Common.{rules, sym, subst, w64, to_z, of_z}
use Rattle.std.proofs.lemmas.Int.{to_z-of_z}
use Rattle.ep_ground.specs.declared.nodes.Node.{Node}
use Rattle.ep_ground.specs.NodeViews.{plain_node}
use Rattle.ep_flatten.specs.Forms.{IsNextForm, summed}
use Rattle.ep_flatten.specs.FormViews.{plain_forms}
use Rattle.ep_flatten.proofs.FormLaws.{next_constant, next_own}
use Rattle.ep_flatten.proofs.forms.form_of.Goals as goal

pub returns-in-Const : goal.returns-in-Const
returns-in-Const c =
    subst (λ (node : Node). IsNextForm (plain_forms c.args.forms.now) (plain_node node) (summed (to_z w64 (of_z w64 c.in-Const.number)) c.new.result.items)) (sym c.in-Const.is)
    (next_constant (plain_forms c.args.forms.now) c.in-Const.number (to_z w64 (of_z w64 c.in-Const.number)) c.new.result.items (to_z-of_z w64 c.in-Const.number (search rules)) c.new.ensures.items)

pub returns-in_default : goal.returns-in_default
returns-in_default c = next_own (plain_forms c.args.forms.now) (plain_node c.args.node.now)
