use Rattle.std.proofs.Common.{length, rules, sym, subst, ◌≡◌, ℤ, w64, to_z, of_z}
use Rattle.std.proofs.lemmas.Int.{to_z-of_z}
use Rattle.std.specs.Prelude.{OnOk}
use Rattle.ep_ground.specs.Grounds.{StandsOver}
use Rattle.ep_ground.specs.Nodes.{constant}
use Rattle.ep_ground.specs.NodeViews.{plain_node}
use Rattle.ep_flatten.specs.Building.{plain_built}
use Rattle.ep_flatten.specs.Building.{Advances}
use Rattle.ep_flatten.specs.Forms.{TermForm}
use Rattle.ep_flatten.specs.FormViews.{plain_form}
use Rattle.ep_flatten.proofs.NodeKinds.{operation_left}
use Rattle.ep_flatten.proofs.Adding.{has_parts, on_ok_then}
use Rattle.ep_ground.specs.declared.nodes.Node.{Node}
use Rattle.ep_flatten.proofs.building.add_node.Goals as goal

pub returns-in-Const : goal.returns-in-Const
returns-in-Const c =
    let n = c.in-Const.number in
    let old = plain_built c.args.made.now in
    let new = plain_built c.add_number.new.made in
    let same : to_z w64 (of_z w64 n) ≡ n = to_z-of_z w64 n (search rules) in
    on_ok_then c.add_number.result
    (subst (λ (node : Node). OnOk c.add_number.result ((form : TermForm) → Advances old (plain_node node) form new)) (sym c.in-Const.is)
    (subst (λ (m : ℤ). OnOk c.add_number.result ((form : TermForm) → Advances old (constant m) form new)) same c.add_number.ensures))
    (λ f. f (plain_form c.args.form.now))

pub returns-in-Cell : goal.returns-in-Cell
returns-in-Cell c =
    on_ok_then c.add_cell.result
    (subst (λ (node : Node). OnOk c.add_cell.result ((form : TermForm) → Advances (plain_built c.args.made.now) (plain_node node) form (plain_built c.add_cell.new.made))) (sym c.in-Cell.is) c.add_cell.ensures)
    (λ f. f (plain_form c.args.form.now))

pub add_cell-requires : goal.add_cell-requires
unfolding StandsOver
add_cell-requires c = subst (λ (node : Node). StandsOver (length (plain_built c.args.made.now).cells) (plain_node node)) c.in-Cell.is c.requires.stands

pub add_operation-requires : goal.add_operation-requires
add_operation-requires c = record {
  parts = has_parts (length (plain_built c.args.made.now).cells) (plain_node c.args.node.now) c.requires.stands;
  operation = operation_left c.args.node.now c.requires.total c.in_default.not-Const c.in_default.not-Cell;
  small = c.requires.small;
}
