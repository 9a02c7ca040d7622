use Rattle.std.proofs.Common.{rules, sym, subst, ℕ, ℤ, List, w64, to_z, of_z}
use Rattle.std.specs.Prelude.{IfOk, map}
use Rattle.std.specs.List.{All}
use Rattle.ep_base.specs.Reads.{IsWithinNumbers}
use Rattle.std.proofs.lemmas.Int.{to_z-of_z}
use Rattle.ep_flat.specs.FlatViews.{plain_con, plain_kind}
use Rattle.ep_ground.specs.NodeViews.{plain_node}
use Rattle.ep_ground.specs.Nodes as nodes
use Rattle.ep_flatten.specs.Forms.{compared, form_coefficients}
use Rattle.ep_flatten.specs.FormViews.{plain_form}
use Rattle.ep_flatten.specs.Saying.{SaysOfNode, SaysForm}
use Rattle.ep_flatten.specs.declared.forms.Form.{Form}
use Rattle.ep_flatten.proofs.Adding.{if_ok_then}
use Rattle.ep_flatten.proofs.Sayings.{small_parts, says_form, says_own, says_summed, told}
use Rattle.ep_flatten.specs.Tops.{TellsForm}
use Rattle.ep_flatten.proofs.constraints.form_constraint.Goals as goal

pub returns-in-Own : goal.returns-in-Own
returns-in-Own c =
    let node = plain_node c.args.node.now in
    subst (λ (form : Form). IfOk c.constraint.result (λ con. SaysForm c.args.places.now node (plain_form form) c.args.variable (plain_con con))) (sym c.in-Own.is)
    (if_ok_then c.constraint.result c.constraint.ensures (λ con says. says_own c.args.places.now node c.args.variable (plain_con con) says))

pub returns-in-Sum : goal.returns-in-Sum
returns-in-Sum c =
    let node = plain_node c.args.node.now in
    let n = c.in-Sum.number in
    let parts = c.in-Sum.parts.items in
    subst (λ (form : Form). IfOk c.sum.result (λ con. SaysForm c.args.places.now node (plain_form form) c.args.variable (plain_con con))) (sym c.in-Sum.is)
    (if_ok_then c.sum.result c.sum.ensures (λ con says.
    says_summed c.args.places.now node n parts c.args.variable (plain_con con)
    (subst (λ (m : ℤ). SaysOfNode c.args.places.now (nodes.sum m parts) c.args.variable (plain_con con)) (to_z-of_z w64 n (search rules))
    (subst (λ (ps : List (ℤ × ℕ)). SaysOfNode c.args.places.now (nodes.sum (to_z w64 (of_z w64 n)) ps) c.args.variable (plain_con con)) c.deref.ensures.value says))))

pub returns-in_ok-kind-in-Compare : goal.returns-in_ok-kind-in-Compare
returns-in_ok-kind-in-Compare c =
    let node = plain_node c.args.node.now in
    let op = c.in-Compare.op in
    let parts = c.in-Compare.parts.items in
    let n = c.in-Compare.number in
    let kind = plain_kind c.in_ok-kind-in-Compare.kind in
    let told_is : TellsForm c.args.places.now node (compared op c.deref-in-Compare.result.now (to_z w64 (of_z w64 n))) kind = c.in_ok-kind-in-Compare.ensures node in
    let tells : TellsForm c.args.places.now node (compared op parts n) kind =
    subst (λ (m : ℤ). TellsForm c.args.places.now node (compared op parts m) kind) (to_z-of_z w64 n (search rules))
    (subst (λ (ps : List (ℤ × ℕ)). TellsForm c.args.places.now node (compared op ps (to_z w64 (of_z w64 n))) kind) c.deref-in-Compare.ensures.value told_is) in
    subst (λ (form : Form). SaysForm c.args.places.now node (plain_form form) c.args.variable (told c.args.variable kind)) (sym c.in-Compare.is)
    (says_form c.args.places.now node (compared op parts n) c.args.variable kind tells)

pub constraint-requires : goal.constraint-requires
unfolding form_coefficients
constraint-requires c = record {
  parts = c.requires.parts;
  operation = c.requires.operation;
  small = subst (λ (form : Form). All IsWithinNumbers (form_coefficients (plain_node c.args.node.now) (plain_form form))) c.in-Own.is c.requires.small;
}

pub sum-requires : goal.sum-requires
unfolding form_coefficients
sum-requires c =
    small_parts c.deref.result.now
    (subst (λ (ps : List (ℤ × ℕ)). All IsWithinNumbers (map (λ p. p.0) ps)) (sym c.deref.ensures.value)
    (subst (λ (form : Form). All IsWithinNumbers (form_coefficients (plain_node c.args.node.now) (plain_form form))) c.in-Sum.is c.requires.small))
