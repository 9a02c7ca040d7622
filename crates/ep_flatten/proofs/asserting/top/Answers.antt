use Rattle.std.proofs.Common.{rules, subst, sym, ℕ, ℤ, List, w64, to_z, of_z}
use Rattle.std.proofs.lemmas.Int.{to_z-of_z}
use Rattle.std.specs.Prelude.{IfOk}
use Rattle.ep_flat.specs.Cons.{FlatCon}
use Rattle.ep_flat.specs.FlatViews.{plain_con, plain_kind}
use Rattle.ep_ground.specs.NodeViews.{plain_node}
use Rattle.ep_flatten.specs.Forms.{compared, summed}
use Rattle.ep_flatten.specs.FormViews.{plain_form}
use Rattle.ep_flatten.specs.Tops.{Asserts, TellsForm}
use Rattle.ep_flatten.proofs.Sayings.{plain}
use Rattle.ep_flatten.specs.declared.forms.Form.{Form}
use Rattle.ep_flatten.proofs.Adding.{if_ok_then}
use Rattle.ep_flatten.proofs.Truths.{asserts_compared, asserts_place, needs_summed}
use Rattle.ep_flatten.proofs.asserting.top.Goals as goal

pub returns-in-Own : goal.returns-in-Own
returns-in-Own c =
    subst (λ (form : Form). IfOk c.own_top.result (λ con. Asserts c.args.places.now c.args.term (plain_node c.args.node.now) (plain_form form) (plain_con con))) (sym c.in-Own.is) c.own_top.ensures

pub returns-in-Sum : goal.returns-in-Sum
returns-in-Sum c =
    let node = plain_node c.args.node.now in
    let form = summed c.in-Sum.field-0 c.in-Sum.field-1.items in
    subst (λ (x : Form). IfOk c.truth_of.result (λ con. Asserts c.args.places.now c.args.term node (plain_form x) (plain_con con))) (sym c.in-Sum.is)
    (if_ok_then c.truth_of.result c.truth_of.ensures (λ con e.
    subst (λ (x : FlatCon). Asserts c.args.places.now c.args.term node form x) (sym e)
    (asserts_place c.args.places.now c.args.term node form (needs_summed c.args.term node c.in-Sum.field-0 c.in-Sum.field-1.items c.requires))))

pub returns-in_ok-kind-in-Compare : goal.returns-in_ok-kind-in-Compare
returns-in_ok-kind-in-Compare c =
    let node = plain_node c.args.node.now in
    let op = c.in-Compare.op in
    let parts = c.in-Compare.parts.items in
    let n = c.in-Compare.number in
    let kind = plain_kind c.in_ok-kind-in-Compare.kind in
    let told : TellsForm c.args.places.now node (compared op c.deref.result.now (to_z w64 (of_z w64 n))) kind = c.in_ok-kind-in-Compare.ensures node in
    let tells : TellsForm c.args.places.now node (compared op parts n) kind =
    subst (λ (m : ℤ). TellsForm c.args.places.now node (compared op parts m) kind) (to_z-of_z w64 n (search rules))
    (subst (λ (ps : List (ℤ × ℕ)). TellsForm c.args.places.now node (compared op ps (to_z w64 (of_z w64 n))) kind) c.deref.ensures.value told) in
    subst (λ (form : Form). Asserts c.args.places.now c.args.term node (plain_form form) (plain kind)) (sym c.in-Compare.is)
    (asserts_compared c.args.places.now c.args.term node op parts n kind tells c.requires)
