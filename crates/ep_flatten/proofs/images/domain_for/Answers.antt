use Rattle.std.proofs.Common.{◌≡◌, ℕ, ℤ, List, of_z, rules, subst, sym, to_z, w64}
use Rattle.std.specs.Prelude.{IfOk}
use Rattle.std.proofs.lemmas.Int.{to_z-of_z}
use Rattle.ep_ground.specs.NodeViews.{plain_node}
use Rattle.ep_ground.specs.Nodes as nodes
use Rattle.ep_numbers.specs.Spans.{interval_of}
use Rattle.ep_flatten.specs.FormViews.{plain_form}
use Rattle.ep_flatten.specs.Forms.{own}
use Rattle.ep_flatten.specs.Images.{HoldsImage}
use Rattle.ep_flatten.specs.declared.forms.Form.{Form}
use Rattle.ep_flatten.proofs.Adding.{if_ok_then}
use Rattle.ep_flatten.proofs.ImageSteps.{hull_holds, summed_holds}
use Rattle.ep_flatten.proofs.images.domain_for.Goals as goal

pub returns-in-Own : goal.returns-in-Own
returns-in-Own c =
    subst (λ (form : Form). IfOk c.node_image.result (λ set. HoldsImage c.args.vars.now c.args.places.now (plain_node c.args.node.now) (plain_form form) (interval_of c.args.span) set)) (sym c.in-Own.is)
    c.node_image.ensures

pub returns-in-Sum : goal.returns-in-Sum
returns-in-Sum c =
    let vars = c.args.vars.now in
    let places = c.args.places.now in
    let node = plain_node c.args.node.now in
    let span = interval_of c.args.span in
    let n = c.in-Sum.number in
    let parts = c.in-Sum.parts.items in
    subst (λ (form : Form). IfOk c.sum_image.result (λ set. HoldsImage vars places node (plain_form form) span set)) (sym c.in-Sum.is)
    (if_ok_then c.sum_image.result c.sum_image.ensures (λ set h. summed_holds vars places node n parts span set
    (subst (λ (m : ℤ). HoldsImage vars places (nodes.sum m parts) own span set) (to_z-of_z w64 n (search rules))
    (subst (λ (ps : List (ℤ × ℕ)). HoldsImage vars places (nodes.sum (to_z w64 (of_z w64 n)) ps) own span set) c.deref.ensures.value h))))

pub returns-in-Compare : goal.returns-in-Compare
returns-in-Compare c =
    if_ok_then c.domain_of.result c.domain_of.ensures
    (λ set h. hull_holds c.args.vars.now c.args.places.now (plain_node c.args.node.now) (plain_form c.args.form.now) (interval_of c.args.span) set c.requires h)
