use Rattle.std.proofs.Common.{arith, sym, subst, ap, ◌∙◌, ◌≡◌, ℕ, List, length}
use Rattle.std.specs.Prelude.{map}
use Rattle.std.proofs.lemmas.List.{map_push}
use Rattle.ep_ground.specs.GroundViews.{plain_ground}
use Rattle.ep_flatten.specs.declared.forms.Form.{Form}
use Rattle.ep_ground.specs.NodeViews.{plain_node}
use Rattle.ep_flatten.specs.Forms.{HaveForms, IsNextForm, StandsAt}
use Rattle.ep_flatten.specs.FormViews.{plain_form, plain_forms}
use Rattle.ep_flatten.proofs.FormLaws.{forms_more, forms_none}
use Rattle.ep_flatten.proofs.forms.forms_of.Goals as goal

pub loop-term-init : goal.loop-term-init
loop-term-init c = subst (λ (forms : List Form). HaveForms (plain_ground c.args.g.now).nodes 0 (plain_forms forms)) (sym c.new-forms.ensures.items) (forms_none (plain_ground c.args.g.now).nodes)

pub loop-term-preserved : goal.loop-term-preserved
loop-term-preserved c =
    let nodes = (plain_ground c.args.g.now).nodes in
    let node = plain_node c.node-node.result.now in
    let forms = c.loop-term.forms.items in
    let form = c.in_ok-form.form in
    let stands : StandsAt nodes c.new-in-loop-term.result node = record { got = c.node-node.ensures.node; before = c.node-node.ensures.parts } in
    let next : IsNextForm (plain_forms forms) node (plain_form form) = subst (λ (fs : List Form). IsNextForm (plain_forms fs) node (plain_form form)) c.deref.ensures.value c.in_ok-form.ensures in
    forms_more nodes c.loop-term.term node (plain_forms forms) (plain_forms c.push.new.self.items) (plain_form form) c.loop-term.invariant
    (subst (λ (t : ℕ). StandsAt nodes t node) c.new-in-loop-term.ensures stands) next (ap (map plain_form) c.in_ok-push.ensures.items ∙ map_push plain_form forms form)

pub returns : goal.returns
returns c =
    let end : c.loop-term.term ≡ length c.args.g.now.arena = omega (arith, c.loop-term-test.false, c.loop-term.auto.term-end, c.len-term-end.ensures.value) in
    subst (λ (n : ℕ). HaveForms (plain_ground c.args.g.now).nodes n (plain_forms c.loop-term.forms.items)) end c.loop-term.invariant
