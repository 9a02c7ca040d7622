use Rattle.std.proofs.Common.{subst, sym, ◌∙◌, ◌+◌, ℕ, List}
use Rattle.std.specs.Prelude.{map}
use Rattle.ep_flat.specs.Cons.{FlatCon}
use Rattle.ep_flat.specs.FlatViews.{plain_con}
use Rattle.ep_ground.specs.GroundViews.{plain_ground}
use Rattle.ep_ground.specs.NodeViews.{plain_node}
use Rattle.ep_flatten.specs.Forms.{TermForm, form_at}
use Rattle.ep_flatten.specs.FormViews.{plain_form, plain_forms}
use Rattle.ep_flatten.proofs.FormLaws.{form_inside}
use Rattle.ep_flatten.specs.Building.{HasTops, IsMarked, plain_built}
use Rattle.ep_flatten.specs.Tops.{Asserts}
use Rattle.ep_flatten.proofs.Adding.{cons_pushed}
use Rattle.ep_flatten.proofs.MarkedTerms.{marked_there}
use Rattle.ep_flatten.proofs.Truths.{tops_more, tops_skip, tops_whole}
use Rattle.ep_flatten.proofs.asserting.add_top.Goals as goal

pub returns-then-not-is_marked : goal.returns-then-not-is_marked
returns-then-not-is_marked c =
    let truths = c.args.marks.now.asserted.items in
    tops_skip (plain_ground c.args.g.now) truths (plain_built c.args.made.now) c.args.term (map plain_con c.args.cons.now.items) c.requires.tops
    (marked_there truths c.deref.result.now c.args.term c.deref.ensures.value (sym c.is_marked.ensures ∙ c.if-not-is_marked.true))

pub returns-then-is_all : goal.returns-then-is_all
returns-then-is_all c =
    let truths = c.args.marks.now.asserted.items in
    let here : IsMarked truths c.args.term = marked_there truths c.deref.result.now c.args.term c.deref.ensures.value (sym c.is_marked.ensures ∙ c.if-not-is_marked.false) in
    tops_whole (plain_ground c.args.g.now) (plain_forms c.args.forms.now) truths c.args.marks.now.marked.items (plain_built c.args.made.now) c.args.term (plain_node c.node-node.result.now) (map plain_con c.args.cons.now.items) c.requires.tops c.requires.marks here
    c.node-node.ensures.node c.node-node.ensures.parts (sym c.is_all.ensures ∙ c.if-is_all.true)

pub top-requires : goal.top-requires
top-requires c = sym c.is_all.ensures ∙ c.if-is_all.false

pub returns : goal.returns
returns c =
    let truths = c.args.marks.now.asserted.items in
    let built = plain_built c.args.made.now in
    let node = plain_node c.node-node.result.now in
    let con = c.in_ok-top.field-0 in
    let here : IsMarked truths c.args.term = marked_there truths c.deref.result.now c.args.term c.deref.ensures.value (sym c.is_marked.ensures ∙ c.if-not-is_marked.false) in
    let forms = plain_forms c.args.forms.now in
    let said : Asserts built.places c.args.term node (plain_form c.form_at.result.now) (plain_con con) = subst (λ (ps : List ℕ). Asserts ps c.args.term node (plain_form c.form_at.result.now) (plain_con con)) c.deref-2.ensures.value c.in_ok-top.ensures in
    let says : Asserts built.places c.args.term node (form_at forms c.args.term) (plain_con con) = subst (λ (form : TermForm). Asserts built.places c.args.term node form (plain_con con)) c.form_at.ensures said in
    subst (λ (cons : List FlatCon). HasTops (plain_ground c.args.g.now) truths built (c.args.term + 1) cons) (sym (cons_pushed c.args.cons.now.items c.push.new.self.items con c.in_ok-push.ensures.items))
    (tops_more (plain_ground c.args.g.now) forms truths c.args.marks.now.marked.items built c.args.term node (map plain_con c.args.cons.now.items) (plain_con con) c.requires.tops c.requires.marks c.requires.forms c.requires.bounded here
    c.requires.built c.node-node.ensures.node c.requires.term says)

pub form_at-requires : goal.form_at-requires
form_at-requires c = form_inside (plain_ground c.args.g.now).nodes c.args.forms.now c.args.term c.requires.forms c.requires.term
