use Rattle.std.proofs.Common.{sym, subst, ◌∙◌, Bool, List}
use Rattle.ep_ground.specs.GroundViews.{plain_ground}
use Rattle.ep_ground.specs.NodeViews.{plain_node}
use Rattle.ep_flatten.specs.Building.{IsMarked}
use Rattle.ep_flatten.specs.Forms.{TermForm, form_parts}
use Rattle.ep_flatten.specs.FormViews.{plain_forms}
use Rattle.ep_flatten.specs.Marking.{AreMarksFrom, marked}
use Rattle.ep_flatten.proofs.FormLaws.{form_inside}
use Rattle.ep_flatten.proofs.MarkedTerms.{marked_there, marks_skip, marks_step}
use Rattle.ep_flatten.proofs.marks.mark_node.Goals as goal

pub returns-then-is_marked : goal.returns-then-is_marked
returns-then-is_marked c =
    let g = plain_ground c.args.g.now in
    let t = c.args.term in
    let truths = c.args.marks.now.asserted.items in
    let ms = c.args.marks.now.marked.items in
    let here : IsMarked ms t = marked_there ms c.deref.result.now t c.deref.ensures.value (sym c.is_marked.ensures ∙ c.if-is_marked.true) in
    let forms = plain_forms c.args.forms.now in
    let node = plain_node c.node.result.now in
    subst (λ (new : List Bool). AreMarksFrom g forms t t truths new) (sym c.mark_form.ensures)
    (subst (λ (form : TermForm). AreMarksFrom g forms t t truths (marked ms (form_parts node form))) (sym c.form_at.ensures)
    (marks_step g forms t node truths ms c.requires.marks c.requires.forms here c.node.ensures.node))

pub returns-else-is_marked : goal.returns-else-is_marked
returns-else-is_marked c =
    let t = c.args.term in
    let truths = c.args.marks.now.asserted.items in
    let ms = c.args.marks.now.marked.items in
    marks_skip (plain_ground c.args.g.now) (plain_forms c.args.forms.now) t truths ms c.requires.marks (marked_there ms c.deref.result.now t c.deref.ensures.value (sym c.is_marked.ensures ∙ c.if-is_marked.false))

pub form_at-requires : goal.form_at-requires
form_at-requires c = form_inside (plain_ground c.args.g.now).nodes c.args.forms.now c.args.term c.requires.forms c.requires.term
