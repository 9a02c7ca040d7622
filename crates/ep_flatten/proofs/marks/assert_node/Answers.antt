use Rattle.std.proofs.Common.{sym, subst, ◌∙◌, ◌+◌, Bool, List}
use Rattle.ep_ground.specs.GroundViews.{plain_ground}
use Rattle.ep_ground.specs.NodeViews.{plain_node}
use Rattle.ep_flatten.specs.Building.{IsMarked}
use Rattle.ep_flatten.specs.Forms.{TermForm}
use Rattle.ep_flatten.specs.FormViews.{plain_forms}
use Rattle.ep_flatten.specs.Marking.{AreMarksFrom, marked}
use Rattle.ep_flatten.specs.Tops.{asserts_of, needs_of}
use Rattle.ep_flatten.proofs.FormLaws.{form_inside}
use Rattle.ep_flatten.proofs.MarkedTerms.{marked_there, tops_skip, tops_step}
use Rattle.ep_flatten.proofs.marks.assert_node.Goals as goal

pub returns-then-is_marked : goal.returns-then-is_marked
returns-then-is_marked c =
    let g = plain_ground c.args.g.now in
    let t = c.args.term in
    let node = plain_node c.node.result.now in
    let truths = c.args.marks.now.asserted.items in
    let ms = c.args.marks.now.marked.items in
    let forms = plain_forms c.args.forms.now in
    let here : IsMarked truths t = marked_there truths c.deref.result.now t c.deref.ensures.value (sym c.is_marked.ensures ∙ c.if-is_marked.true) in
    subst (λ (new : List Bool). AreMarksFrom g (plain_forms c.args.forms.now) t (t + 1) new c.mark_tops.new.marks.marked.items) (sym c.mark_tops.ensures.asserted)
    (subst (λ (new : List Bool). AreMarksFrom g (plain_forms c.args.forms.now) t (t + 1) (marked truths (asserts_of node)) new) (sym c.mark_tops.ensures.marked)
    (subst (λ (form : TermForm). AreMarksFrom g forms t (t + 1) (marked truths (asserts_of node)) (marked ms (needs_of t node form))) (sym c.form_at.ensures)
    (tops_step g forms t node truths ms c.requires.marks c.requires.forms here c.node.ensures.node c.node.ensures.parts)))

pub returns-else-is_marked : goal.returns-else-is_marked
returns-else-is_marked c =
    let t = c.args.term in
    let truths = c.args.marks.now.asserted.items in
    let ms = c.args.marks.now.marked.items in
    tops_skip (plain_ground c.args.g.now) (plain_forms c.args.forms.now) t truths ms c.requires.marks (marked_there truths c.deref.result.now t c.deref.ensures.value (sym c.is_marked.ensures ∙ c.if-is_marked.false))

pub form_at-requires : goal.form_at-requires
form_at-requires c = form_inside (plain_ground c.args.g.now).nodes c.args.forms.now c.args.term c.requires.forms c.requires.term
