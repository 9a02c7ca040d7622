use Rattle.std.proofs.Common.{sym, ap, subst, ◌+◌, ◌∙◌, [], ◌∷◌, ◌++◌, pos}
use Rattle.std.specs.Prelude.{map}
use Rattle.ep_base.specs.Intervals.{only}
use Rattle.ep_flat.specs.FlatViews.{plain_con}
use Rattle.ep_ground.specs.NodeViews.{plain_node}
use Rattle.ep_ground.specs.GroundViews.{plain_ground}
use Rattle.ep_flatten.specs.FormViews.{plain_form, plain_forms}
use Rattle.ep_numbers.specs.Spans.{interval_of}
use Rattle.ep_flatten.specs.Building.{IsMarked, IsTermOf, plain_built}
use Rattle.ep_flatten.proofs.Growing.{skipped}
use Rattle.ep_flatten.proofs.FormLaws.{form_inside}
use Rattle.ep_flatten.proofs.MarkedTerms.{marked_there}
use Rattle.ep_flatten.proofs.Adding.{small_there, stands_built, total_there, as_built, on_ok_five, on_ok_then, spans_pushed, term_of}
use Rattle.ep_flatten.proofs.building.add_term.Goals as goal

pub add_node-requires : goal.add_node-requires
add_node-requires c =
    let g = plain_ground c.args.g.now in
    let marks = c.args.marks.now.marked.items in
    let node = plain_node c.node.result.now in
    let here : IsMarked marks c.args.term = marked_there marks c.deref.result.now c.args.term c.deref.ensures.value (sym c.is_marked.ensures ∙ c.if-not-is_marked.false) in
    let known : IsTermOf g marks c.args.term node (plain_form c.form_at.result.now) =
    subst (IsTermOf g marks c.args.term node) (sym c.form_at.ensures) (term_of g (plain_forms c.args.forms.now) c.args.marks.now.asserted.items marks c.args.term node c.requires.marks c.requires.forms c.requires.well_formed here c.node.ensures.node) in
    record {
      stands = stands_built g marks c.args.term (plain_built c.args.made.now) node c.requires.built known.stands;
      total = total_there g c.args.term node c.requires.no_partial c.node.ensures.node;
      small = small_there g marks c.args.term node (plain_form c.form_at.result.now) known c.requires.bounded;
    }

pub returns : goal.returns
returns c =
    let g = plain_ground c.args.g.now in
    let here : IsMarked c.args.marks.now.marked.items c.args.term = marked_there c.args.marks.now.marked.items c.deref.result.now c.args.term c.deref.ensures.value (sym c.is_marked.ensures ∙ c.if-not-is_marked.false) in
    on_ok_then c.add_node.result c.add_node.ensures (λ advances. advances g c.args.marks.now.marked.items c.args.term c.requires.built
    (subst (IsTermOf g c.args.marks.now.marked.items c.args.term (plain_node c.node.result.now)) (sym c.form_at.ensures)
    (term_of g (plain_forms c.args.forms.now) c.args.marks.now.asserted.items c.args.marks.now.marked.items c.args.term (plain_node c.node.result.now) c.requires.marks c.requires.forms c.requires.well_formed here c.node.ensures.node)) c.requires.bounded)

pub returns-then-not-is_marked : goal.returns-then-not-is_marked
returns-then-not-is_marked c =
    let g = plain_ground c.args.g.now in
    let old = c.args.made.now in
    let new = c.note.new.made in
    let none = marked_there c.args.marks.now.marked.items c.deref.result.now c.args.term c.deref.ensures.value (sym c.is_marked.ensures ∙ c.if-not-is_marked.true) in
    on_ok_five c.note.result c.note.ensures.places c.note.ensures.spans c.note.ensures.vars c.note.ensures.cons c.note.ensures.cells
    (λ p s v k l.
    as_built g c.args.marks.now.marked.items (c.args.term + 1) new.vars.items old.vars.items (map plain_con new.cons.items) (map plain_con old.cons.items)
    new.places.items (old.places.items ++ 0 ∷ []) (map interval_of new.spans.items) (map interval_of old.spans.items ++ only (pos 0) ∷ []) new.cells.items old.cells.items
    v (ap (map plain_con) k) p (spans_pushed old.spans.items new.spans.items (record { low = pos 0; high = pos 0 }) s) l
    (skipped g c.args.marks.now.marked.items c.args.term (plain_built old) 0 (only (pos 0)) c.requires.built none))

pub form_at-requires : goal.form_at-requires
form_at-requires c = form_inside (plain_ground c.args.g.now).nodes c.args.forms.now c.args.term c.requires.forms c.requires.term
