use Rattle.std.proofs.Common.{rules, subst, ap, ◌∙◌, ◌≡◌, ◌+◌, ℕ, ℤ, List, [], ◌∷◌, ◌++◌, length}
use Rattle.std.specs.Prelude.{map}
use Rattle.ep_flat.specs.FlatViews.{plain_con}
use Rattle.ep_ground.specs.NodeViews.{plain_node}
use Rattle.ep_flatten.specs.FormViews.{plain_form}
use Rattle.ep_numbers.specs.Spans.{interval_of}
use Rattle.ep_flatten.specs.Building.{CoversForm, plain_built}
use Rattle.ep_flatten.specs.Images.{HoldsImage}
use Rattle.ep_numbers.specs.declared.spans.Span.{Span}
use Rattle.ep_flatten.specs.Saying.{SaysForm}
use Rattle.ep_flatten.proofs.Growing.{with_operation}
use Rattle.ep_flatten.proofs.Adding.{as_built, cons_pushed, on_ok_five, spans_pushed}
use Rattle.ep_flatten.proofs.building.add_operation.Goals as goal

pub returns : goal.returns
returns c =
    let old = c.args.made.now in
    let new = c.note.new.made in
    let node = plain_node c.args.node.now in
    let form = plain_form c.args.form.now in
    let span = c.form_span-span.result in
    let domain = c.in_ok-domain.domain in
    let con = c.in_ok-con.con in
    let variable : c.len-variable.result ≡ length old.vars.items = search rules in
    let there : SaysForm old.places.items node form c.len-variable.result (plain_con con) = subst (λ (ps : List ℕ). SaysForm ps node form c.len-variable.result (plain_con con)) c.deref-2.ensures.value c.in_ok-con.ensures in
    let says : SaysForm old.places.items node form (length old.vars.items) (plain_con con) = subst (λ (r : ℕ). SaysForm old.places.items node form r (plain_con con)) variable there in
    let image : HoldsImage old.vars.items old.places.items node form (interval_of span) domain =
    subst (λ (vs : List (List ℤ)). HoldsImage vs old.places.items node form (interval_of span) domain) c.deref-3.ensures.value
    (subst (λ (ps : List ℕ). HoldsImage c.deref-3.result.now ps node form (interval_of span) domain) c.deref-4.ensures.value c.in_ok-domain.ensures) in
    on_ok_five c.note.result c.note.ensures.places c.note.ensures.spans c.note.ensures.vars c.note.ensures.cons c.note.ensures.cells
    (λ p s v k l. λ g marks t built at bounded.
    as_built g marks (t + 1) new.vars.items (old.vars.items ++ domain ∷ []) (map plain_con new.cons.items) (map plain_con old.cons.items ++ plain_con con ∷ [])
    new.places.items (old.places.items ++ length old.vars.items ∷ []) (map interval_of new.spans.items) (map interval_of old.spans.items ++ interval_of span ∷ []) new.cells.items old.cells.items
    (v ∙ c.in_ok-push.ensures.items)
    (cons_pushed old.cons.items new.cons.items con (k ∙ c.in_ok-push-2.ensures.items))
    (p ∙ ap (λ (m : ℕ). old.places.items ++ m ∷ []) variable)
    (spans_pushed old.spans.items new.spans.items span s)
    l
    (with_operation g marks t (plain_built old) node form (plain_con con) domain (interval_of span) built at bounded
    (subst (λ (ss : List Span). CoversForm g.cells (map interval_of ss) node form (interval_of span)) c.deref.ensures.value (c.form_span-span.ensures.covers g.cells)) says image))

pub domain_for-requires : goal.domain_for-requires
domain_for-requires c = (c.form_span-span.ensures.covers []).small
