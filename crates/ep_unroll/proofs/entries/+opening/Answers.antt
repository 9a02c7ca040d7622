use Rattle.ep_unroll.proofs.Words.{◌≡◌, ◌∷◌, ◌++◌, ◌∙◌, ◌+◌, ℤ, List, None, Some, ap, arith, drop, get_or, length, of_z, pos, refl, rules, subst, sym, to_z, w64, map, option_and_then, option_map, ints, to_z-of_z, drop_all, drop_more, no_runs, held_value, seen_held, part_under, term_value, at_index, value_tree, block_under, AreTerms, worth, part_with, AreEntries, cells_value, At, Open, Unrolled}
use Rattle.ep_unroll.proofs.EntrySteps.{entries_when, entries_whole, entries_without, no_part, part_terms, parts_entries_at, parts_entries_not_at, parts_pass_all, parts_pass_more, parts_pass_none, seen_lead, seen_miss}
use Rattle.ep_unroll.proofs.FormValues.{if_ok}
use Rattle.ep_unroll.proofs.PickSteps.{cells_lead, cells_miss, entries_at, entries_not_at}
use Rattle.ep_unroll.proofs.entries.+opening.Goals as goal

pub known_entries-returns-then-is_nothing : goal.known_entries-returns-then-is_nothing
known_entries-returns-then-is_nothing t c known =
    let old = c.args.arena.now in
    entries_without old c.args.slots.now (λ numbers. worth old numbers c.args.known.now) c.no_entries.result.keys.items c.no_entries.result.terms.items
    (λ numbers. c.is_nothing.ensures c.if-is_nothing.true old numbers) c.no_entries.ensures.keys c.no_entries.ensures.terms

pub known_entries-returns-in-At : goal.known_entries-returns-in-At
known_entries-returns-in-At t c =
    let old = c.args.arena.now in
    let index : to_z w64 (of_z w64 c.in-At.index) ≡ c.in-At.index = to_z-of_z w64 c.in-At.index (omega (arith, ints)) in
    let cut = c.in-Some.ensures.cases.0 ∙ ap (λ s. s ∷ c.in-Some.rest.now) c.in-At.is ∙ ap (λ i. At i ∷ c.in-Some.rest.now) (sym index) in
    if_ok c.entries_at.result _ _
    (λ es h known. subst (λ ss. AreEntries old c.entries_at.new.arena ss (λ numbers. worth old numbers c.args.known.now) es.keys.items es.terms.items) (sym cut) (h known)) c.entries_at.ensures

pub known_entries-returns-in-Open : goal.known_entries-returns-in-Open
known_entries-returns-in-Open t c =
    let old = c.args.arena.now in
    let cut = c.in-Some.ensures.cases.0 ∙ ap (λ s. s ∷ c.in-Some.rest.now) c.in-Open.is in
    if_ok c.entries_under.result _ _
    (λ es h known. subst (λ ss. AreEntries old c.entries_under.new.arena ss (λ numbers. worth old numbers c.args.known.now) es.keys.items es.terms.items) (sym cut) (h known))
    (c.entries_under.ensures c.in-Open.field-0)

pub known_entries-returns-in-None : goal.known_entries-returns-in-None
known_entries-returns-in-None t c =
    let old = c.args.arena.now in
    let cut = no_runs c.args.slots.now c.in-None.ensures.cases in
    if_ok c.scalar_entry.result _ _
    (λ es h known. subst (λ ss. AreEntries old c.scalar_entry.new.arena ss (λ numbers. worth old numbers c.args.known.now) es.keys.items es.terms.items) (sym cut) (h known)) c.scalar_entry.ensures

pub entries_at-returns-in-Number : goal.entries_at-returns-in-Number
unfolding worth
entries_at-returns-in-Number t c known =
    let old = c.args.arena.now in
    entries_not_at old c.args.index c.args.rest.now (λ numbers. worth old numbers c.args.known.now) c.no_entries.result.keys.items c.no_entries.result.terms.items
    c.no_entries.ensures.keys c.no_entries.ensures.terms
    (λ numbers v e is. sym (no_part (term_value old numbers c.in-Number.field-0) (at_index c.args.index) is v (ap (worth old numbers) (sym c.in-Number.is) ∙ e)))

pub entries_at-returns-in-Some : goal.entries_at-returns-in-Some
unfolding worth AreTerms
entries_at-returns-in-Some t c =
    let old = c.args.arena.now in
    let new = c.known_entries.new.arena in
    let k = c.in-Cells.first in
    let ds = c.in-Cells.domains.now in
    let inner = c.in-Some.inner in
    let index : to_z w64 (of_z w64 c.args.index) ≡ c.args.index = to_z-of_z w64 c.args.index (omega (arith, ints)) in
    let some = ap (option_map (λ part. (part.first, part.domains.now))) (sym c.in-Some.is) ∙ c.in_ok-cells-in-Cells.ensures ∙ ap (block_under k ds) index in
    if_ok c.known_entries.result _ _
    (λ es h known. subst (λ x. AreEntries old new (At c.args.index ∷ c.args.rest.now) (λ numbers. worth old numbers x) es.keys.items es.terms.items) (sym c.in-Cells.is)
    (entries_at old new c.args.index c.args.rest.now (λ numbers. cells_value numbers ds k) (λ numbers. cells_value numbers inner.domains.now inner.first) es.keys.items es.terms.items
    (λ numbers v e. cells_lead numbers k ds c.args.index v inner.first inner.domains.now e some) (h tt))) c.known_entries.ensures

pub entries_at-returns-in-None : goal.entries_at-returns-in-None
unfolding worth
entries_at-returns-in-None t c known =
    let old = c.args.arena.now in
    let k = c.in-Cells.first in
    let ds = c.in-Cells.domains.now in
    let index : to_z w64 (of_z w64 c.args.index) ≡ c.args.index = to_z-of_z w64 c.args.index (omega (arith, ints)) in
    let none = ap (option_map (λ part. (part.first, part.domains.now))) (sym c.in-None.is) ∙ c.in_ok-cells-in-Cells.ensures ∙ ap (block_under k ds) index in
    entries_not_at old c.args.index c.args.rest.now (λ numbers. worth old numbers c.args.known.now) c.no_entries-in-None.result.keys.items c.no_entries-in-None.result.terms.items
    c.no_entries-in-None.ensures.keys c.no_entries-in-None.ensures.terms
    (λ numbers v e is. cells_miss numbers k ds c.args.index v (ap (worth old numbers) (sym c.in-Cells.is) ∙ e) none is)

pub entries_at-returns-in-Some-value : goal.entries_at-returns-in-Some-value
unfolding worth AreTerms held_value
entries_at-returns-in-Some-value t c =
    let old = c.args.arena.now in
    let new = c.known_entries-in-Some-value.new.arena in
    let o = seen_held c.in-Fixed.seen in
    let own = value_tree c.in-Some-value.own.now in
    let index : to_z w64 (of_z w64 c.args.index) ≡ c.args.index = to_z-of_z w64 c.args.index (omega (arith, ints)) in
    let some = ap (option_map (λ part. value_tree part.now)) (sym c.in-Some-value.is) ∙ c.part_seen-value.ensures ∙ ap (λ i. option_and_then (λ v. part_under v i) o) index in
    if_ok c.known_entries-in-Some-value.result _ _
    (λ es h known. subst (λ x. AreEntries old new (At c.args.index ∷ c.args.rest.now) (λ numbers. worth old numbers x) es.keys.items es.terms.items) (sym c.in-Fixed.is)
    (entries_at old new c.args.index c.args.rest.now (λ numbers. o) (λ numbers. Some own) es.keys.items es.terms.items
    (λ numbers v e. seen_lead o c.args.index own v some e) (h tt))) c.known_entries-in-Some-value.ensures

pub entries_at-returns-in-None-value : goal.entries_at-returns-in-None-value
unfolding worth
entries_at-returns-in-None-value t c known =
    let old = c.args.arena.now in
    let o = seen_held c.in-Fixed.seen in
    let index : to_z w64 (of_z w64 c.args.index) ≡ c.args.index = to_z-of_z w64 c.args.index (omega (arith, ints)) in
    let none = ap (option_map (λ part. value_tree part.now)) (sym c.in-None-value.is) ∙ c.part_seen-value.ensures ∙ ap (λ i. option_and_then (λ v. part_under v i) o) index in
    entries_not_at old c.args.index c.args.rest.now (λ numbers. worth old numbers c.args.known.now) c.no_entries-in-None-value.result.keys.items c.no_entries-in-None-value.result.terms.items
    c.no_entries-in-None-value.ensures.keys c.no_entries-in-None-value.ensures.terms
    (λ numbers v e is. seen_miss o c.args.index v none (ap (worth old numbers) (sym c.in-Fixed.is) ∙ e) is)

pub entries_at-returns-in-Some-found : goal.entries_at-returns-in-Some-found
entries_at-returns-in-Some-found t c =
    let old = c.args.arena.now in
    let new = c.known_entries-in-Some-found.new.arena in
    let own = c.deref.result.now in
    let parts = c.deref-in-Matrix.result.now in
    let part = c.in-Some-found.part.now in
    let index : to_z w64 (of_z w64 c.args.index) ≡ c.args.index = to_z-of_z w64 c.args.index (omega (arith, ints)) in
    let some : part_with own parts c.args.index ≡ Some part = sym (ap (option_map (λ p. p.now)) (sym c.in-Some-found.is) ∙ c.part_with-found.ensures ∙ ap (part_with own parts) index) in
    if_ok c.known_entries-in-Some-found.result _ _
    (λ es h known. entries_whole old new (At c.args.index ∷ c.args.rest.now) c.args.known.now c.in-Matrix.own c.in-Matrix.parts own parts es.keys.items es.terms.items
    c.deref.ensures.value c.deref-in-Matrix.ensures.value c.in-Matrix.is known
    (λ has. parts_entries_at old new own parts c.args.index part c.args.rest.now es.keys.items es.terms.items some (h (part_terms (length old) own parts c.args.index part has some))))
    c.known_entries-in-Some-found.ensures

pub entries_at-returns-in-None-found : goal.entries_at-returns-in-None-found
entries_at-returns-in-None-found t c known =
    let old = c.args.arena.now in
    let own = c.deref.result.now in
    let parts = c.deref-in-Matrix.result.now in
    let index : to_z w64 (of_z w64 c.args.index) ≡ c.args.index = to_z-of_z w64 c.args.index (omega (arith, ints)) in
    let none : part_with own parts c.args.index ≡ None = sym (ap (option_map (λ p. p.now)) (sym c.in-None-found.is) ∙ c.part_with-found.ensures ∙ ap (part_with own parts) index) in
    let keys = c.no_entries-in-None-found.result.keys.items in
    let terms = c.no_entries-in-None-found.result.terms.items in
    entries_whole old old (At c.args.index ∷ c.args.rest.now) c.args.known.now c.in-Matrix.own c.in-Matrix.parts own parts keys terms
    c.deref.ensures.value c.deref-in-Matrix.ensures.value c.in-Matrix.is known
    (λ has. parts_entries_not_at old own parts c.args.index c.args.rest.now keys terms none c.no_entries-in-None-found.ensures.keys c.no_entries-in-None-found.ensures.terms)

pub entries_under-returns-in-Matrix : goal.entries_under-returns-in-Matrix
entries_under-returns-in-Matrix t c u =
    if_ok c.entries_of_each.result _ _
    (λ es h known. entries_whole c.args.arena.now c.entries_of_each.new.arena (Open u ∷ c.args.rest.now) c.args.known.now c.in-Matrix.own c.in-Matrix.parts
    c.deref.result.now c.deref-in-Matrix.result.now es.keys.items es.terms.items c.deref.ensures.value c.deref-in-Matrix.ensures.value c.in-Matrix.is known h) (c.entries_of_each.ensures u)

pub entries_under-returns-in-Matrix-whole : goal.entries_under-returns-in-Matrix-whole
entries_under-returns-in-Matrix-whole t c u =
    let old = c.args.arena.now in
    let new = c.entries_of_each-in-Matrix-whole.new.arena in
    let x = c.in_ok-whole-in_default.whole in
    let opened = c.in_ok-whole-in_default.ensures in
    if_ok c.entries_of_each-in-Matrix-whole.result _ _
    (λ es h known. entries_when old new (Open u ∷ c.args.rest.now) (λ numbers. worth old numbers x) (λ numbers. worth old numbers c.args.known.now) es.keys.items es.terms.items (λ numbers v e. opened.worth old numbers ∙ e)
    (entries_whole old new (Open u ∷ c.args.rest.now) x c.in-Matrix-whole.own c.in-Matrix-whole.parts c.deref-in-Matrix-whole.result.now c.deref-in-Matrix-whole-2.result.now
    es.keys.items es.terms.items c.deref-in-Matrix-whole.ensures.value c.deref-in-Matrix-whole-2.ensures.value c.in-Matrix-whole.is (opened.terms (length old) known) h))
    (c.entries_of_each-in-Matrix-whole.ensures u)

pub entries_of_each-loop-place-init : goal.entries_of_each-loop-place-init
entries_of_each-loop-place-init t c =
    parts_pass_none c.args.arena.now c.args.rest.now c.args.own.now c.args.own.now c.args.parts.now c.new-keys.result.items c.new-terms.result.items (c.ascend.ensures c.if-not-ascend.false) refl c.new-keys.ensures.items c.new-terms.ensures.items

pub entries_of_each-loop-place-preserved : goal.entries_of_each-loop-place-preserved
entries_of_each-loop-place-preserved t c =
    let own = c.args.own.now in
    let parts : List Unrolled = c.args.parts.now in
    let k = c.loop-place.place in
    let x : ℤ = get_or own k (pos 0) in
    let part : Unrolled = c.index-parts-place.result in
    let word : to_z w64 (of_z w64 x) ≡ x = to_z-of_z w64 x (search rules) in
    let cut : drop k own ≡ to_z w64 (of_z w64 x) ∷ drop (k + 1) own = drop_more own k (pos 0) c.loop-place-test.true ∙ ap (λ y. y ∷ drop (k + 1) own) (sym word) in
    parts_pass_more c.args.arena.now c.loop-place.arena c.known_entries.new.arena c.args.rest.now own (drop k own) (drop (k + 1) own) (to_z w64 (of_z w64 x)) parts (drop k parts) (drop (k + 1) parts)
    part c.loop-place.keys.items c.push_all_behind.new.keys.items c.in_ok-entries.entries.keys.items c.loop-place.terms.items c.in_ok-entries.entries.terms.items c.push_terms.new.terms.items
    c.loop-place.invariant cut (drop_more parts k part c.if-place-count.false ∙ ap (λ y. y ∷ drop (k + 1) parts) (sym c.index-parts-place.is)) c.in_ok-entries.ensures
    (c.in_ok-push_all_behind.ensures ∙ ap (λ l. c.loop-place.keys.items ++ map (λ (y : List ℤ). to_z w64 (of_z w64 x) ∷ y) l) c.deref.ensures.value)
    (c.in_ok-push_terms.ensures ∙ ap (λ l. c.loop-place.terms.items ++ l) c.deref-in-loop-place.ensures.value)

pub entries_of_each-returns : goal.entries_of_each-returns
entries_of_each-returns t c u =
    let own = c.args.own.now in
    let k = c.loop-place.place in
    parts_pass_all c.args.arena.now c.loop-place.arena u c.args.rest.now own (drop k own) c.args.parts.now (drop k c.args.parts.now) c.loop-place.keys.items c.loop-place.terms.items
    c.loop-place.invariant (drop_all k own c.loop-place-test.false)
