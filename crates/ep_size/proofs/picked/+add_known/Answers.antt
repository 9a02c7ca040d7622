use Rattle.ep_size.proofs.Words.{◌≡◌, ◌+◌, ◌∷◌, ◌++◌, ℕ, List, drop, sym, ap, subst, ◌∙◌, append-nil, append_assoc, flat_map, map, option_map, option_to_list, OnOk, drop_all, drop_more, no_runs, parts_left, matrix, scalars_of, grid_of, grids_from, plain_span, measured_of}
use Rattle.ep_tree.specs.Reach as defined
use Rattle.ep_size.proofs.ExtentViews.{grid_of-matrix}
use Rattle.ep_size.proofs.KnownParts.{known_kept, known_none, known_part, left_known, no_part_left, no_parts_leave_none, nothing_added, nothing_leaves_none, number_leaves_none, one_left}
use Rattle.ep_size.proofs.RemainingSteps.{whole_left}
use Rattle.ep_size.specs.declared.extents.Extent.{Extent}
use Rattle.ep_size.proofs.picked.+add_known.Goals as goal

pub loop-part-preserved : goal.loop-part-preserved
loop-part-preserved t c =
    let ms = map measured_of c.in-Some.rest.now in
    let all : List Extent = c.deref-part-items.result.now in
    let k : ℕ = c.loop-part.part-index in
    let part : Extent = c.part-item.result in
    let old : List defined.Span = map plain_span c.loop-part.spans.items in
    let rest : List defined.Span = left_known ms (drop (k + 1) all) in
    let cut : drop k all ≡ part ∷ drop (k + 1) all =
    drop_more all k part c.loop-part-test.true ∙ ap (λ r. r ∷ drop (k + 1) all) (sym c.part-item.is) in
    ap (λ l. l ++ rest) c.in_ok-add_known-in-Matrix.ensures.added ∙ append_assoc old (flat_map scalars_of (parts_left ms (grid_of part))) rest
    ∙ ap (λ l. old ++ l) (sym (known_part ms part (drop (k + 1) all))) ∙ ap (λ l. old ++ left_known ms l) (sym cut)
    ∙ c.loop-part.invariant

pub returns-after-loop-part-clause-added : goal.returns-after-loop-part-clause-added
returns-after-loop-part-clause-added t c =
    let ms = map measured_of c.in-Some.rest.now in
    let i = measured_of c.in-Some.index.now in
    let all : List Extent = c.deref-part-items.result.now in
    let k : ℕ = c.loop-part.part-index in
    let old : List defined.Span = map plain_span c.args.spans.now.items in
    let new : List defined.Span = map plain_span c.loop-part.spans.items in
    let own = c.in-Matrix.own in
    let parts = c.in-Matrix.parts in
    sym (ap (λ l. new ++ l) (ap (left_known ms) (drop_all k all c.loop-part-test.false) ∙ known_none ms) ∙ append-nil new)
    ∙ c.loop-part.invariant ∙ ap (λ l. old ++ left_known ms l) c.deref-part-items.ensures.value
    ∙ ap (λ l. old ++ l) (sym (known_kept i ms own.items parts.items (sym c.keeps_all.ensures ∙ c.if-not-keeps_all.false)))
    ∙ ap (λ g. old ++ flat_map scalars_of (parts_left (i ∷ ms) g)) (sym (grid_of-matrix own parts))
    ∙ ap (λ x. old ++ flat_map scalars_of (parts_left (i ∷ ms) (grid_of x))) (sym c.in-Matrix.is)
    ∙ ap (λ l. old ++ flat_map scalars_of (parts_left (map measured_of l) (grid_of c.args.known.now))) (sym c.in-Some.ensures.cases.0)

pub returns-in-Some-part_stated-clause-added : goal.returns-in-Some-part_stated-clause-added
returns-in-Some-part_stated-clause-added t c =
    let ms = map measured_of c.in-Some.rest.now in
    let i = measured_of c.in-Some.index.now in
    let old : List defined.Span = map plain_span c.args.spans.now.items in
    let own = c.in-Matrix.own in
    let parts = c.in-Matrix.parts in
    let told : parts_left (i ∷ ms) (grid_of c.args.known.now) ≡ flat_map (parts_left ms) (option_to_list (option_map (λ p. grid_of p.now) c.part_stated.result)) =
    ap (λ x. parts_left (i ∷ ms) (grid_of x)) c.in-Matrix.is
    ∙ ap (parts_left (i ∷ ms)) (grid_of-matrix own parts)
    ∙ sym (ap (λ l. parts_left (i ∷ ms) (matrix l (grids_from c.deref-then-not-keeps_all.result.now))) c.deref.ensures.value
    ∙ ap (λ l. parts_left (i ∷ ms) (matrix own.items (grids_from l))) c.deref-then-not-keeps_all.ensures.value)
    ∙ c.part_stated.ensures ms (sym c.keeps_all.ensures ∙ c.if-not-keeps_all.true) in
    let all : flat_map scalars_of (parts_left (map measured_of c.args.indices.now) (grid_of c.args.known.now)) ≡ flat_map scalars_of (parts_left (i ∷ ms) (grid_of c.args.known.now)) =
    ap (λ l. flat_map scalars_of (parts_left (map measured_of l) (grid_of c.args.known.now))) c.in-Some.ensures.cases.0 in
    subst (λ l. OnOk c.add_known.result (map plain_span c.add_known.new.spans.items ≡ old ++ l))
    (sym (all ∙ one_left i ms c.args.known.now c.part_stated.result c.in-Some-part_stated.part told c.in-Some-part_stated.is)) c.add_known.ensures.added

pub returns-in-None-part_stated-clause-added : goal.returns-in-None-part_stated-clause-added
returns-in-None-part_stated-clause-added t c =
    let ms = map measured_of c.in-Some.rest.now in
    let i = measured_of c.in-Some.index.now in
    let old : List defined.Span = map plain_span c.args.spans.now.items in
    let own = c.in-Matrix.own in
    let parts = c.in-Matrix.parts in
    let told : parts_left (i ∷ ms) (grid_of c.args.known.now) ≡ flat_map (parts_left ms) (option_to_list (option_map (λ p. grid_of p.now) c.part_stated.result)) =
    ap (λ x. parts_left (i ∷ ms) (grid_of x)) c.in-Matrix.is
    ∙ ap (parts_left (i ∷ ms)) (grid_of-matrix own parts)
    ∙ sym (ap (λ l. parts_left (i ∷ ms) (matrix l (grids_from c.deref-then-not-keeps_all.result.now))) c.deref.ensures.value
    ∙ ap (λ l. parts_left (i ∷ ms) (matrix own.items (grids_from l))) c.deref-then-not-keeps_all.ensures.value)
    ∙ c.part_stated.ensures ms (sym c.keeps_all.ensures ∙ c.if-not-keeps_all.true) in
    let all : flat_map scalars_of (parts_left (map measured_of c.args.indices.now) (grid_of c.args.known.now)) ≡ flat_map scalars_of (parts_left (i ∷ ms) (grid_of c.args.known.now)) =
    ap (λ l. flat_map scalars_of (parts_left (map measured_of l) (grid_of c.args.known.now))) c.in-Some.ensures.cases.0 in
    nothing_added old _ (all ∙ no_part_left i ms c.args.known.now c.part_stated.result told c.in-None-part_stated.is)

pub returns-in-Number-clause-added : goal.returns-in-Number-clause-added
returns-in-Number-clause-added t c =
    nothing_added (map plain_span c.args.spans.now.items) _ (number_leaves_none c.args.indices.now c.in-Some.rest.now c.in-Some.index.now c.args.known.now c.in-Number.field-0 c.in-Some.ensures.cases.0 c.in-Number.is)

pub returns-in-Nothing-clause-added : goal.returns-in-Nothing-clause-added
returns-in-Nothing-clause-added t c =
    nothing_added (map plain_span c.args.spans.now.items) _ (nothing_leaves_none c.args.indices.now c.in-Some.rest.now c.in-Some.index.now c.args.known.now c.in-Some.ensures.cases.0 c.in-Nothing.is)

pub returns-in-NoParts-clause-added : goal.returns-in-NoParts-clause-added
returns-in-NoParts-clause-added t c =
    nothing_added (map plain_span c.args.spans.now.items) _ (no_parts_leave_none (map measured_of c.args.indices.now) c.args.known.now c.in-NoParts.is)

pub returns-in-Cells-clause-added : goal.returns-in-Cells-clause-added
unfolding grid_of
returns-in-Cells-clause-added t c =
    subst
    (λ x. OnOk c.add_cells_left.result
    (map plain_span c.add_cells_left.new.spans.items ≡ map plain_span c.args.spans.now.items ++ flat_map scalars_of (parts_left (map measured_of c.args.indices.now) (grid_of x))))
    (sym c.in-Cells.is) c.add_cells_left.ensures.added

pub returns-in-Fixed-clause-added : goal.returns-in-Fixed-clause-added
unfolding grid_of
returns-in-Fixed-clause-added t c =
    subst
    (λ x. OnOk c.add_held_left.result
    (map plain_span c.add_held_left.new.spans.items ≡ map plain_span c.args.spans.now.items ++ flat_map scalars_of (parts_left (map measured_of c.args.indices.now) (grid_of x))))
    (sym c.in-Fixed.is) c.add_held_left.ensures.added

pub returns-in-None-clause-added : goal.returns-in-None-clause-added
returns-in-None-clause-added t c =
    let old : List defined.Span = map plain_span c.args.spans.now.items in
    subst (λ l. OnOk c.add_scalars.result (map plain_span c.add_scalars.new.spans.items ≡ old ++ l))
    (whole_left c.args.indices.now (grid_of c.args.known.now) (no_runs c.args.indices.now c.in-None.ensures.cases)) c.add_scalars.ensures.added
