use Rattle.ep_size.proofs.Words.{◌≡◌, ◌+◌, ◌∷◌, ◌++◌, [], ℕ, List, drop, sym, ap, subst, ◌∙◌, append-nil, append_assoc, None, map, OnOk, drop_all, drop_more, fixed_span, scalars_of, scalars_of_all, grid_of, grids_from, plain_span}
use Rattle.ep_tree.specs.Reach as defined
use Rattle.ep_size.proofs.ExtentViews.{grid_of-matrix, scalars_matrix, scalars_none, scalars_part, scalars_single}
use Rattle.ep_size.proofs.ScalarParts.{span_pushed}
use Rattle.ep_size.specs.declared.extents.Extent.{Extent}
use Rattle.ep_size.proofs.scalars.+add_scalars.Goals as goal

pub loop-part-preserved : goal.loop-part-preserved
loop-part-preserved t c =
    let all : List Extent = c.deref-part-items.result.now in
    let k : ℕ = c.loop-part.part-index in
    let part : Extent = c.part-item.result in
    let old : List defined.Span = map plain_span c.loop-part.spans.items in
    let rest : List defined.Span = scalars_of_all (grids_from (drop (k + 1) all)) in
    let cut : drop k all ≡ part ∷ drop (k + 1) all =
    drop_more all k part c.loop-part-test.true ∙ ap (λ r. r ∷ drop (k + 1) all) (sym c.part-item.is) in
    ap (λ l. l ++ rest) c.in_ok-add_scalars-in-Matrix.ensures.added ∙ append_assoc old (scalars_of (grid_of part)) rest
    ∙ ap (λ l. old ++ l) (sym (scalars_part part (drop (k + 1) all))) ∙ ap (λ l. old ++ scalars_of_all (grids_from l)) (sym cut)
    ∙ c.loop-part.invariant

pub returns-in_ok-push-in-Number-clause-added : goal.returns-in_ok-push-in-Number-clause-added
unfolding grid_of
returns-in_ok-push-in-Number-clause-added t c =
    let old = c.args.spans.now.items in
    let own = c.in-Number.span in
    span_pushed old _ own c.in_ok-push-in-Number.ensures.items ∙ ap (λ l. map plain_span old ++ l) (sym (scalars_single (plain_span own)))
    ∙ ap (λ x. map plain_span old ++ scalars_of (grid_of x)) (sym c.in-Number.is)

pub returns-in_ok-push-in-Nothing-clause-added : goal.returns-in_ok-push-in-Nothing-clause-added
unfolding grid_of
returns-in_ok-push-in-Nothing-clause-added t c =
    let old = c.args.spans.now.items in
    span_pushed old _ c.undefined_number.result c.in_ok-push-in-Nothing.ensures.items
    ∙ ap (λ s. map plain_span old ++ s ∷ []) c.undefined_number.ensures ∙ ap (λ l. map plain_span old ++ l) (sym (scalars_single (fixed_span None)))
    ∙ ap (λ x. map plain_span old ++ scalars_of (grid_of x)) (sym c.in-Nothing.is)

pub returns-in-Cells-clause-added : goal.returns-in-Cells-clause-added
unfolding grid_of
returns-in-Cells-clause-added t c =
    subst (λ x. OnOk c.add_cells.result (map plain_span c.add_cells.new.spans.items ≡ map plain_span c.args.spans.now.items ++ scalars_of (grid_of x)))
    (sym c.in-Cells.is) c.add_cells.ensures.added

pub returns-in-Fixed-clause-added : goal.returns-in-Fixed-clause-added
unfolding grid_of
returns-in-Fixed-clause-added t c =
    subst (λ x. OnOk c.add_held.result (map plain_span c.add_held.new.spans.items ≡ map plain_span c.args.spans.now.items ++ scalars_of (grid_of x)))
    (sym c.in-Fixed.is) c.add_held.ensures.added

pub returns-after-loop-part-clause-added : goal.returns-after-loop-part-clause-added
returns-after-loop-part-clause-added t c =
    let all : List Extent = c.deref-part-items.result.now in
    let k : ℕ = c.loop-part.part-index in
    let old : List defined.Span = map plain_span c.args.spans.now.items in
    let new : List defined.Span = map plain_span c.loop-part.spans.items in
    let indices = c.in-Matrix.field-0 in
    let parts = c.in-Matrix.parts in
    sym (ap (λ l. new ++ l) (ap (λ l. scalars_of_all (grids_from l)) (drop_all k all c.loop-part-test.false) ∙ scalars_none) ∙ append-nil new)
    ∙ c.loop-part.invariant ∙ ap (λ l. old ++ scalars_of_all (grids_from l)) c.deref-part-items.ensures.value
    ∙ ap (λ l. old ++ l) (sym (scalars_matrix indices.items parts.items)) ∙ ap (λ v. old ++ scalars_of v) (sym (grid_of-matrix indices parts))
    ∙ ap (λ x. old ++ scalars_of (grid_of x)) (sym c.in-Matrix.is)

pub returns-in-NoParts-clause-added : goal.returns-in-NoParts-clause-added
unfolding grid_of scalars_of scalars_of_all
returns-in-NoParts-clause-added t c =
    let old = c.args.spans.now.items in
    sym (append-nil (map plain_span old)) ∙ ap (λ x. map plain_span old ++ scalars_of (grid_of x)) (sym c.in-NoParts.is)
