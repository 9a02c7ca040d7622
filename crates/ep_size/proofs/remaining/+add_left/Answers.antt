use Rattle.ep_size.proofs.Words.{◌≡◌, ◌+◌, ◌∷◌, ◌++◌, ℕ, List, drop, sym, ap, subst, ◌∙◌, append-nil, append_assoc, flat_map, map, OnOk, drop_all, drop_more, no_runs, value_tree-matrix, value_tree-number, parts_left, scalars_of, value_tree, Value, fixed_grid, plain_span, measured_of}
use Rattle.ep_tree.specs.Reach as defined
use Rattle.ep_size.proofs.RemainingSteps.{left_none, left_part, left_parts, matrix_kept, number_kept, whole_left}
use Rattle.ep_size.proofs.remaining.+add_left.Goals as goal

pub loop-part-preserved : goal.loop-part-preserved
loop-part-preserved t c =
    let ms = map measured_of c.in-Some.rest.now in
    let all : List Value = c.deref-part-items.result.now in
    let k : ℕ = c.loop-part.part-index in
    let part : Value = c.part-item.result in
    let old : List defined.Span = map plain_span c.loop-part.spans.items in
    let rest : List defined.Span = left_parts ms (drop (k + 1) all) in
    let cut : drop k all ≡ part ∷ drop (k + 1) all =
    drop_more all k part c.loop-part-test.true ∙ ap (λ r. r ∷ drop (k + 1) all) (sym c.part-item.is) in
    ap (λ l. l ++ rest) c.in_ok-add_left-in-Matrix.ensures.added ∙ append_assoc old (flat_map scalars_of (parts_left ms (fixed_grid (value_tree part)))) rest
    ∙ ap (λ l. old ++ l) (sym (left_part ms part (drop (k + 1) all))) ∙ ap (λ l. old ++ left_parts ms l) (sym cut)
    ∙ c.loop-part.invariant

pub returns-after-loop-part-clause-added : goal.returns-after-loop-part-clause-added
returns-after-loop-part-clause-added t c =
    let ms = map measured_of c.in-Some.rest.now in
    let all : List Value = c.deref-part-items.result.now in
    let k : ℕ = c.loop-part.part-index in
    let old : List defined.Span = map plain_span c.args.spans.now.items in
    let new : List defined.Span = map plain_span c.loop-part.spans.items in
    let own = c.in-Matrix.field-0 in
    let parts = c.in-Matrix.parts in
    sym (ap (λ l. new ++ l) (ap (left_parts ms) (drop_all k all c.loop-part-test.false) ∙ left_none ms) ∙ append-nil new)
    ∙ c.loop-part.invariant ∙ ap (λ l. old ++ left_parts ms l) c.deref-part-items.ensures.value
    ∙ ap (λ l. old ++ l) (sym (matrix_kept (measured_of c.in-Some.index.now) ms own.items parts.items (sym c.keeps_all.ensures ∙ c.if-not-keeps_all.false)))
    ∙ ap (λ v. old ++ flat_map scalars_of (parts_left (measured_of c.in-Some.index.now ∷ ms) (fixed_grid v))) (sym (value_tree-matrix own parts))
    ∙ ap (λ v. old ++ flat_map scalars_of (parts_left (measured_of c.in-Some.index.now ∷ ms) (fixed_grid (value_tree v)))) (sym c.in-Matrix.is)
    ∙ ap (λ l. old ++ flat_map scalars_of (parts_left (map measured_of l) (fixed_grid (value_tree c.args.value.now)))) (sym c.in-Some.ensures.cases.0)

pub returns-in-Number-clause-added : goal.returns-in-Number-clause-added
returns-in-Number-clause-added t c =
    let ms = map measured_of c.in-Some.rest.now in
    let old : List defined.Span = map plain_span c.args.spans.now.items in
    sym (append-nil old)
    ∙ ap (λ l. old ++ l) (sym (number_kept (measured_of c.in-Some.index.now) ms c.in-Number.field-0))
    ∙ ap (λ v. old ++ flat_map scalars_of (parts_left (measured_of c.in-Some.index.now ∷ ms) (fixed_grid v))) (sym (value_tree-number c.in-Number.field-0))
    ∙ ap (λ v. old ++ flat_map scalars_of (parts_left (measured_of c.in-Some.index.now ∷ ms) (fixed_grid (value_tree v)))) (sym c.in-Number.is)
    ∙ ap (λ l. old ++ flat_map scalars_of (parts_left (map measured_of l) (fixed_grid (value_tree c.args.value.now)))) (sym c.in-Some.ensures.cases.0)

pub returns-in-None-clause-added : goal.returns-in-None-clause-added
returns-in-None-clause-added t c =
    let old : List defined.Span = map plain_span c.args.spans.now.items in
    subst (λ l. OnOk c.add_value.result (map plain_span c.add_value.new.spans.items ≡ old ++ l))
    (whole_left c.args.indices.now (fixed_grid (value_tree c.args.value.now)) (no_runs c.args.indices.now c.in-None.ensures.cases)) c.add_value.ensures.added
