use Rattle.ep_size.proofs.Words.{◌≡◌, ◌+◌, ◌∷◌, ◌++◌, [], ℕ, ℤ, List, drop, sym, ap, ◌∙◌, w64, to_z, of_z, rules, append-nil, append_assoc, Some, map, to_z-of_z, drop_all, drop_more, value_tree-matrix, value_tree-number, fixed_span, scalars_of, value_tree, Value, fixed_grid, plain_span}
use Rattle.ep_tree.specs.Reach as defined
use Rattle.ep_size.proofs.ScalarParts.{fixed_matrix, fixed_none, fixed_part, fixed_parts, fixed_single, span_pushed}
use Rattle.ep_size.proofs.scalars.+add_value.Goals as goal

pub loop-part-preserved : goal.loop-part-preserved
loop-part-preserved t c =
    let all : List Value = c.deref-part-items.result.now in
    let k : ℕ = c.loop-part.part-index in
    let part : Value = c.part-item.result in
    let old : List defined.Span = map plain_span c.loop-part.spans.items in
    let rest : List defined.Span = fixed_parts (drop (k + 1) all) in
    let cut : drop k all ≡ part ∷ drop (k + 1) all =
    drop_more all k part c.loop-part-test.true ∙ ap (λ r. r ∷ drop (k + 1) all) (sym c.part-item.is) in
    ap (λ l. l ++ rest) c.in_ok-add_value-in-Matrix.ensures.added ∙ append_assoc old (scalars_of (fixed_grid (value_tree part))) rest
    ∙ ap (λ l. old ++ l) (sym (fixed_part part (drop (k + 1) all))) ∙ ap (λ l. old ++ fixed_parts l) (sym cut)
    ∙ c.loop-part.invariant

pub returns-in_ok-push-in-Number-clause-added : goal.returns-in_ok-push-in-Number-clause-added
returns-in_ok-push-in-Number-clause-added t c =
    let n : ℤ = c.in-Number.number in
    let word : to_z w64 (of_z w64 n) ≡ n = to_z-of_z w64 n (search rules) in
    let old = c.args.spans.now.items in
    span_pushed old _ c.fixed_number.result c.in_ok-push-in-Number.ensures.items
    ∙ ap (λ s. map plain_span old ++ s ∷ []) c.fixed_number.ensures ∙ ap (λ m. map plain_span old ++ fixed_span (Some m) ∷ []) word ∙ ap (λ l. map plain_span old ++ l) (sym (fixed_single n))
    ∙ ap (λ v. map plain_span old ++ scalars_of (fixed_grid v)) (sym (value_tree-number n))
    ∙ ap (λ v. map plain_span old ++ scalars_of (fixed_grid (value_tree v))) (sym c.in-Number.is)

pub returns-after-loop-part-clause-added : goal.returns-after-loop-part-clause-added
returns-after-loop-part-clause-added t c =
    let all : List Value = c.deref-part-items.result.now in
    let k : ℕ = c.loop-part.part-index in
    let old : List defined.Span = map plain_span c.args.spans.now.items in
    let new : List defined.Span = map plain_span c.loop-part.spans.items in
    let indices = c.in-Matrix.field-0 in
    let parts = c.in-Matrix.parts in
    sym (ap (λ l. new ++ l) (ap fixed_parts (drop_all k all c.loop-part-test.false) ∙ fixed_none) ∙ append-nil new)
    ∙ c.loop-part.invariant ∙ ap (λ l. old ++ fixed_parts l) c.deref-part-items.ensures.value
    ∙ ap (λ l. old ++ l) (sym (fixed_matrix indices.items parts.items)) ∙ ap (λ v. old ++ scalars_of (fixed_grid v)) (sym (value_tree-matrix indices parts))
    ∙ ap (λ v. old ++ scalars_of (fixed_grid (value_tree v))) (sym c.in-Matrix.is)
