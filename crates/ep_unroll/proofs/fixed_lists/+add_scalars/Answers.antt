use Rattle.ep_unroll.proofs.Words.{◌≡◌, ◌+◌, ◌∷◌, ◌++◌, [], ℕ, ℤ, List, drop, sym, ap, ◌∙◌, w64, to_z, of_z, rules, append-nil, append_assoc, to_z-of_z, drop_all, drop_more, value_tree-matrix, value_tree-number, scalars_of, scalars_of_all, value_tree, values_from, Value, scalars_matrix, scalars_none, scalars_part, scalars_single}
use Rattle.ep_unroll.proofs.fixed_lists.+add_scalars.Goals as goal

pub loop-part-preserved : goal.loop-part-preserved
loop-part-preserved t c =
    let all : List Value = c.deref-part-items.result.now in
    let k : ℕ = c.loop-part.part-index in
    let part : Value = c.part-item.result in
    let old : List ℤ = c.loop-part.scalars.items in
    let rest : List ℤ = scalars_of_all (values_from (drop (k + 1) all)) in
    let cut : drop k all ≡ part ∷ drop (k + 1) all =
    drop_more all k part c.loop-part-test.true ∙ ap (λ r. r ∷ drop (k + 1) all) (sym c.part-item.is) in
    ap (λ l. l ++ rest) c.in_ok-add_scalars-in-Matrix.ensures ∙ append_assoc old (scalars_of (value_tree part)) rest
    ∙ ap (λ l. old ++ l) (sym (scalars_part part (drop (k + 1) all))) ∙ ap (λ l. old ++ scalars_of_all (values_from l)) (sym cut)
    ∙ c.loop-part.invariant

pub returns-in_ok-push-in-Number : goal.returns-in_ok-push-in-Number
returns-in_ok-push-in-Number t c =
    let n : ℤ = c.in-Number.number in
    let old : List ℤ = c.args.scalars.now.items in
    let word : to_z w64 (of_z w64 n) ≡ n = to_z-of_z w64 n (search rules) in
    c.in_ok-push-in-Number.ensures.items ∙ ap (λ m. old ++ m ∷ []) word ∙ ap (λ l. old ++ l) (sym (scalars_single n))
    ∙ ap (λ v. old ++ scalars_of v) (sym (value_tree-number n)) ∙ ap (λ v. old ++ scalars_of (value_tree v)) (sym c.in-Number.is)

pub returns-after-loop-part : goal.returns-after-loop-part
returns-after-loop-part t c =
    let all : List Value = c.deref-part-items.result.now in
    let k : ℕ = c.loop-part.part-index in
    let old : List ℤ = c.args.scalars.now.items in
    let new : List ℤ = c.loop-part.scalars.items in
    let indices = c.in-Matrix.field-0 in
    let parts = c.in-Matrix.parts in
    sym (ap (λ l. new ++ l) (ap (λ l. scalars_of_all (values_from l)) (drop_all k all c.loop-part-test.false) ∙ scalars_none) ∙ append-nil new)
    ∙ c.loop-part.invariant ∙ ap (λ l. old ++ scalars_of_all (values_from l)) c.deref-part-items.ensures.value
    ∙ ap (λ l. old ++ l) (sym (scalars_matrix indices.items parts.items)) ∙ ap (λ v. old ++ scalars_of v) (sym (value_tree-matrix indices parts))
    ∙ ap (λ v. old ++ scalars_of (value_tree v)) (sym c.in-Matrix.is)
