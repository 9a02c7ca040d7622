use Rattle.ep_unroll.proofs.Words.{ℕ, ℤ, List, sym, ap, ◌∙◌, map, take_all, value_tree-matrix, value_tree-number, rows_of, scalars_of, value_tree, Value, rows_matrix, rows_single}
use Rattle.ep_unroll.proofs.fixed_lists.plain_rows.Goals as goal

pub returns-in-Number : goal.returns-in-Number
returns-in-Number c =
    let n : ℤ = c.in-Number.field-0 in
    c.new-rows.ensures.items ∙ sym (rows_single n) ∙ ap rows_of (sym (value_tree-number n))
    ∙ ap (λ v. rows_of (value_tree v)) (sym c.in-Number.is)

pub returns-after-loop-part : goal.returns-after-loop-part
returns-after-loop-part c =
    let all : List Value = c.deref-part-items.result.now in
    let k : ℕ = c.loop-part.part-index in
    let indices = c.in-Matrix.field-0 in
    let parts = c.in-Matrix.parts in
    c.loop-part.invariant ∙ ap (map (λ v. scalars_of (value_tree v))) (take_all k all c.loop-part-test.false ∙ c.deref-part-items.ensures.value)
    ∙ sym (rows_matrix indices.items parts.items) ∙ ap rows_of (sym (value_tree-matrix indices parts)) ∙ ap (λ v. rows_of (value_tree v)) (sym c.in-Matrix.is)
