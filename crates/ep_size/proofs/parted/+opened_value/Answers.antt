use Rattle.ep_size.proofs.Words.{◌≡◌, ◌++◌, ◌∙◌, List, ap, arith, drop, sym, w64, to_z, of_z, ints, to_z-of_z, drop_all, held_value, value_tree-matrix, value_tree-number, matrix, single, value_tree, values_from, Value, fixed_grid, grid_of}
use Rattle.ep_size.proofs.PartedSteps.{opened_done}
use Rattle.ep_size.proofs.parted.+opened_value.Goals as goal

pub returns-in-Number-clause-grid : goal.returns-in-Number-clause-grid
unfolding grid_of held_value
returns-in-Number-clause-grid t c =
    let n = c.in-Number.number in
    let word : to_z w64 (of_z w64 n) ≡ n = to_z-of_z w64 n (omega (arith, ints)) in
    ap (λ m. fixed_grid (single m)) word ∙ ap fixed_grid (sym (value_tree-number n)) ∙ ap (λ v. fixed_grid (value_tree v)) (sym c.in-Number.is)

pub returns-after-loop-part-clause-grid : goal.returns-after-loop-part-clause-grid
returns-after-loop-part-clause-grid t c =
    let all : List Value = c.deref-part-items.result.now in
    let own = c.in-Matrix.own in
    let parts = c.in-Matrix.parts in
    opened_done own.items all (drop c.loop-part.part-index all) c.extend_from_slice.new.self c.loop-part.inner c.loop-part.invariant (drop_all c.loop-part.part-index all c.loop-part-test.false)
    (c.in_ok-extend_from_slice-in-Matrix.ensures.items ∙ ap (λ l. l ++ c.deref.result.now) c.new-indices.ensures.items ∙ c.deref.ensures.value)
    ∙ ap (λ l. fixed_grid (matrix own.items (values_from l))) c.deref-part-items.ensures.value ∙ ap fixed_grid (sym (value_tree-matrix own parts)) ∙ ap (λ v. fixed_grid (value_tree v)) (sym c.in-Matrix.is)
