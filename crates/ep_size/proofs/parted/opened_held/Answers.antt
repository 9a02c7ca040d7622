use Rattle.ep_size.proofs.Words.{◌≡◌, ◌∙◌, ap, arith, sym, w64, to_z, of_z, ints, to_z-of_z, held_value, single, fixed_grid, grid_of}
use Rattle.ep_size.proofs.ListNodes.{if_ok}
use Rattle.ep_size.proofs.parted.opened_held.Goals as goal

pub returns-in-Number-clause-grid : goal.returns-in-Number-clause-grid
unfolding grid_of held_value
returns-in-Number-clause-grid c =
    let n = c.in-Number.number in
    let word : to_z w64 (of_z w64 n) ≡ n = to_z-of_z w64 n (omega (arith, ints)) in
    ap (λ m. fixed_grid (single m)) word ∙ ap (λ h. fixed_grid (held_value h)) (sym c.in-Number.is)

pub returns-in-Lent-clause-grid : goal.returns-in-Lent-clause-grid
unfolding held_value
returns-in-Lent-clause-grid c = if_ok c.opened_value.result _ _ c.opened_value.ensures.grid (λ x h. h ∙ ap (λ y. fixed_grid (held_value y)) (sym c.in-Lent.is))

pub returns-in-Made-clause-grid : goal.returns-in-Made-clause-grid
unfolding held_value
returns-in-Made-clause-grid c = if_ok c.opened_value-in-Made.result _ _ c.opened_value-in-Made.ensures.grid (λ x h. h ∙ ap (λ y. fixed_grid (held_value y)) (sym c.in-Made.is))
