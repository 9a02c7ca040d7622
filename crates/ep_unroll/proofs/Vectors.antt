-- The cells of decision variables and the numbers of values, as the checker computes them.
use Rattle.ep_unroll.proofs.Words.{◌≡◌, pos, true, [], ◌∷◌, refl, map, has_value, matrix, no_values, scalars_of, single, value_and, Scalar, ValueType, bound_numbers, find_cells, found_numbers, index_lists, is_truth}
use Rattle.ep_tree.specs.Binding.{Find}

-- without index domains there is one list, and with one that has no number there is none
lists : map index_lists ([] ∷ ((pos 1 ∷ pos 5 ∷ []) ∷ (pos 0 ∷ pos 2 ∷ []) ∷ []) ∷ ((pos 1 ∷ []) ∷ [] ∷ []) ∷ [])
    ≡ ([] ∷ [])
    ∷ ((pos 1 ∷ pos 0 ∷ []) ∷ (pos 1 ∷ pos 2 ∷ []) ∷ (pos 5 ∷ pos 0 ∷ []) ∷ (pos 5 ∷ pos 2 ∷ []) ∷ [])
    ∷ [] ∷ []
unfolding index_lists
lists = refl

-- two truth values, with indices 0 and 2
abbrev lamps : Find
lamps = record { name = 120 ∷ []; scalar = Scalar.Bool; indices = (pos 0 ∷ pos 2 ∷ []) ∷ []; values = pos 0 ∷ pos 1 ∷ [] }

cells : find_cells lamps
    ≡ record { name = 120 ∷ []; indices = pos 0 ∷ []; truth = true; values = pos 0 ∷ pos 1 ∷ [] }
    ∷ record { name = 120 ∷ []; indices = pos 2 ∷ []; truth = true; values = pos 0 ∷ pos 1 ∷ [] } ∷ []
unfolding find_cells index_lists is_truth
cells = refl

-- a number, and a matrix of two rows
numbers : found_numbers
    ((120 ∷ [], has_value ValueType.Int (single (pos 7)))
    ∷ (
      121 ∷ [],
      has_value (ValueType.Matrix 2 Scalar.Int)
          (matrix (pos 1 ∷ pos 2 ∷ [])
          (value_and (matrix (pos 1 ∷ []) (value_and (single (pos 3)) no_values))
          (value_and (matrix (pos 1 ∷ []) (value_and (single (pos 4)) no_values)) no_values))),
    )
    ∷ [])
    ≡ pos 7 ∷ pos 3 ∷ pos 4 ∷ []
unfolding found_numbers bound_numbers scalars_of
numbers = refl
