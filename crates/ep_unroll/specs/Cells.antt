-- The cells of an instance, and the numbers that they have where its decision variables have values.
use Rattle.std.specs.Prelude.{ℤ, Bool, true, false, List, [], ◌∷◌, map, flat_map}
use Rattle.ep_ground.specs.declared.cells.Cell.{Cell}
use Rattle.ep_tree.specs.Binding.{Find, Instance}
use Rattle.ep_tree.specs.Environments.{Bound, has_cells, has_domain, has_value}
use Rattle.ep_tree.specs.Solutions.{Found}
use Rattle.ep_tree.specs.Values.{scalars_of}
use Rattle.ep_tree.specs.declared.values.Scalar.{Scalar}

-- the lists of indices over index domains, the last index running fastest
unfoldable pub index_lists : List (List ℤ) → List (List ℤ)
index_lists [] = [] ∷ []
index_lists (indices ∷ inner) = flat_map (λ i. map (λ rest. i ∷ rest) (index_lists inner)) indices

-- whether numbers of a scalar stand for truth values
unfoldable pub is_truth : Scalar → Bool
is_truth Scalar.Bool = true
is_truth Scalar.Int = false

-- the cell of a decision variable at some indices
abbrev pub cell_of : Find → List ℤ → Cell
cell_of f indices = record { name = f.name; indices = indices; truth = is_truth f.scalar; values = f.values }

-- the cells of a decision variable: one for each list of its indices, and one alone without index domains
unfoldable pub find_cells : Find → List Cell
find_cells f =
    map (λ indices. record { name = f.name; indices = indices; truth = is_truth f.scalar; values = f.values })
    (index_lists f.indices)

-- the cells of an instance, in the order of its decision variables
unfoldable pub instance_cells : Instance → List Cell
instance_cells i = flat_map find_cells i.finds

-- the numbers of what a name stands for, row by row
unfoldable pub bound_numbers : Bound → List ℤ
bound_numbers (has_value t v) = scalars_of v
bound_numbers (has_cells s indices values) = []
bound_numbers (has_domain s indices values) = []

-- the numbers of the cells where the decision variables have these values
unfoldable pub found_numbers : Found → List ℤ
found_numbers found = flat_map (λ p. bound_numbers p.1) found
