-- What is known of a matrix by its parts, and the scalars of parts.
use Rattle.ep_size.proofs.Words.{◌≡◌, ℤ, List, [], ◌∷◌, ◌++◌, refl, ap, ◌∙◌, matrix, scalars_of, scalars_of_all, single, value_and, grid_of, grids_from, row_grids, Matrix, Row_of-Extent, end_of-Extent, more_of-Extent, items-the_row-Extent, items_hidden-the_row-Extent-0, hidden-the_row-Extent-0}
use Rattle.std.specs.declared.alloc.Global.{Global}
use Rattle.std.specs.declared.vec.Vec.{Vec}
use Rattle.ep_tree.specs.Reach as defined
use Rattle.ep_size.specs.declared.extents.Extent.{Extent}

row_grids-items : {n : _} (row : Row_of-Extent n) → row_grids row ≡ grids_from (items-the_row-Extent _ row)
unfolding grid_of grids_from
row_grids-items end_of-Extent = refl
row_grids-items (more_of-Extent x rest) = ap (λ xs. value_and (grid_of x) xs) (row_grids-items rest)

row_grids-vec : (v : Vec Extent Global) → row_grids (hidden-the_row-Extent-0 v) ≡ grids_from v.items
row_grids-vec v = row_grids-items (hidden-the_row-Extent-0 v) ∙ ap grids_from (items_hidden-the_row-Extent-0 v)

-- a matrix by its parts
pub grid_of-matrix : (is : Vec ℤ Global) (v : Vec Extent Global) → grid_of (Matrix is v) ≡ matrix is.items (grids_from v.items)
unfolding grid_of
grid_of-matrix is v = ap (matrix is.items) (row_grids-vec v)

-- ---- scalars

pub scalars_matrix : (indices : List ℤ) (parts : List Extent) → scalars_of (matrix indices (grids_from parts)) ≡ scalars_of_all (grids_from parts)
unfolding scalars_of
scalars_matrix indices parts = refl

pub scalars_part : (part : Extent) (rest : List Extent)
    → scalars_of_all (grids_from (part ∷ rest)) ≡ scalars_of (grid_of part) ++ scalars_of_all (grids_from rest)
unfolding scalars_of_all grids_from
scalars_part part rest = refl

pub scalars_none : scalars_of_all (grids_from []) ≡ []
unfolding scalars_of_all grids_from
scalars_none = refl

pub scalars_single : (s : defined.Span) → scalars_of (single s) ≡ s ∷ []
unfolding scalars_of
scalars_single s = refl
