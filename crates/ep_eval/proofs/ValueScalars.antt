-- The scalars and the rows of values, one part after another.
use Rattle.ep_eval.proofs.Words.{◌≡◌, ℤ, List, [], ◌∷◌, ◌++◌, refl, ap, map, listed_values, matrix, rows_of, scalars_of, scalars_of_all, single, value_tree, values_from, Value}

pub scalars_single : (n : ℤ) → scalars_of (single n) ≡ n ∷ []
unfolding scalars_of
scalars_single n = refl

pub scalars_matrix : (indices : List ℤ) (parts : List Value) → scalars_of (matrix indices (values_from parts)) ≡ scalars_of_all (values_from parts)
unfolding scalars_of
scalars_matrix indices parts = refl

pub scalars_part : (part : Value) (rest : List Value) → scalars_of_all (values_from (part ∷ rest)) ≡ scalars_of (value_tree part) ++ scalars_of_all (values_from rest)
unfolding scalars_of_all values_from
scalars_part part rest = refl

pub scalars_none : scalars_of_all (values_from []) ≡ []
unfolding scalars_of_all values_from
scalars_none = refl

pub rows_single : (n : ℤ) → rows_of (single n) ≡ []
unfolding rows_of
rows_single n = refl

listed : (parts : List Value) → map scalars_of (listed_values (values_from parts)) ≡ map (λ v. scalars_of (value_tree v)) parts
unfolding listed_values values_from
listed [] = refl
listed (part ∷ parts) = ap (λ rest. scalars_of (value_tree part) ∷ rest) (listed parts)

pub rows_matrix : (indices : List ℤ) (parts : List Value) → rows_of (matrix indices (values_from parts)) ≡ map (λ v. scalars_of (value_tree v)) parts
unfolding rows_of
rows_matrix indices parts = listed parts
