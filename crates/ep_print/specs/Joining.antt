-- Lists with something between any two of them.
use Rattle.std.specs.Prelude.{List, [], ◌∷◌, ◌++◌}

-- lists, one after another, with a list between any two
unfoldable pub with_between : {A : Type 0} → List A → List (List A) → List A
with_between between [] = []
with_between between (first ∷ []) = first
with_between between (first ∷ other ∷ others) = first ++ (between ++ with_between between (other ∷ others))
