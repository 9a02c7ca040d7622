-- Lists that lie one behind the other in one list.
use Rattle.std.specs.Prelude.{ℕ, zero, suc, List, [], ◌∷◌, length, nat_le, ◌&&◌, if◌then◌else◌, slice_range, slice_index}

-- the part of a list from a place up to another, or nothing where the list has no such part
abbrev pub part_of : {X : Type 0} → List X → ℕ → ℕ → List X
part_of list from until = if nat_le from until && nat_le until (length list) then slice_range list from until else []

-- the lists that end at these places of a list: the first begins at a place, and each other one where the one before ends
abbrev pub lists_from : {X : Type 0} → List X → ℕ → List ℕ → List (List X)
lists_from all from [] = []
lists_from all from (end ∷ ends) = part_of all from end ∷ lists_from all end ends

-- where the list of this number begins
abbrev pub start_of : ℕ → List ℕ → ℕ → ℕ
start_of from ends zero = from
start_of from ends (suc before) = slice_index ends before

-- where the last list ends
abbrev pub last_end : ℕ → List ℕ → ℕ
last_end from [] = from
last_end from (end ∷ ends) = last_end end ends
