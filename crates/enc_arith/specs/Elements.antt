-- Elements: which part is found where keys are read number by number.
use Rattle.std.specs.Prelude.{ℕ, ℤ, pos, ◌≤ℤ◌, List, [], ◌∷◌, ◌++◌, MatchOption, Option, Some, None, if◌then◌else◌}
use Rattle.std.specs.Ordering.{int_eq}
use Rattle.ep_base.specs.Numbers.{same_numbers}
use Rattle.enc_atoms.specs.declared.atoms.Atom.{Atom}
use Rattle.enc_atoms.specs.declared.atoms.Test.{Test}
use Rattle.ep_flat.specs.Cons.{number_at, numbers_of_vars}

-- keys with the variables of their parts, as far as there are both
unfoldable pub with_parts : List (List ℤ) → List ℕ → List (List ℤ × ℕ)
with_parts [] parts = []
with_parts (key ∷ keys) [] = []
with_parts (key ∷ keys) (part ∷ parts) = (key, part) ∷ with_parts keys parts

-- the part of the first key that equals the numbers
unfoldable pub part_of : List (List ℤ × ℕ) → List ℤ → Option ℕ
part_of [] numbers = None
part_of ((key, part) ∷ entries) numbers = if same_numbers key numbers then Some part else part_of entries numbers

-- what is left of a key that begins with the number, with its part
unfoldable pub rest_after : ℤ → List ℤ × ℕ → List (List ℤ × ℕ)
rest_after n ([], part) = []
rest_after n (m ∷ key, part) = if int_eq m n then (key, part) ∷ [] else []

-- what is left of the keys that begin with the number
unfoldable pub rests_after : ℤ → List (List ℤ × ℕ) → List (List ℤ × ℕ)
rests_after n [] = []
rests_after n (entry ∷ entries) = rest_after n entry ++ rests_after n entries

-- the number of the first variable that is there, and else 0
unfoldable pub number_of_first : List ℤ → Option ℕ → Option ℕ → ℤ
number_of_first values (Some x) y = number_at values x
number_of_first values None (Some y) = number_at values y
number_of_first values None None = pos 0

-- the number of the part whose key the indices are, or else of the other part, or 0
unfoldable pub element_value : List ℤ → List (List ℤ × ℕ) → Option ℕ → List ℕ → ℤ
element_value values entries other indices = number_of_first values (part_of entries (numbers_of_vars values indices)) other

-- a number is at most the other, if there is one
abbrev pub IsUpTo : Option ℤ → ℤ → Type 0
IsUpTo most n = MatchOption most ⊥ (λ m. n ≤ℤ m)

-- a number is in a run: not up to the one number, but up to the other
pub record IsInRun (above last : Option ℤ) (n : ℤ) : Type 0 where
  pub beyond : IsUpTo above n → ⊥
  pub up_to : IsUpTo last n

-- some atoms, and that a variable is at most the number, if there is one
unfoldable pub or_up_to : List Atom → ℕ → Option ℤ → List Atom
or_up_to when x None = when
or_up_to when x (Some n) = when ++ record { var = x; test = Test.AtMost; value = n } ∷ []

-- some atoms, and that a variable isn't in a run
unfoldable pub or_outside : List Atom → ℕ → Option ℤ → ℤ → List Atom
or_outside when x above last = or_up_to when x above ++ record { var = x; test = Test.Above; value = last } ∷ []
