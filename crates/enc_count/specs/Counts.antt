-- How often numbers stand among variables, and marks that count them.
use Rattle.std.specs.Prelude.{◌≡◌, ℕ, ℤ, pos, ◌+ℤ◌, neg_ℤ, Bool, IsTrue, List, [], ◌∷◌, ◌++◌, map, Option, Some, None, option_map, option_to_list, unwrap_or}
use Rattle.std.specs.List.{All}
use Rattle.ep_base.specs.Numbers.{compare_holds, has_number, sum_of, times_in}
use Rattle.ep_base.specs.Reads.{IsWithinNumbers}
use Rattle.ep_base.specs.declared.operators.CompareOp.{CompareOp}
use Rattle.ep_flat.specs.Cons.{number_at, numbers_of_vars}
use Rattle.enc_count.specs.declared.counts.Wanted.{Wanted}
use Rattle.enc_atoms.specs.Steps.{AreOf, Implied, IsTruth}
use Rattle.enc_var.specs.Decoding.{VariableLiterals}
use Rattle.enc_var.specs.Layouts.{literals_at}

-- variables are of the layout, and their numbers are small enough
pub record AreFit (layout : List VariableLiterals) (xs : List ℕ) : Type 0 where
  pub there : AreOf layout xs
  pub small : All (λ x. All IsWithinNumbers (literals_at layout x).domain) xs

-- how often a number is to stand among variables
unfoldable pub wanted_count : List ℤ → Wanted → ℤ
wanted_count values wanted = unwrap_or (option_map (number_at values) wanted.var) (pos 0) +ℤ wanted.count

-- whether a number stands among variables as often as is compared with its count
unfoldable pub wanted_holds : List ℤ → CompareOp → List ℕ → Wanted → Bool
wanted_holds values op xs wanted = compare_holds op (times_in (numbers_of_vars values xs) wanted.value) (wanted_count values wanted)

-- whether the sum of some variables compares so with the count of a number
unfoldable pub sum_holds : List ℤ → CompareOp → List ℕ → Wanted → Bool
sum_holds values op marks wanted = compare_holds op (sum_of (numbers_of_vars values marks)) (wanted_count values wanted)

-- the parts of a sum of marks, less a variable where there is one
unfoldable pub counted_parts : Option ℕ → List ℕ → List (ℤ × ℕ)
counted_parts var marks = map (λ x. (neg_ℤ (pos 1), x)) (option_to_list var) ++ map (λ x. (pos 1, x)) marks

-- numbers, each with the variable that says how often it is to stand
unfoldable pub wanted_by_vars : List ℤ → List ℕ → List Wanted
wanted_by_vars [] counts = []
wanted_by_vars (v ∷ vs) [] = []
wanted_by_vars (v ∷ vs) (x ∷ xs) = record { value = v; var = Some x; count = pos 0 } ∷ wanted_by_vars vs xs

-- numbers, each with the count that says how often it is to stand
unfoldable pub wanted_by_numbers : List ℤ → List ℤ → List Wanted
wanted_by_numbers [] counts = []
wanted_by_numbers (v ∷ vs) [] = []
wanted_by_numbers (v ∷ vs) (n ∷ ns) = record { value = v; var = None; count = n } ∷ wanted_by_numbers vs ns

-- nothing wanted
unfoldable pub no_wanted : Wanted
no_wanted = record { value = pos 0; var = None; count = pos 0 }

-- a variable is 1 exactly where another one is the number
abbrev pub IsMark : ℕ → ℕ → ℤ → List ℤ → Type 0
IsMark mark x v values = Implied mark (pos 1) x v values × Implied x v mark (pos 1) values

-- a variable is 0 or 1, where it is 1 all of these are, and where it is 0 one of them is
abbrev pub IsAllOf : ℕ → List ℕ → List ℤ → Type 0
IsAllOf t told values =
    (IsTruth (number_at values t) × All (λ d. Implied t (pos 1) d (pos 1) values) told)
    × (number_at values t ≡ pos 0 → IsTrue (has_number (numbers_of_vars values told) (pos 0)))
