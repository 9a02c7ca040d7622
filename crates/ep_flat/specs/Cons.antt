-- Flat constraints on variables, which are numbers from 0 on, and when one holds.
--
-- That a quotient, a remainder or an element without a value is 0, or the first part, is this project's own choice.
use Rattle.std.specs.Prelude.{true, ℕ, ℤ, pos, ◌*ℤ◌, Bool, false, List, [], ◌∷◌, ◌++◌, map, Option, Some, None, option_to_list, unwrap_or, slice_index_or}
use Rattle.std.specs.List.{list_all, list_any}
use Rattle.std.specs.Ordering.{int_eq}
use Rattle.ep_base.specs.Numbers.{absolute_of, are_different, compare_holds, counts_hold, greatest_of, has_number, is_one, is_row_of, least_of, lex_holds, nth_power, of_bool}
use Rattle.ep_base.specs.Reads.{safe_picked, safe_quotient, safe_remainder, same_bool, weighted_sum}
use Rattle.ep_base.specs.declared.operators.CompareOp.{CompareOp}
use Rattle.ep_base.specs.declared.operators.LexOp.{LexOp}

-- A constraint. The result of a function stands first; the last number of a power is its exponent and no variable.
pub data FlatKind : Type 0 where
  clause : List (Bool × ℕ) → FlatKind
  all_of : List ℕ → FlatKind
  same_truth : ℕ → ℕ → FlatKind
  linear : List (ℤ × ℕ) → CompareOp → ℤ → FlatKind
  member : ℕ → List ℤ → FlatKind
  product : ℕ → ℕ → ℕ → FlatKind
  quotient : ℕ → ℕ → ℕ → FlatKind
  remainder : ℕ → ℕ → ℕ → FlatKind
  power : ℕ → ℕ → ℕ → FlatKind
  absolute : ℕ → ℕ → FlatKind
  least : ℕ → List ℕ → FlatKind
  greatest : ℕ → List ℕ → FlatKind
  element : ℕ → List ℕ → List (List ℤ) → List ℕ → FlatKind
  all_different : List ℕ → FlatKind
  counts : List ℕ → List ℤ → List ℕ → FlatKind
  at_least : List ℕ → List ℤ → List ℤ → FlatKind
  at_most : List ℕ → List ℤ → List ℤ → FlatKind
  table : List ℕ → List (List ℤ) → FlatKind
  lex : LexOp → List ℕ → List ℕ → FlatKind

-- a constraint, with the variable that says whether it holds, if there is one
pub record FlatCon : Type 0 where
  pub truth : Option ℕ
  pub kind : FlatKind

-- the number of a variable among these, and 0 of one that isn't there
unfoldable pub number_at : List ℤ → ℕ → ℤ
number_at values x = slice_index_or values x (pos 0)

-- the numbers of some variables
unfoldable pub numbers_of_vars : List ℤ → List ℕ → List ℤ
numbers_of_vars values xs = map (number_at values) xs

-- whether a number is there, and is this one
unfoldable pub is_value : Option ℤ → ℤ → Bool
is_value None x = false
is_value (Some y) x = int_eq x y

-- Whether a constraint holds of the numbers of the variables.
unfoldable pub kind_holds : List ℤ → FlatKind → Bool
kind_holds values (clause parts) = list_any (λ p. same_bool (is_one (number_at values p.1)) p.0) parts
kind_holds values (all_of xs) = list_all (λ x. is_one (number_at values x)) xs
kind_holds values (same_truth x y) = same_bool (is_one (number_at values x)) (is_one (number_at values y))
kind_holds values (linear parts op c) =
    compare_holds op (weighted_sum (map (λ p. (p.0, number_at values p.1)) parts)) c
kind_holds values (member x ns) = has_number ns (number_at values x)
kind_holds values (product r x y) = int_eq (number_at values r) (number_at values x *ℤ number_at values y)
kind_holds values (quotient r x y) = int_eq (number_at values r) (safe_quotient (number_at values x) (number_at values y))
kind_holds values (remainder r x y) =
    int_eq (number_at values r) (safe_remainder (number_at values x) (number_at values y))
kind_holds values (power r x n) = int_eq (number_at values r) (nth_power (number_at values x) n)
kind_holds values (absolute r x) = int_eq (number_at values r) (absolute_of (number_at values x))
kind_holds values (least r xs) = is_value (least_of (numbers_of_vars values xs)) (number_at values r)
kind_holds values (greatest r xs) = is_value (greatest_of (numbers_of_vars values xs)) (number_at values r)
kind_holds values (element r xs keys indices) =
    int_eq (number_at values r) (safe_picked (numbers_of_vars values xs) keys (numbers_of_vars values indices))
kind_holds values (all_different xs) = are_different (numbers_of_vars values xs)
kind_holds values (counts xs ns cs) =
    unwrap_or (counts_hold CompareOp.Equal (numbers_of_vars values xs) ns (numbers_of_vars values cs)) false
kind_holds values (at_least xs cs ns) = unwrap_or (counts_hold CompareOp.AtLeast (numbers_of_vars values xs) ns cs) false
kind_holds values (at_most xs cs ns) = unwrap_or (counts_hold CompareOp.AtMost (numbers_of_vars values xs) ns cs) false
kind_holds values (table xs rows) = unwrap_or (is_row_of rows (numbers_of_vars values xs)) false
kind_holds values (lex op xs ys) = lex_holds op (numbers_of_vars values xs) (numbers_of_vars values ys)

-- a constraint is as it has to be: it holds, or its variable is 1 exactly where it holds, and else 0
unfoldable pub is_as_said : List ℤ → Option ℕ → Bool → Bool
is_as_said values None holds = holds
is_as_said values (Some t) holds = int_eq (number_at values t) (of_bool holds)

-- whether a constraint holds, with its variable
unfoldable pub con_holds : List ℤ → FlatCon → Bool
con_holds values con = is_as_said values con.truth (kind_holds values con.kind)

-- the variables that a constraint names
unfoldable pub kind_variables : FlatKind → List ℕ
kind_variables (clause parts) = map (λ p. p.1) parts
kind_variables (all_of xs) = xs
kind_variables (same_truth x y) = x ∷ y ∷ []
kind_variables (linear parts op c) = map (λ p. p.1) parts
kind_variables (member x ns) = x ∷ []
kind_variables (product r x y) = r ∷ x ∷ y ∷ []
kind_variables (quotient r x y) = r ∷ x ∷ y ∷ []
kind_variables (remainder r x y) = r ∷ x ∷ y ∷ []
kind_variables (power r x n) = r ∷ x ∷ []
kind_variables (absolute r x) = r ∷ x ∷ []
kind_variables (least r xs) = r ∷ xs
kind_variables (greatest r xs) = r ∷ xs
kind_variables (element r xs keys indices) = (r ∷ xs) ++ indices
kind_variables (all_different xs) = xs
kind_variables (counts xs ns cs) = xs ++ cs
kind_variables (at_least xs cs ns) = xs
kind_variables (at_most xs cs ns) = xs
kind_variables (table xs rows) = xs
kind_variables (lex op xs ys) = xs ++ ys

-- the variables that a constraint names, with the one that says whether it holds
unfoldable pub con_variables : FlatCon → List ℕ
con_variables con = option_to_list con.truth ++ kind_variables con.kind

-- the coefficients of a constraint
unfoldable pub kind_coefficients : FlatKind → List ℤ
kind_coefficients (linear parts op c) = map (λ p. p.0) parts
kind_coefficients _ = []

-- which part of the encoding a constraint belongs to: truth values, sums and sets, functions, counts, or rows and orders
pub data Family : Type 0 where
  of_truths : Family
  of_sums : Family
  of_functions : Family
  of_counts : Family
  of_rows : Family

-- the part of the encoding to which a kind of constraint belongs
unfoldable pub family_of : FlatKind → Family
family_of (clause parts) = of_truths
family_of (all_of xs) = of_truths
family_of (same_truth x y) = of_truths
family_of (linear parts op c) = of_sums
family_of (member x ns) = of_sums
family_of (product r x y) = of_functions
family_of (quotient r x y) = of_functions
family_of (remainder r x y) = of_functions
family_of (power r x n) = of_functions
family_of (absolute r x) = of_functions
family_of (least r xs) = of_functions
family_of (greatest r xs) = of_functions
family_of (element r xs keys indices) = of_functions
family_of (all_different xs) = of_counts
family_of (counts xs ns cs) = of_counts
family_of (at_least xs cs ns) = of_counts
family_of (at_most xs cs ns) = of_counts
family_of (table xs rows) = of_rows
family_of (lex op xs ys) = of_rows

-- a sum that is compared with a number
unfoldable pub is_linear : FlatKind → Bool
is_linear (linear parts op c) = true
is_linear _ = false
