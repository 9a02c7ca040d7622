-- The operations of the language on whole numbers and on lists of them.
--
-- An operation that has no value for some numbers answers `None` there. Numbers stand for truth values, 1 for true.
-- The floor of a quotient and the sign of a remainder are those of the language's public description; that
-- `0 ** 0` is 1, and that `min` and `max` of no part, a negative exponent, the factorial of a negative number, and counts or
-- rows of another length have no value, is this project's own choice.
use Rattle.std.specs.Prelude.{ℕ, zero, suc, ◌*◌, ◌/◌, Bool, true, false, not, ◌&&◌, ◌||◌, List, [], ◌∷◌, length, ℤ, pos, negsuc, ◌+ℤ◌, ◌-ℤ◌, ◌*ℤ◌, neg_ℤ, ◌==◌, if◌then◌else◌, int_lt, int_le, Some, None, fold, count_by, Option, option_map}
use Rattle.std.specs.Int.{int_max, int_min}
use Rattle.std.specs.List.{list_all, list_any}
use Rattle.std.specs.Ordering.{int_eq}
use Rattle.ep_base.specs.declared.operators.CompareOp.{CompareOp}
use Rattle.ep_base.specs.declared.operators.LexOp.{LexOp}

-- the number that stands for a truth value
unfoldable pub of_bool : Bool → ℤ
of_bool true = pos 1
of_bool false = pos 0

-- whether a number stands for true
unfoldable pub is_one : ℤ → Bool
is_one x = int_eq x (pos 1)

-- the greatest whole number that is at most x / y, for y of at least 1
unfoldable pub floor_over : ℤ → ℕ → ℤ
floor_over (pos x) y = pos (x / y)
floor_over (negsuc x) y = negsuc (x / y)

-- x / y: the floor of the quotient, which has no value for y = 0
unfoldable pub quotient : ℤ → ℤ → Option ℤ
quotient x (pos zero) = None
quotient x (pos (suc y)) = Some (floor_over x (suc y))
quotient x (negsuc y) = Some (floor_over (neg_ℤ x) (suc y))

-- x % y: what y times the floor of the quotient leaves of x
unfoldable pub remainder : ℤ → ℤ → Option ℤ
remainder x y = option_map (λ q. x -ℤ (y *ℤ q)) (quotient x y)

-- x multiplied by itself, n times in all; 1 for n = 0
unfoldable pub nth_power : ℤ → ℕ → ℤ
nth_power x zero = pos 1
nth_power x (suc n) = nth_power x n *ℤ x

-- x ** y, which has no value for y < 0
unfoldable pub power : ℤ → ℤ → Option ℤ
power x (pos n) = Some (nth_power x n)
power x (negsuc n) = None

-- the product of the numbers from 1 to n
unfoldable pub product_to : ℕ → ℕ
product_to zero = 1
product_to (suc n) = product_to n * suc n

-- factorial(x), which has no value for x < 0
unfoldable pub factorial_of : ℤ → Option ℤ
factorial_of (pos n) = Some (pos (product_to n))
factorial_of (negsuc n) = None

-- the absolute value
unfoldable pub absolute_of : ℤ → ℤ
absolute_of (pos n) = pos n
absolute_of (negsuc n) = pos (suc n)

-- whether a comparison of two numbers holds
unfoldable pub compare_holds : CompareOp → ℤ → ℤ → Bool
compare_holds CompareOp.Equal x y = int_eq x y
compare_holds CompareOp.NotEqual x y = not (int_eq x y)
compare_holds CompareOp.Less x y = int_lt x y
compare_holds CompareOp.AtMost x y = int_le x y
compare_holds CompareOp.Greater x y = int_lt y x
compare_holds CompareOp.AtLeast x y = int_le y x

-- the comparison that holds exactly where another one doesn't
unfoldable pub contrary_comparison : CompareOp → CompareOp
contrary_comparison CompareOp.Equal = CompareOp.NotEqual
contrary_comparison CompareOp.NotEqual = CompareOp.Equal
contrary_comparison CompareOp.Less = CompareOp.AtLeast
contrary_comparison CompareOp.AtMost = CompareOp.Greater
contrary_comparison CompareOp.Greater = CompareOp.AtMost
contrary_comparison CompareOp.AtLeast = CompareOp.Less

-- the sum of some numbers
unfoldable pub sum_of : List ℤ → ℤ
sum_of [] = pos 0
sum_of (x ∷ xs) = x +ℤ sum_of xs

-- the product of some numbers
unfoldable pub product_of : List ℤ → ℤ
product_of [] = pos 1
product_of (x ∷ xs) = x *ℤ product_of xs

-- the least of some numbers; none has no value
unfoldable pub least_of : List ℤ → Option ℤ
least_of [] = None
least_of (x ∷ xs) = Some (fold int_min x xs)

-- the greatest of some numbers; none has no value
unfoldable pub greatest_of : List ℤ → Option ℤ
greatest_of [] = None
greatest_of (x ∷ xs) = Some (fold int_max x xs)

-- whether all of some numbers stand for true
unfoldable pub all_one : List ℤ → Bool
all_one xs = list_all is_one xs

-- whether one of some numbers stands for true
unfoldable pub any_one : List ℤ → Bool
any_one xs = list_any is_one xs

-- whether a number stands in a list
unfoldable pub has_number : List ℤ → ℤ → Bool
has_number xs x = list_any (λ y. int_eq x y) xs

-- whether two lists have the same numbers in the same order
unfoldable pub same_numbers : List ℤ → List ℤ → Bool
same_numbers [] [] = true
same_numbers [] (y ∷ ys) = false
same_numbers (x ∷ xs) [] = false
same_numbers (x ∷ xs) (y ∷ ys) = int_eq x y && same_numbers xs ys

-- The lexicographic order: the first difference decides, and a proper prefix is smaller.
unfoldable pub lex_less : List ℤ → List ℤ → Bool
lex_less [] [] = false
lex_less [] (y ∷ ys) = true
lex_less (x ∷ xs) [] = false
lex_less (x ∷ xs) (y ∷ ys) = int_lt x y || (int_eq x y && lex_less xs ys)

-- whether a lexicographic comparison of two lists holds
unfoldable pub lex_holds : LexOp → List ℤ → List ℤ → Bool
lex_holds LexOp.Less xs ys = lex_less xs ys
lex_holds LexOp.AtMost xs ys = not (lex_less ys xs)
lex_holds LexOp.Greater xs ys = lex_less ys xs
lex_holds LexOp.AtLeast xs ys = not (lex_less xs ys)

-- whether no two numbers at different positions are equal
unfoldable pub are_different : List ℤ → Bool
are_different [] = true
are_different (x ∷ xs) = not (has_number xs x) && are_different xs

-- how often a number stands in a list
unfoldable pub times_in : List ℤ → ℤ → ℤ
times_in xs x = pos (count_by (λ y. int_eq x y) xs)

-- Whether each of some numbers stands in a list as often as is compared with its count. This has no value where the
-- numbers and the counts are not equally many.
unfoldable pub counts_hold : CompareOp → List ℤ → List ℤ → List ℤ → Option Bool
counts_hold op xs [] [] = Some true
counts_hold op xs [] (count ∷ counts) = None
counts_hold op xs (value ∷ values) [] = None
counts_hold op xs (value ∷ values) (count ∷ counts) =
    option_map (λ others. compare_holds op (times_in xs value) count && others) (counts_hold op xs values counts)

-- Whether a list is one of some rows. This has no value where a row has another length.
unfoldable pub is_row_of : List (List ℤ) → List ℤ → Option Bool
is_row_of rows xs =
    if list_all (λ row. length row == length xs) rows then Some (list_any (λ row. same_numbers row xs) rows) else None
