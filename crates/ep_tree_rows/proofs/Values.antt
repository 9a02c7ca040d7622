-- Values, computed by the checker: texts of each form of the language, with its edges, and what they are worth in the relational mode
-- or in both.
use Rattle.std.specs.Prelude.{◌≡◌, ℕ, List, [], ◌∷◌, ℤ, pos, negsuc, Some, None, Option, codes, option_map, refl}
use Prim.Native.String.{String}
use Rattle.ep_tree.proofs.Opened.{the_language}
use Rattle.ep_tree.specs.Environments.{Bound, Env, has_domain, has_value}
use Rattle.ep_tree.specs.Evaluation.{evaluate}
use Rattle.ep_tree.specs.Names.{nothing_known, put, put_all}
use Rattle.ep_tree.specs.Values.{ValueTree, ValueTrees, matrix, no_values, same_value, single, value_and}
use Rattle.ep_tree.specs.declared.values.Mode.{Mode}
use Rattle.ep_tree.specs.declared.values.Scalar.{Scalar}
use Rattle.ep_tree.specs.declared.values.ValueType.{ValueType}
use Rattle.ep_tree_rows.proofs.Texts.{expr_in, same_option, same_pair, the_readers, wrong_rows}

-- a value, or none
abbrev Value : Type 0
Value = Option ValueTree

abbrev none : Value
none = None

abbrev is : ℤ → Value
is n = Some (single n)

-- matrices of numbers at indices
abbrev singles : List ℤ → ValueTrees
singles [] = no_values
singles (n ∷ ns) = value_and (single n) (singles ns)

abbrev numbers_at : List ℤ → List ℤ → ValueTree
numbers_at indices ns = matrix indices (singles ns)

-- ---- names

abbrev number : ℕ → Bound
number n = has_value ValueType.Int (single (pos n))

abbrev one : String → ℕ → Env
one name n = put (codes name) (number n) nothing_known

abbrev x : ℕ → Env
x n = one "x" n

-- x, y, z and c
abbrev four : Env
four = put_all ((codes "x", number 1) ∷ (codes "y", number 1) ∷ (codes "z", number 2) ∷ (codes "c", number 1) ∷ []) nothing_known

-- m = [10, 20, 30], w = [false, true], M = [[1, 2], [3, 4]], and the domain D of 1 to 3
abbrev matrices : Env
matrices = put_all (
    (codes "m", has_value (ValueType.Matrix 1 Scalar.Int) (numbers_at (pos 1 ∷ pos 2 ∷ pos 3 ∷ []) (pos 10 ∷ pos 20 ∷ pos 30 ∷ [])))
    ∷ (codes "w", has_value (ValueType.Matrix 1 Scalar.Bool) (numbers_at (pos 1 ∷ pos 2 ∷ []) (pos 0 ∷ pos 1 ∷ [])))
    ∷ (codes "M", has_value (ValueType.Matrix 2 Scalar.Int) (matrix (pos 1 ∷ pos 2 ∷ []) (value_and (numbers_at (pos 1 ∷ pos 2 ∷ []) (pos 1 ∷ pos 2 ∷ [])) (value_and (numbers_at (pos 1 ∷ pos 2 ∷ []) (pos 3 ∷ pos 4 ∷ [])) no_values))))
    ∷ (codes "D", has_domain Scalar.Int [] (pos 1 ∷ pos 2 ∷ pos 3 ∷ []))
    ∷ []) nothing_known

-- the same, and i = 5
abbrev names : Env
names = put (codes "i") (number 5) matrices

-- m = [false, false], and i = 3
abbrev falses : Env
falses = put_all (
    (codes "m", has_value (ValueType.Matrix 1 Scalar.Bool) (numbers_at (pos 1 ∷ pos 2 ∷ []) (pos 0 ∷ pos 0 ∷ [])))
    ∷ (codes "i", number 3)
    ∷ []) nothing_known

-- ---- in the relational mode

abbrev value : Env → String → Option Value
value env text = option_map (evaluate Mode.Relational env) (expr_in text)

-- texts that know no name, each with its value
abbrev AreRight : List (String × Value) → Type 0
AreRight rows = wrong_rows (same_option same_value) (value nothing_known) 0 rows ≡ []

-- names and texts, each with its value
abbrev AreRightIn : List ((Env × String) × Value) → Type 0
AreRightIn rows = wrong_rows (same_option same_value) (λ row. value row.0 row.1) 0 rows ≡ []

-- numbers and names
numbers : AreRight (
    ("7", is (pos 7))
    ∷ ("true", is (pos 1))
    ∷ ("false", is (pos 0))
    ∷ [])
unfolding the_language the_readers
numbers = refl

-- sums, products, signs and bars
sums : AreRight (
    ("7 - 2 + 4", is (pos 9))
    ∷ ("3 * 4", is (pos 12))
    ∷ ("|2 - 9|", is (pos 7))
    ∷ ("true + true", is (pos 2))
    ∷ ("1 + 1/0", none)
    ∷ [])
unfolding the_language the_readers
sums = refl

-- the floor of a quotient, and what it leaves
quotients : AreRight (
    ("7 / 2", is (pos 3))
    ∷ ("(-7) / 2", is (negsuc 3))
    ∷ ("7 / (-2)", is (negsuc 3))
    ∷ ("(-7) / (-2)", is (pos 3))
    ∷ ("1 / 0", none)
    ∷ ("(-3) % 5", is (pos 2))
    ∷ ("3 % (-5)", is (negsuc 1))
    ∷ ("(-7) % (-2)", is (negsuc 0))
    ∷ ("6 % 3", is (pos 0))
    ∷ ("5 % 0", none)
    ∷ [])
unfolding the_language the_readers
quotients = refl

-- powers
powers : AreRight (
    ("2 ** 10", is (pos 1024))
    ∷ ("0 ** 0", is (pos 1))
    ∷ ("(-2) ** 3", is (negsuc 7))
    ∷ ("2 ** (-1)", none)
    ∷ ("2 ** 3 ** 2", is (pos 64))
    ∷ [])
unfolding the_language the_readers
powers = refl

-- factorials
factorials : AreRight (
    ("factorial(5)", is (pos 120))
    ∷ ("factorial(0)", is (pos 1))
    ∷ ("factorial(-1)", none)
    ∷ [])
unfolding the_language the_readers
factorials = refl

-- `min` and `max`
ends : AreRight (
    ("min(3, -2)", is (negsuc 1))
    ∷ ("max(3, -2)", is (pos 3))
    ∷ ("min([4, 2, 9])", is (pos 2))
    ∷ ("max([4, 2, 9])", is (pos 9))
    ∷ ("min([])", none)
    ∷ ("max([])", none)
    ∷ [])
unfolding the_language the_readers
ends = refl

-- matrices folded
folds : AreRight (
    ("sum([1, 2, 3])", is (pos 6))
    ∷ ("sum([])", is (pos 0))
    ∷ ("product([2, 3, 4])", is (pos 24))
    ∷ ("product([])", is (pos 1))
    ∷ ("and([true, false])", is (pos 0))
    ∷ ("and([])", is (pos 1))
    ∷ ("or([false, true])", is (pos 1))
    ∷ ("or([])", is (pos 0))
    ∷ ("sum([1, 1/0])", none)
    ∷ ("sum([[1, 2], [3]])", is (pos 6))
    ∷ [])
unfolding the_language the_readers
folds = refl

-- comparisons and connectives
comparisons : AreRight (
    ("2 < 3", is (pos 1))
    ∷ ("3 <= 2", is (pos 0))
    ∷ ("2 != 2", is (pos 0))
    ∷ ("3 >= 3", is (pos 1))
    ∷ ("3 > 3", is (pos 0))
    ∷ ("true = 1", is (pos 1))
    ∷ ("1/0 = 1", is (pos 0))
    ∷ ("!(1/0 = 1)", is (pos 1))
    ∷ ("!true", is (pos 0))
    ∷ ("true -> false", is (pos 0))
    ∷ ("false -> false", is (pos 1))
    ∷ ("true <-> true", is (pos 1))
    ∷ ("true <-> false", is (pos 0))
    ∷ ("true /\\ false /\\ true", is (pos 0))
    ∷ ("true /\\ true", is (pos 1))
    ∷ ("false \\/ true", is (pos 1))
    ∷ ("false \\/ false", is (pos 0))
    ∷ ("toInt(true)", is (pos 1))
    ∷ [])
unfolding the_language the_readers
comparisons = refl

-- lexicographic order
orders : AreRight (
    ("[1, 2] <lex [1, 2, 0]", is (pos 1))
    ∷ ("[2] <lex [1, 9]", is (pos 0))
    ∷ ("[1] <=lex [1]", is (pos 1))
    ∷ ("[1] <lex [1]", is (pos 0))
    ∷ ("[] <lex []", is (pos 0))
    ∷ ("[1, 3] >lex [1, 2]", is (pos 1))
    ∷ ("[1] >=lex [1, 0]", is (pos 0))
    ∷ ("[1/0] <=lex [1]", is (pos 0))
    ∷ [])
unfolding the_language the_readers
orders = refl

-- membership
members : AreRight (
    ("7 in int(1..3, 7)", is (pos 1))
    ∷ ("5 in int(1..3, 7)", is (pos 0))
    ∷ ("1 in bool", is (pos 1))
    ∷ ("2 in int(1..1/0)", is (pos 0))
    ∷ ("2 in toSet([1, 2])", is (pos 1))
    ∷ ("3 in toSet([1, 2])", is (pos 0))
    ∷ ("3 in toSet([])", is (pos 0))
    ∷ [])
unfolding the_language the_readers
members = refl

-- quantifiers; an empty domain, and an undefined one
quantifiers : AreRight (
    ("forAll i : int(1..3) . i < 4", is (pos 1))
    ∷ ("forAll i : int(1..3) . i < 3", is (pos 0))
    ∷ ("forAll i : int(1..0) . false", is (pos 1))
    ∷ ("forAll i : int(1..1/0) . true", is (pos 0))
    ∷ ("exists i : int(1..3) . i = 2", is (pos 1))
    ∷ ("exists i : int(1..0) . true", is (pos 0))
    ∷ ("exists i : int(1..1/0) . true", is (pos 0))
    ∷ ("sum i : int(1..3) . i * i", is (pos 14))
    ∷ ("sum i : int(1..0) . 1", is (pos 0))
    ∷ ("sum i : int(1..1/0) . 1", none)
    ∷ ("sum b : bool . b", is (pos 1))
    ∷ ("forAll i : int(0..2) . 6/i > 2", is (pos 0))
    ∷ [])
unfolding the_language the_readers
quantifiers = refl

-- several names are nested, and the domain is read for each in turn
several_names : AreRight (
    ("sum i, j : int(1..3) . i * j", is (pos 36))
    ∷ [])
unfolding the_language the_readers
several_names = refl

-- a quantified name hides an outer one in its body alone
hidden_names : AreRight (
    ("sum i : int(1..2) . (sum i : int(5..6) . i)", is (pos 22))
    ∷ [])
unfolding the_language the_readers
hidden_names = refl

-- lists; an index domain with a gap, of another number of values, and an undefined one
lists : AreRight (
    ("[4, 5]", Some (numbers_at (pos 1 ∷ pos 2 ∷ []) (pos 4 ∷ pos 5 ∷ [])))
    ∷ ("[4, 5; int(0, 3)]", Some (numbers_at (pos 0 ∷ pos 3 ∷ []) (pos 4 ∷ pos 5 ∷ [])))
    ∷ ("[4, 5; int(1..3)]", none)
    ∷ ("[5; int(1..1/0)]", none)
    ∷ ("[]", Some (numbers_at [] []))
    ∷ ("[1/0]", none)
    ∷ ("[4, 5; int(0, 3)][3]", is (pos 5))
    ∷ ("[4, 5; int(0, 3)][1]", none)
    ∷ ("[1, 1/0][1]", none)
    ∷ [])
unfolding the_language the_readers
lists = refl

-- comprehensions
comprehensions : AreRight (
    ("[i * i | i : int(1..3)]", Some (numbers_at (pos 1 ∷ pos 2 ∷ pos 3 ∷ []) (pos 1 ∷ pos 4 ∷ pos 9 ∷ [])))
    ∷ ("[i | i : int(1..4), i % 2 = 0]", Some (numbers_at (pos 1 ∷ pos 2 ∷ []) (pos 2 ∷ pos 4 ∷ [])))
    ∷ ("[10 * i + j | i : int(1..3), j : int(i..3)]", Some (numbers_at (pos 1 ∷ pos 2 ∷ pos 3 ∷ pos 4 ∷ pos 5 ∷ pos 6 ∷ []) (pos 11 ∷ pos 12 ∷ pos 13 ∷ pos 22 ∷ pos 23 ∷ pos 33 ∷ [])))
    ∷ ("[i + j | i, j : int(1..2)]", Some (numbers_at (pos 1 ∷ pos 2 ∷ pos 3 ∷ pos 4 ∷ []) (pos 2 ∷ pos 3 ∷ pos 3 ∷ pos 4 ∷ [])))
    ∷ ("[i | i : int(1..0)]", Some (numbers_at [] []))
    ∷ ("[i | i : int(1..1/0)]", none)
    ∷ ("[j | i : int(0..1), j : int(1..1/i)]", none)
    ∷ ("[i | i : int(1..2); int(5..6)]", Some (numbers_at (pos 5 ∷ pos 6 ∷ []) (pos 1 ∷ pos 2 ∷ [])))
    ∷ ("[i | i : int(1..3), i != 2; int(1..3)]", none)
    ∷ ("[6/i | i : int(0..2)]", none)
    ∷ [])
unfolding the_language the_readers
comprehensions = refl

-- reads
reads : AreRight (
    ("[[1], [2, 3]][2, 2]", is (pos 3))
    ∷ ("[[1], [2, 3]][.., 2]", none)
    ∷ ("[[i] | i : int(1..0)][.., 9]", Some (numbers_at [] []))
    ∷ ("[[7; int(4..4)], [8; int(4..4)]][.., 4]", Some (numbers_at (pos 1 ∷ pos 2 ∷ []) (pos 7 ∷ pos 8 ∷ [])))
    ∷ [])
unfolding the_language the_readers
reads = refl

-- matrices of rows flattened
flattened : AreRight (
    ("flatten([[1, 2], [3]])", Some (numbers_at (pos 1 ∷ pos 2 ∷ pos 3 ∷ []) (pos 1 ∷ pos 2 ∷ pos 3 ∷ [])))
    ∷ ("flatten([5; int(7..7)])", Some (numbers_at (pos 1 ∷ []) (pos 5 ∷ [])))
    ∷ ("flatten([])", Some (numbers_at [] []))
    ∷ [])
unfolding the_language the_readers
flattened = refl

-- all different
differences : AreRight (
    ("allDiff([1, 2, 3])", is (pos 1))
    ∷ ("allDiff([1, 2, 1])", is (pos 0))
    ∷ ("allDiff([i | i : int(1..0)])", is (pos 1))
    ∷ ("allDiff([1/0])", is (pos 0))
    ∷ ("allDiff([[1, 2], [2, 3]])", is (pos 0))
    ∷ [])
unfolding the_language the_readers
differences = refl

-- counts
counts : AreRight (
    ("gcc([1, 1, 2], [1, 2], [2, 1])", is (pos 1))
    ∷ ("gcc([1, 1, 2], [1, 2], [2, 2])", is (pos 0))
    ∷ ("gcc([1, 2], [1], [1, 1])", is (pos 0))
    ∷ ("gcc([], [1], [0])", is (pos 1))
    ∷ ("atleast([1, 1, 2], [2], [1])", is (pos 1))
    ∷ ("atleast([1, 2], [2], [1])", is (pos 0))
    ∷ ("atleast([1], [1, 1], [1])", is (pos 0))
    ∷ ("atmost([1, 1], [1], [1])", is (pos 0))
    ∷ ("atmost([1, 2], [1], [1])", is (pos 1))
    ∷ ("atmost([1], [], [1])", is (pos 0))
    ∷ [])
unfolding the_language the_readers
counts = refl

-- tables
tables : AreRight (
    ("table([1, 2], [[1, 2], [3, 4]])", is (pos 1))
    ∷ ("table([1, 3], [[1, 2], [3, 4]])", is (pos 0))
    ∷ ("table([1, 2], [[1, 2], [3]])", is (pos 0))
    ∷ ("table([1], [])", is (pos 0))
    ∷ [])
unfolding the_language the_readers
tables = refl

-- texts with names that stand for numbers, matrices and a domain
of_names : AreRightIn (
    ((x 5, "x"), is (pos 5))
    ∷ ((x 5, "(x)"), is (pos 5))
    ∷ ((x 5, "-x"), is (negsuc 4))
    ∷ ((x 3, "-x ** 2"), is (pos 9))
    ∷ ((x 0, "!(10/x > 2)"), is (pos 1))
    ∷ ((x 2, "!(10/x > 2)"), is (pos 0))
    ∷ ((matrices, "2 in D"), is (pos 1))
    ∷ ((one "i" 2, "sum i, j : int(1..i) . 1"), is (pos 3))
    ∷ ((x 10, "x + (sum x : int(1..2) . x)"), is (pos 13))
    ∷ ((matrices, "m[2]"), is (pos 20))
    ∷ ((matrices, "m[4]"), none)
    ∷ ((matrices, "m[1/0]"), none)
    ∷ ((matrices, "m[1] + m[9] = 10"), is (pos 0))
    ∷ ((matrices, "w[2]"), is (pos 1))
    ∷ ((matrices, "w[3]"), is (pos 0))
    ∷ ((matrices, "!w[3]"), is (pos 1))
    ∷ ((matrices, "w[1/0]"), is (pos 0))
    ∷ ((matrices, "M[2, 1]"), is (pos 3))
    ∷ ((matrices, "M[2][1]"), is (pos 3))
    ∷ ((matrices, "M[1, ..]"), Some (numbers_at (pos 1 ∷ pos 2 ∷ []) (pos 1 ∷ pos 2 ∷ [])))
    ∷ ((matrices, "M[.., 2]"), Some (numbers_at (pos 1 ∷ pos 2 ∷ []) (pos 2 ∷ pos 4 ∷ [])))
    ∷ ((matrices, "M[2]"), Some (numbers_at (pos 1 ∷ pos 2 ∷ []) (pos 3 ∷ pos 4 ∷ [])))
    ∷ ((matrices, "M[..][1]"), Some (numbers_at (pos 1 ∷ pos 2 ∷ []) (pos 1 ∷ pos 2 ∷ [])))
    ∷ ((matrices, "M[.., 3]"), none)
    ∷ ((four, "gcc([x, y, z], [1, 2], [c, c])"), is (pos 0))
    ∷ ((x 1, "table([x], [[1] | i : int(1..0)])"), is (pos 0))
    ∷ ((x 2, "table([x], [[2], [2]])"), is (pos 1))
    ∷ ((x 1, "table([x], [[2], [2]])"), is (pos 0))
    ∷ ((put (codes "x") (number 3) matrices, "forAll i : D . x >= i"), is (pos 1))
    ∷ ((put (codes "x") (number 2) matrices, "forAll i : D . x >= i"), is (pos 0))
    ∷ ((falses, "toInt(m[i]) = 0"), is (pos 1))
    ∷ ((x 3, "6 / x"), is (pos 2))
    ∷ ((x 0, "6 / x"), none)
    ∷ [])
unfolding the_language the_readers
of_names = refl

-- texts that know the names i, m, w, M and D, each with its value
abbrev AreRightAmong : List (String × Value) → Type 0
AreRightAmong rows = wrong_rows (same_option same_value) (value names) 0 rows ≡ []

forms_1 : AreRightAmong (
    ("[1] >=lex [1]", is (pos 1))
    ∷ ("[1,2] <=lex [1]", is (pos 0))
    ∷ ("[1] >lex [1]", is (pos 0))
    ∷ ("[1] <lex [1/0]", is (pos 0))
    ∷ ("3 != 2", is (pos 1))
    ∷ ("2 != 3", is (pos 1))
    ∷ ("false -> true", is (pos 1))
    ∷ ("false <-> false", is (pos 1))
    ∷ ("and([true,true])", is (pos 1))
    ∷ ("max([9,2])", is (pos 9))
    ∷ ("-(1/0)", none)
    ∷ ("|1/0|", none)
    ∷ ("factorial(1/0)", none)
    ∷ ("flatten([1/0])", none)
    ∷ ("2 * (1/0)", none)
    ∷ ("(1/0) * 2", none)
    ∷ ("min(1, 1/0)", none)
    ∷ ("1 < 1/0", is (pos 0))
    ∷ ("1/0 < 1", is (pos 0))
    ∷ ("1/0 in int(0..9)", is (pos 0))
    ∷ ("1/0 in toSet([0,1])", is (pos 0))
    ∷ ("1 in toSet([1/0,1])", is (pos 0))
    ∷ ("1 in toSet([[0],[2,1]])", is (pos 1))
    ∷ ("true /\\ true /\\ false", is (pos 0))
    ∷ ("true \\/ false", is (pos 1))
    ∷ ("exists j : int(1..2) . j = 3", is (pos 0))
    ∷ ("exists j, k : int(1..2) . j + k = 4", is (pos 1))
    ∷ ("sum j : int(0..2) . 6/j", none)
    ∷ ("[6/j | j : int(0..2), j > 0]", Some (numbers_at (pos 1 ∷ pos 2 ∷ []) (pos 6 ∷ pos 3 ∷ [])))
    ∷ ("[j | j : int(1..4), j > 1, j < 4]", Some (numbers_at (pos 1 ∷ pos 2 ∷ []) (pos 2 ∷ pos 3 ∷ [])))
    ∷ ("[j | j : int(1..4), j < 4, j > 1]", Some (numbers_at (pos 1 ∷ pos 2 ∷ []) (pos 2 ∷ pos 3 ∷ [])))
    ∷ ("[j | j : int(1..2); int(1..3)]", none)
    ∷ ("[j | j : int(1..2); int(1..1/0)]", none)
    ∷ ("[i | i : int(1..2); int(i..i+1)]", Some (numbers_at (pos 5 ∷ pos 6 ∷ []) (pos 1 ∷ pos 2 ∷ [])))
    ∷ ("[4,5; int(1)]", none)
    ∷ [])
unfolding the_language the_readers
forms_1 = refl

forms_2 : AreRightAmong (
    ("[true; int(1..2)][1]", is (pos 0))
    ∷ ("[true,false][1/0]", is (pos 0))
    ∷ ("[[true],[false]][3,..]", none)
    ∷ ("[[true],[false]][..,2]", none)
    ∷ ("M[3,..]", none)
    ∷ ("M[1/0,..]", none)
    ∷ ("forAll b : bool . [b][2]", is (pos 0))
    ∷ ("and([[b][2] | b : bool])", is (pos 0))
    ∷ ("![true; int(1..2)][1]", is (pos 1))
    ∷ ("gcc([1/0],[1],[0])", is (pos 0))
    ∷ ("gcc([1],[1/0],[0])", is (pos 0))
    ∷ ("gcc([1],[1],[1/0])", is (pos 0))
    ∷ ("gcc([1,1],[1,1],[2,2])", is (pos 1))
    ∷ ("gcc([1],[],[])", is (pos 1))
    ∷ ("atmost([1,1,2],[2,1],[1,2])", is (pos 1))
    ∷ ("atmost([1,1,2],[1],[2])", is (pos 1))
    ∷ ("table([1/0],[[1]])", is (pos 0))
    ∷ ("table([1],[[1],[1/0]])", is (pos 0))
    ∷ ("1 in int(1/0..3)", is (pos 0))
    ∷ ("2 in int(1..2) - int(2..3)", is (pos 0))
    ∷ ("3 in int(1..2) - int(2..3)", is (pos 0))
    ∷ ("1 in (int(1/0) union int(1))", is (pos 0))
    ∷ ("sum j : int(0..1) . (sum k : int(1..1/j) . 1)", none)
    ∷ ("[1][1] + [[1],[2]][1][1]", is (pos 2))
    ∷ ("(1/0) + 1", none)
    ∷ ("1 % (1/0)", none)
    ∷ ("2 ** (1/0)", none)
    ∷ ("[1,1/0][2] = 1", is (pos 0))
    ∷ ("!(1/0 < 1)", is (pos 1))
    ∷ ("!(1 < 1/0)", is (pos 1))
    ∷ ("[4; int(1..2)][1]", none)
    ∷ ("M[1,..][2]", is (pos 2))
    ∷ ("m[1/0]", none)
    ∷ ("!(1/0 in int(0..9))", is (pos 1))
    ∷ [])
unfolding the_language the_readers
forms_2 = refl

-- ---- in both modes

abbrev Values : Type 0
Values = Value × Value

abbrev values : String → Option Values
values text = option_map (λ tree. (evaluate Mode.Relational names tree, evaluate Mode.Strict names tree)) (expr_in text)

-- texts that know these names, each with its values in the relational mode and in the strict one
abbrev AreRightInBoth : List (String × Values) → Type 0
AreRightInBoth rows = wrong_rows (same_pair (same_option same_value) (same_option same_value)) values 0 rows ≡ []

modes_1 : AreRightInBoth (
    ("1/0 = 1", (is (pos 0), none))
    ∷ ("!(1/0 = 1)", (is (pos 1), none))
    ∷ ("true \\/ (1/0 = 1)", (is (pos 1), none))
    ∷ ("(1/0 = 1) \\/ true", (is (pos 1), none))
    ∷ ("false /\\ (1/0 = 1)", (is (pos 0), none))
    ∷ ("false -> (1/0 = 1)", (is (pos 1), none))
    ∷ ("(1/0 = 1) -> true", (is (pos 1), none))
    ∷ ("(1/0 = 1) <-> false", (is (pos 1), none))
    ∷ ("toInt(1/0 = 1)", (is (pos 0), none))
    ∷ ("[1/0] <lex [1]", (is (pos 0), none))
    ∷ ("1/0 in int(0..9)", (is (pos 0), none))
    ∷ ("1 in int(0..1/0)", (is (pos 0), none))
    ∷ ("1 in toSet([1, 1/0])", (is (pos 0), none))
    ∷ ("allDiff([1, 1/0])", (is (pos 0), none))
    ∷ ("and([true, 1/0 = 1])", (is (pos 0), none))
    ∷ ("or([true, 1/0 = 1])", (is (pos 1), none))
    ∷ ("gcc([1/0], [1], [0])", (is (pos 0), none))
    ∷ ("table([1/0], [[1]])", (is (pos 0), none))
    ∷ ("forAll j : int(1..1/0) . true", (is (pos 0), none))
    ∷ ("exists j : int(1..1/0) . true", (is (pos 0), none))
    ∷ ("sum j : int(1..1/0) . 1", (none, none))
    ∷ ("forAll j : int(0..1) . 6 / j >= 0", (is (pos 0), none))
    ∷ ("exists j : int(0..1) . 6 / j = 6", (is (pos 1), none))
    ∷ ("sum j : int(0..1) . 6 / j", (none, none))
    ∷ ("forAll j : int(1..0) . 1/0 = 1", (is (pos 1), is (pos 1)))
    ∷ ("exists j : int(1..0) . 1/0 = 1", (is (pos 0), is (pos 0)))
    ∷ ("exists j, k : int(1..1/(2 - i)) . true", (is (pos 0), is (pos 0)))
    ∷ ("exists j : int(0..1) . (exists k : int(1..1/j) . k = 1)", (is (pos 1), none))
    ∷ ("[j | j : int(0..2), 6 / j = 6]", (Some (numbers_at (pos 1 ∷ []) (pos 1 ∷ [])), none))
    ∷ ("[j | j : int(0..2), false, 6 / j = 6]", (Some (numbers_at [] []), none))
    ∷ [])
unfolding the_language the_readers
modes_1 = refl

modes_2 : AreRightInBoth (
    ("[6 / j | j : int(0..2), j > 0]", (Some (numbers_at (pos 1 ∷ pos 2 ∷ []) (pos 6 ∷ pos 3 ∷ [])), Some (numbers_at (pos 1 ∷ pos 2 ∷ []) (pos 6 ∷ pos 3 ∷ []))))
    ∷ ("[j | j : int(1..1/0)]", (none, none))
    ∷ ("[k | j : int(0..1), k : int(1..1/j)]", (none, none))
    ∷ ("[true, false][3]", (is (pos 0), none))
    ∷ ("![true, false][3]", (is (pos 1), none))
    ∷ ("[true, false][1/0]", (is (pos 0), none))
    ∷ ("[1, 2][3]", (none, none))
    ∷ ("[[true], [false]][3, ..]", (none, none))
    ∷ ("[true, false][2]", (is (pos 0), is (pos 0)))
    ∷ ("[6 / 0 = 1, true][2]", (is (pos 1), none))
    ∷ ("gcc([1, 2], [1, 2], [1])", (is (pos 0), none))
    ∷ ("gcc([1, 2], [1], [1, 1])", (is (pos 0), none))
    ∷ ("gcc([1, 2], [1, 2], [1, 1])", (is (pos 1), is (pos 1)))
    ∷ ("atleast([1, 2], [1], [1, 2])", (is (pos 0), none))
    ∷ ("atmost([1, 2], [1, 1], [1])", (is (pos 0), none))
    ∷ ("atleast([1, 2], [1, 0], [1, 2])", (is (pos 1), is (pos 1)))
    ∷ ("table([1, 2], [[1, 2], [1, 2, 3]])", (is (pos 0), none))
    ∷ ("table([1, 2], [[3, 4], [1, 2]])", (is (pos 1), is (pos 1)))
    ∷ ("table([1, 2], [[j, j] | j : int(1..0)])", (is (pos 0), is (pos 0)))
    ∷ ("(0 = 0) \\/ (10 / 0 >= 10)", (is (pos 1), none))
    ∷ ("(1 = 0) \\/ (10 / 1 >= 10)", (is (pos 1), is (pos 1)))
    ∷ ("(2 = 0) \\/ (10 / 2 >= 10)", (is (pos 0), is (pos 0)))
    ∷ ("[1/0 = 1] <lex [true]", (is (pos 1), none))
    ∷ [])
unfolding the_language the_readers
modes_2 = refl
