-- Binding and judging, computed by the checker. Each model stands behind its language line.
use Rattle.std.specs.Prelude.{◌≡◌, ℕ, Bool, true, false, ◌&&◌, List, [], ◌∷◌, ◌++◌, map, ℤ, pos, Some, None, Ok, Err, codes, Option, Result, option_and_then, option_map, ◌==◌, bytes_eq, refl}
use Prim.Native.String.{String}
use Rattle.ep_base.specs.declared.operators.Limit.{Limit}
use Rattle.ep_tree.proofs.Opened.{the_language}
use Rattle.ep_tree.specs.Binding.{Find, Instance, Refusal, TextName, bind, missing_parameter, model_text, outside_domain, over_limit, parameter_text, solution_text, undefined_at, where_false}
use Rattle.ep_tree.specs.Environments.{Bound, Env, has_value}
use Rattle.ep_tree.specs.Limits.{counted_value, limits_of_values}
use Rattle.ep_tree.specs.Measures.{met}
use Rattle.ep_tree.specs.Names.{nothing_known, put}
use Rattle.ep_tree.specs.SolutionTexts.{Shaped, fits, read_solution, wrong_shape}
use Rattle.ep_tree.specs.Solutions.{Assigned, Judgement, NamedValue, a_solution, found_values, goal_undefined, goal_value, instance_reach, instance_size, instance_weight, judgement, violated, violates}
use Rattle.ep_tree.specs.Statements.{given, letting}
use Rattle.ep_tree.specs.Trees.{binary, end_at, no_ranges, number, ranges, span_and}
use Rattle.ep_tree.specs.Values.{list_value, matrix, no_values, single, value_and}
use Rattle.ep_tree.specs.declared.syntax.BinaryOp.{BinaryOp}
use Rattle.ep_tree.specs.declared.values.Mode.{Mode}
use Rattle.ep_tree.specs.declared.values.Scalar.{Scalar}
use Rattle.ep_tree.specs.declared.values.ValueType.{ValueType}
use Rattle.ep_tree_rows.proofs.Texts.{at, expr_in, model_in, params_in, same_list, same_pair, same_place, the_readers, wrong_rows}

-- a model and its parameters
abbrev Texts : Type 0
Texts = String × String

-- what both are bound as, where they are read
abbrev bound : Mode → Texts → Option (Result Instance (List Refusal))
bound mode texts = option_and_then (λ model. option_map (bind mode model) (params_in texts.1)) (model_in texts.0)

-- what binding refuses
abbrev refusals : Result Instance (List Refusal) → List Refusal
refusals (Ok i) = []
refusals (Err rs) = rs

abbrev refused : Mode → Texts → Option (List Refusal)
refused mode texts = option_map refusals (bound mode texts)

-- the instance of a model and its parameters
abbrev instance_in : Texts → Option Instance
instance_in texts = option_and_then instance (bound Mode.Relational texts)
  where
    instance : Result Instance (List Refusal) → Option Instance
    instance (Ok i) = Some i
    instance (Err rs) = None

-- ---- what is refused

abbrev same_text : TextName → TextName → Bool
same_text model_text model_text = true
same_text parameter_text parameter_text = true
same_text solution_text solution_text = true
same_text _ _ = false

abbrev same_limit : Limit → Limit → Bool
same_limit Limit.Size Limit.Size = true
same_limit Limit.Reach Limit.Reach = true
same_limit Limit.Weight Limit.Weight = true
same_limit _ _ = false

abbrev same : Refusal → Refusal → Bool
same (over_limit k) (over_limit l) = same_limit k l
same (undefined_at s p) (undefined_at t q) = same_text s t && same_place p q
same (missing_parameter x) (missing_parameter y) = bytes_eq x y
same (outside_domain x) (outside_domain y) = bytes_eq x y
same (where_false m) (where_false n) = m == n
same _ _ = false

-- texts, each with what is refused of them
abbrev AreRight : List (Texts × List Refusal) → Type 0
AreRight rows = wrong_rows (same_list same) (refused Mode.Relational) 0 rows ≡ []

refusals_of_texts : AreRight (
    -- a `where` clause that is false
    (("given n : int(1..9)\nwhere n % 2 = 0\nfind x : int(1..n)", "letting n be 3"), where_false 1 ∷ [])
    -- a parameter outside its domain
    ∷ (("given n : int(1..9)\nwhere n % 2 = 0\nfind x : int(1..n)", "letting n be 10"), outside_domain (codes "n") ∷ [])
    -- no parameter
    ∷ (("given n : int(1..9)\nwhere n % 2 = 0\nfind x : int(1..n)", ""), missing_parameter (codes "n") ∷ [])
    -- a domain is no parameter
    ∷ (("given n : int(1..9)\nwhere n % 2 = 0\nfind x : int(1..n)", "letting n be domain int(1..2)"), missing_parameter (codes "n") ∷ [])
    -- a number beyond it
    ∷ (("letting a be 2 ** 41", ""), over_limit Limit.Reach ∷ [])
    -- a list whose index domain has another number of values
    ∷ (("letting m be [5, 6; int(1..3)]", ""), undefined_at model_text (at 2 1) ∷ [])
    -- a letting without a value
    ∷ (("letting n be 1/0", ""), undefined_at model_text (at 2 1) ∷ [])
    -- the same in the parameter text, though the model has no use for it
    ∷ (("find x : bool", "letting n be 1/0"), undefined_at parameter_text (at 1 1) ∷ [])
    -- a domain without a value is named at its statement
    ∷ (("find x : int(1..3)\nfind y, z : int(1..2), w : int(1..1/0)", ""), undefined_at model_text (at 3 1) ∷ [])
    -- groups of a `given` come one after another
    ∷ (("given a : int(1..2), b : int(1..1/0)", "letting b be 1"), missing_parameter (codes "a") ∷ [])
    -- a missing parameter comes before one outside its domain, and the first that is missing is named
    ∷ (("given a, b, c : int(1..2)", "letting a be 5\nletting b be 1"), missing_parameter (codes "c") ∷ [])
    -- a later group sees the values of the earlier ones
    ∷ (("given n : int(1..9), m : int(1..n)", "letting m be 3\nletting n be 2"), outside_domain (codes "m") ∷ [])
    -- open domains of parameters
    ∷ (("given n : int(2..), k : int, j : int(..0) union int(7)", "letting n be 200\nletting k be -5\nletting j be 7"), [])
    -- a parameter below an open domain
    ∷ (("given n : int(2..)", "letting n be 1"), outside_domain (codes "n") ∷ [])
    -- an integer is no Boolean
    ∷ (("given b : bool", "letting b be 1"), outside_domain (codes "b") ∷ [])
    -- a matrix with too few parts
    ∷ (("given m : matrix indexed by [int(5..7)] of int(0..9)", "letting m be [7, 8]"), outside_domain (codes "m") ∷ [])
    -- a letting outside its own domain
    ∷ (("letting c : bool = 3", ""), outside_domain (codes "c") ∷ [])
    -- `where` clauses are numbered over all statements
    ∷ (("where true, 1 = 1\nwhere 2 = 2, 1/0 = 1, 3 = 4", ""), where_false 4 ∷ [])
    ∷ [])
unfolding the_language the_readers
refusals_of_texts = refl

-- which refusal comes first
order : AreRight (
    (("letting a : int(1..1/0) be 2**41", ""), over_limit Limit.Reach ∷ [])
    ∷ (("letting a : int(1..2**41) be 1/0", ""), over_limit Limit.Reach ∷ [])
    ∷ (("given n : int(2**41..1/0)", ""), over_limit Limit.Reach ∷ [])
    ∷ (("given n : int(1..1/0)", ""), undefined_at model_text (at 2 1) ∷ [])
    ∷ (("given n, m : int(1..1)", "letting n be 5"), missing_parameter (codes "m") ∷ [])
    ∷ (("given a, b : int(1..2)", "letting a be 1\nletting b be 5"), outside_domain (codes "b") ∷ [])
    ∷ (("given a, b : int(1..2)", "letting a be 7\nletting b be 5"), outside_domain (codes "a") ∷ [])
    ∷ (("given a : int(1..2),\n      b : int(1..1/0)", "letting a be 1"), undefined_at model_text (at 2 1) ∷ [])
    ∷ (("given a : int(1..2), b : int(2**41..3)", "letting a be 3"), outside_domain (codes "a") ∷ [])
    ∷ (("letting c : int(1..1/0) be true", ""), undefined_at model_text (at 2 1) ∷ [])
    ∷ (("letting c : bool be 1/0", ""), undefined_at model_text (at 2 1) ∷ [])
    ∷ (("letting D be domain int(1..2**41/0)", ""), over_limit Limit.Reach ∷ [])
    ∷ (("where false, 2**41 > 0", ""), over_limit Limit.Reach ∷ [])
    ∷ (("where 1/0 = 1, true", ""), where_false 1 ∷ [])
    ∷ (("find x : int(1..1/0), y : int(1..2**41)", ""), over_limit Limit.Reach ∷ [])
    ∷ (("find x : bool\nsuch that x, 2**41 = 1/0\nminimising 2**41\nbranching on [x]\nheuristic h", ""), [])
    ∷ (("where 1 = 2\nletting a be 1/0", ""), where_false 1 ∷ [])
    ∷ (("letting a be 1/0\nwhere 1 = 2", ""), undefined_at model_text (at 2 1) ∷ [])
    ∷ (("given n : int(1..2)", "letting n be 5\nletting k be 1/0"), undefined_at parameter_text (at 2 1) ∷ [])
    ∷ (("given n : int(1..2)", "letting k : bool be 2\nletting n be 2"), outside_domain (codes "k") ∷ [])
    ∷ (("given n : int(1..2)", "letting D be domain int(1..1/0)\nletting n be 2"), undefined_at parameter_text (at 1 1) ∷ [])
    ∷ (("letting m be product([2, 2**40, 0])", ""), over_limit Limit.Reach ∷ [])
    ∷ (("letting m be product([0, 2, 2**40])", ""), [])
    ∷ (("letting m be [2**40, -2**40]", ""), [])
    ∷ (("letting n be -(2**40) - 1", ""), over_limit Limit.Reach ∷ [])
    ∷ [])
unfolding the_language the_readers
order = refl

-- a `given` in a parameter text, which no text is read as, has no say
--     given n : int(1..2)
-- with the parameters
--     given g : int(1..1/0)
--     letting n be 2
given_aside : refusals (bind Mode.Relational (given (at 2 1) (record { names = ((codes "n"), (at 2 7)) ∷ []; domain = (ranges (at 2 11) (span_and (end_at (number (at 2 15) (pos 1))) (end_at (number (at 2 18) (pos 2))) no_ranges)) } ∷ []) ∷ []) (given (at 1 1) (record { names = ((codes "g"), (at 1 7)) ∷ []; domain = (ranges (at 1 11) (span_and (end_at (number (at 1 15) (pos 1))) (end_at (binary (at 1 18) BinaryOp.Div (number (at 1 18) (pos 1)) (number (at 1 20) (pos 0)))) no_ranges)) } ∷ []) ∷ letting (at 2 1) (codes "n") (at 2 9) None (number (at 2 14) (pos 2)) ∷ [])) ≡ []
unfolding the_language
given_aside = refl

-- ---- the two modes

-- models, what refuses them where what is undefined makes the nearest Boolean false, and what where it makes the whole undefined
modes : wrong_rows (same_pair (same_list same) (same_list same))
    (λ model. option_and_then (λ relational. option_map (λ strict. (relational, strict)) (refused Mode.Strict (model, ""))) (refused Mode.Relational (model, "")))
    0 (
    ("where true \\/ (1/0 = 1)", ([], where_false 1 ∷ []))
    ∷ ("letting b be 1/0 = 1", ([], undefined_at model_text (at 2 1) ∷ []))
    ∷ ("where 1 = 2, 1/0 = 1", (where_false 1 ∷ [], where_false 1 ∷ []))
    ∷ ("letting D be domain int(1..min([i | i : int(1..3), 1/(i-1) > 0]))", ([], undefined_at model_text (at 2 1) ∷ []))
    ∷ []) ≡ []
unfolding the_language the_readers
modes = refl

-- ---- what is bound

-- what a name stands for
abbrev stands_for : Texts → String → Option Bound
stands_for texts name = option_and_then (λ (i : Instance). i.env (codes name)) (instance_in texts)

-- a parameter text sees its earlier lettings
by_steps : stands_for ("given n : int(1..9)\nwhere n % 2 = 0\nfind x : int(1..n)", "letting k be 3\nletting n be k + 1") "n" ≡ Some (has_value ValueType.Int (single (pos 4)))
unfolding the_language the_readers
by_steps = refl

-- the greatest number
great : stands_for ("letting a be 2 ** 40", "") "a" ≡ Some (has_value ValueType.Int (single (pos 1099511627776)))
unfolding the_language the_readers
great = refl

-- a Boolean is an integer
as_boolean : stands_for ("given n : int(0..1)", "letting n be true") "n" ≡ Some (has_value ValueType.Int (single (pos 1)))
unfolding the_language the_readers
as_boolean = refl

-- a matrix takes the indices of its domain
reindexed : stands_for ("given m : matrix indexed by [int(5..6)] of int(0..9)", "letting m be [7, 8]") "m" ≡ Some (has_value (ValueType.Matrix 1 Scalar.Int) (matrix (pos 5 ∷ pos 6 ∷ []) (value_and (single (pos 7)) (value_and (single (pos 8)) no_values))))
unfolding the_language the_readers
reindexed = refl

-- a list without parts fits where the first index domain is empty
no_rows : stands_for ("given m : matrix indexed by [int(1..0), int(1..2)] of bool", "letting m be []") "m" ≡ Some (has_value (ValueType.Matrix 2 Scalar.Bool) (matrix [] no_values))
unfolding the_language the_readers
no_rows = refl

-- the decision variables
abbrev finds : Texts → List Find
finds texts = of (instance_in texts)
  where
    of : Option Instance → List Find
    of (Some i) = i.finds
    of None = []

-- a `where` clause that is true
even : finds ("given n : int(1..9)\nwhere n % 2 = 0\nfind x : int(1..n)", "letting n be 4") ≡ record { name = codes "x"; scalar = Scalar.Int; indices = []; values = pos 1 ∷ pos 2 ∷ pos 3 ∷ pos 4 ∷ [] } ∷ []
unfolding the_language the_readers
even = refl

-- a matrix domain over a named one
matrix_of_named : finds ("letting D be domain matrix indexed by [int(1..2)] of int(3..4)\nfind m : matrix indexed by [bool] of D", "") ≡ record { name = codes "m"; scalar = Scalar.Int; indices = (pos 0 ∷ pos 1 ∷ []) ∷ (pos 1 ∷ pos 2 ∷ []) ∷ []; values = (pos 3 ∷ pos 4 ∷ []) } ∷ []
unfolding the_language the_readers
matrix_of_named = refl

-- ---- measures

-- S, E, N, D, M, O, R and Y are digits, of which a sum is another number
abbrev send : String
send = "find S, E, N, D, M, O, R, Y : int(0..9)\nsuch that 1000*S + 100*E + 10*N + D + 1000*M + 100*O + 10*R + E = 10000*M + 1000*O + 100*N + 10*E + Y,\nS != 0, M != 0, allDiff([S, E, N, D, M, O, R, Y])"

-- the number of a model, by what it is measured with
abbrev numbers : {A : Type 0} → (Instance → A) → String → Option A
numbers measure model = option_map measure (instance_in (model, ""))

-- sizes: one node, two bounds, and seven bodies; three quantifiers, one in another: 1 + 2, twice 1 + 2, four times 1 + 2, and eight
-- bodies; and five values of one cell, and a comparison of a power with a number
sizes : wrong_rows (λ m n. m == n) (numbers (instance_size Mode.Relational)) 0 (
    ("such that forAll i : int(1..7) . true", 10)
    ∷ ("such that forAll i, j, k : int(1..2) . true", 29)
    ∷ ("find x : int(0..4)\nsuch that x ** 3 = 8", 6)
    ∷ []) ≡ []
unfolding the_language the_readers
sizes = refl

-- weights: that of the power; 20 for the cells, 100 for the product, and 82 + 1 for the equation; and 1,599,920 and 5,000,000 for the
-- sums, 100 for the products, 119,999 for the equation, 22 for two `!=`, 640 for `allDiff` and 80 for the cells
weights : wrong_rows (λ m n. m == n) (numbers (instance_weight Mode.Relational)) 0 (
    ("find x : int(0..4)\nsuch that x ** 3 = 8", 76)
    ∷ ("find x, y : int(0..9)\nsuch that x * y = 6", 203)
    ∷ (send, 1095185)
    ∷ []) ≡ []
unfolding the_language the_readers
weights = refl

reach : numbers (instance_reach Mode.Relational) "find x : int(0..4)\nsuch that x ** 3 = 8" ≡ Some (pos 64)
unfolding the_language the_readers
reach = refl

-- ---- assignments

-- whether an assignment fits, the least clause that it violates, and its objective's number
abbrev judged : Option Instance → Assigned → Option (Option ℕ × Option ℤ)
judged (Some i) a = option_map (λ found. (violated Mode.Relational i found, goal_value Mode.Relational i found)) (found_values i.finds a)
judged None a = None

-- a number by its name
abbrev gives : String → ℕ → NamedValue
gives name n = record { name = codes name; ty = ValueType.Int; value = single (pos n) }

-- the digits of 9567 + 1085 and the last one of the sum, and without one
abbrev nine : Assigned
nine = gives "S" 9 ∷ gives "E" 5 ∷ gives "N" 6 ∷ gives "D" 7 ∷ gives "M" 1 ∷ gives "O" 0 ∷ gives "R" 8 ∷ []

sums_judged : map (judged (instance_in (send, ""))) ((nine ++ gives "Y" 2 ∷ []) ∷ (nine ++ gives "Y" 3 ∷ []) ∷ nine ∷ [])
    ≡ Some (None, None) ∷ Some (Some 1, None) ∷ None ∷ []
unfolding the_language the_readers
sums_judged = refl

-- an objective
abbrev quotient : String
quotient = "find x : int(0..3)\nminimising 6 / x"

quotients_judged : map (λ n. judged (instance_in (quotient, "")) (gives "x" n ∷ [])) (3 ∷ 2 ∷ 0 ∷ 4 ∷ [])
    ≡ Some (None, Some (pos 2)) ∷ Some (None, Some (pos 3)) ∷ Some (None, None) ∷ None ∷ []
unfolding the_language the_readers
quotients_judged = refl

-- open domains, a matrix of Booleans and an objective
abbrev knapsack : Texts
knapsack = ("given n, cap : int(1..)\ngiven w, v : matrix indexed by [int(1..n)] of int(0..)\nfind take : matrix indexed by [int(1..n)] of bool\nmaximising sum([take[i] * v[i] | i : int(1..n)])\nsuch that sum([take[i] * w[i] | i : int(1..n)]) <= cap", "letting n be 3\nletting cap be 7\nletting w be [3, 4, 5]\nletting v be [4, 5, 6]")

abbrev takes : ℕ → Assigned
takes third = record { name = codes "take"; ty = ValueType.Matrix 1 Scalar.Bool; value = list_value (pos 1 ∷ pos 1 ∷ pos third ∷ []) } ∷ []

-- the best of them, and one that is too heavy
knapsacks_judged : map (λ n. judged (instance_in knapsack) (takes n)) (0 ∷ 1 ∷ []) ≡ Some (None, Some (pos 9)) ∷ Some (Some 1, Some (pos 15)) ∷ []
unfolding the_language the_readers
knapsacks_judged = refl

-- a judgement of each number of x
abbrev judgements : Option Instance → ℕ → Option Judgement
judgements (Some i) n = option_map (judgement Mode.Relational i) (found_values i.finds (gives "x" n ∷ []))
judgements None n = None

all_judged : map (judgements (instance_in ("find x : int(0..3)\nminimising 6 / x\nsuch that x != 1, x != 2", ""))) (0 ∷ 1 ∷ 2 ∷ 3 ∷ 4 ∷ [])
    ≡ Some goal_undefined ∷ Some (violates 1) ∷ Some (violates 2) ∷ Some (a_solution (Some (pos 2))) ∷ None ∷ []
unfolding the_language the_readers
all_judged = refl

-- ---- solution texts

-- what a solution text gives the instance
abbrev solution : String → Option (Result Shaped (List Refusal))
solution text = option_and_then (λ i. option_map (read_solution Mode.Relational i) (params_in text)) (instance_in (quotient, ""))

-- a value of the decision variable; no value; a value outside its domain; a letting that is no decision variable; either of two names may be named; a domain is no value; a value outside the domain that the letting itself states; a letting without a value
solutions : map solution ("letting x be 2" ∷ "" ∷ "letting x be 9" ∷ "letting z be 2\nletting x be 2" ∷ "letting z be 2" ∷ "letting x be domain int(2)" ∷ "letting x : int(0..1) be 2" ∷ "letting x be 1/0"
    ∷ []) ≡ Some (Ok (fits (record { name = codes "x"; ty = ValueType.Int; value = single (pos 2) } ∷ [])))
    ∷ Some (Ok (wrong_shape (codes "x" ∷ [])))
    ∷ Some (Ok (wrong_shape (codes "x" ∷ [])))
    ∷ Some (Ok (wrong_shape (codes "z" ∷ [])))
    ∷ Some (Ok (wrong_shape (codes "x" ∷ codes "z" ∷ [])))
    ∷ Some (Ok (wrong_shape (codes "x" ∷ [])))
    ∷ Some (Err (outside_domain (codes "x") ∷ []))
    ∷ Some (Err (undefined_at solution_text (at 1 1) ∷ []))
    ∷ []
unfolding the_language the_readers
solutions = refl

-- ---- limits of values

-- m is a matrix with a part past the limit
abbrev with_far : Env
with_far = put (codes "m") (has_value (ValueType.Matrix 1 Scalar.Int) (list_value (pos 2199023255552 ∷ pos 1 ∷ []))) nothing_known

-- Of the limit of numbers: where so many nodes were met before, and an expression, which limits are passed. The value of a matrix is no
-- number, whatever its parts are.
limits : wrong_rows (same_list same_limit) (λ (row : ℕ × String). option_map (λ e. limits_of_values Mode.Relational row.0 (met Mode.Relational with_far e)) (expr_in row.1)) 0 (
    ((0, "m[2]"), [])
    ∷ ((0, "m[1]"), Limit.Reach ∷ [])
    ∷ ((0, "sum(m) - sum(m)"), Limit.Reach ∷ [])
    ∷ ((4999999, "1"), [])
    ∷ ((5000000, "1"), Limit.Size ∷ [])
    ∷ ((4999999, "(1)"), Limit.Size ∷ [])
    ∷ ((4999998, "2 ** 41"), Limit.Size ∷ Limit.Reach ∷ [])
    ∷ ((4999997, "2 ** 41"), Limit.Reach ∷ [])
    ∷ ((0, "product([1 / 0, 3])"), [])
    ∷ []) ≡ []
unfolding the_language the_readers
limits = refl

-- what a counted evaluation says: a value and the nodes met by then, or the limits
counted : map (λ n. option_map (counted_value Mode.Relational n with_far) (expr_in "2 + 3")) (7 ∷ 5000000 ∷ [])
    ≡ Some (Ok (Some (single (pos 5)), 10)) ∷ Some (Err (Limit.Size ∷ [])) ∷ []
unfolding the_language the_readers
counted = refl
