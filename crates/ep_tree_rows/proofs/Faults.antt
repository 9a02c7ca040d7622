-- Faults of whole texts, computed by the checker. Each text stands behind the language line.
use Rattle.std.specs.Prelude.{◌≡◌, Bool, false, ◌&&◌, List, [], ◌∷◌, None, option_map, bytes_eq, pos, codes, refl}
use Prim.Native.String.{String}
use Rattle.ep_tree.proofs.Opened.{the_language}
use Rattle.ep_tree.specs.Faults.{Fault, ill_typed, open_domain, params_faults, redeclared, text_faults, unknown_name, wrong_category}
use Rattle.ep_tree.specs.Statements.{given, letting}
use Rattle.ep_tree.specs.Trees.{end_at, named, no_ranges, number, ranges, span_and}
use Rattle.ep_tree_rows.proofs.Texts.{at, model_in, same_list, same_place, the_readers, wrong_rows}

-- whether two faults are the same
abbrev same : Fault → Fault → Bool
same (unknown_name p x) (unknown_name q y) = same_place p q && bytes_eq x y
same (redeclared p x) (redeclared q y) = same_place p q && bytes_eq x y
same (ill_typed p) (ill_typed q) = same_place p q
same (wrong_category p) (wrong_category q) = same_place p q
same (open_domain p) (open_domain q) = same_place p q
same _ _ = false

-- texts, each with its faults
abbrev AreRight : List (String × List Fault) → Type 0
AreRight rows = wrong_rows (same_list same) (λ text. option_map text_faults (model_in text)) 0 rows ≡ []

-- each fault
each : AreRight (
    ("find x : int(1..3)\nsuch that x > 2", [])
    ∷ ("such that y = 1", unknown_name (at 2 11) (codes "y") ∷ [])
    ∷ ("find x : bool\nfind x : bool", redeclared (at 3 6) (codes "x") ∷ [])
    ∷ ("find x : matrix indexed by [int(1..2)] of int(0..9)\nsuch that sum i : int(1..2) . x[i] = 5", ill_typed (at 3 11) ∷ [])
    ∷ ("find x : int(1..3)\nfind y : int(1..x)", wrong_category (at 3 17) ∷ [])
    ∷ ("find x : int", open_domain (at 2 10) ∷ [])
    ∷ [])
unfolding the_language the_readers
each = refl

-- names are declared before they are used, and once
declarations : AreRight (
    ("find x, x : bool", redeclared (at 2 9) (codes "x") ∷ [])
    ∷ ("given n : int(1..3), m : int(1..n)", [])
    ∷ ("given m : int(1..n), n : int(1..3)", unknown_name (at 2 18) (codes "n") ∷ [])
    ∷ ("letting n be n", unknown_name (at 2 14) (codes "n") ∷ [])
    ∷ ("such that x = 1\nfind x : int(1..3)", unknown_name (at 2 11) (codes "x") ∷ [])
    ∷ ("branching on [x]", unknown_name (at 2 15) (codes "x") ∷ [])
    ∷ ("find x : int(1..3)\nbranching on [x, x]", [])
    ∷ ("heuristic anything", [])
    ∷ [])
unfolding the_language the_readers
declarations = refl

-- a name stands as what it is declared as
kinds_of_names : AreRight (
    ("letting D be domain int(1..3)\nfind x : D\nsuch that x in D", [])
    ∷ ("letting D be domain int(1..3)\nsuch that D = 1", ill_typed (at 3 11) ∷ [])
    ∷ ("letting n be 3\nfind x : n", ill_typed (at 3 10) ∷ [])
    ∷ ("find x : int(1..3)\nfind y : x", ill_typed (at 3 10) ∷ wrong_category (at 3 10) ∷ [])
    ∷ [])
unfolding the_language the_readers
kinds_of_names = refl

-- clauses are Boolean, and objectives integer
clauses : AreRight (
    ("such that 1", ill_typed (at 2 11) ∷ [])
    ∷ ("where [true]", ill_typed (at 2 7) ∷ [])
    ∷ ("minimising [1]", ill_typed (at 2 12) ∷ [])
    ∷ ("minimising true", [])
    ∷ [])
unfolding the_language the_readers
clauses = refl

-- where no decision variable stands
decisions : AreRight (
    ("find x : int(1..3)\nletting n be x", wrong_category (at 3 14) ∷ [])
    ∷ ("find x : int(1..3)\nwhere x = 1", wrong_category (at 3 7) ∷ [])
    ∷ ("find x : int(1..3)\nsuch that sum([1 | i : int(1..2), x = i]) = 1", wrong_category (at 3 35) ∷ [])
    ∷ ("find x : int(1..3)\nfind M : matrix indexed by [int(1..2), int(1..2)] of int(1..3)\nsuch that allDiff(M[x, ..])", wrong_category (at 4 21) ∷ [])
    ∷ ("find x : int(1..3)\nfind M : matrix indexed by [int(1..2), int(1..2)] of int(1..3)\nsuch that allDiff(M[x])", wrong_category (at 4 21) ∷ [])
    ∷ ("find x : int(1..3)\nfind M : matrix indexed by [int(1..2), int(1..2)] of int(1..3)\nsuch that M[x, 1] = 1", [])
    ∷ ("find x : int(1..3)\nsuch that 2 ** x = 2", wrong_category (at 3 16) ∷ [])
    ∷ ("find x : int(1..3)\nsuch that x ** 2 = 4", [])
    ∷ ("find x : int(1..3)\nsuch that factorial(x) = 2", wrong_category (at 3 21) ∷ [])
    ∷ ("find x : int(1..3)\nsuch that gcc([x], [x], [x])", wrong_category (at 3 21) ∷ [])
    ∷ ("find x : int(1..3)\nsuch that atleast([x], [x], [1])", wrong_category (at 3 25) ∷ [])
    ∷ ("find x : int(1..3)\nsuch that atmost([x], [1], [x])", wrong_category (at 3 29) ∷ [])
    ∷ ("find x : int(1..3)\nsuch that table([x], [[x]])", wrong_category (at 3 24) ∷ [])
    ∷ ("find x : int(1..3)\nsuch that x in int(1..x)", wrong_category (at 3 23) ∷ [])
    ∷ ("find x : int(1..3)\nsuch that forAll i : int(1..x) . true", wrong_category (at 3 29) ∷ [])
    ∷ ("find x : int(1..3)\nsuch that [1; int(1..x)] <lex [x]", wrong_category (at 3 22) ∷ [])
    ∷ [])
unfolding the_language the_readers
decisions = refl

-- a quantified name hides a decision variable
hidden_names : AreRight (
    ("find x : int(1..3)\nsuch that forAll x : int(1..2) . 2 ** x > 1", [])
    ∷ ("find x : int(1..3)\nsuch that forAll x, y : int(1..x) . true", wrong_category (at 3 32) ∷ [])
    ∷ [])
unfolding the_language the_readers
hidden_names = refl

-- where a range may be open
open_ranges : AreRight (
    ("given n : int", [])
    ∷ ("given n : int(1..)", [])
    ∷ ("given n : int - int(3)", [])
    ∷ ("given d : matrix indexed by [int(1..2)] of int(..5)", [])
    ∷ ("given d : matrix indexed by [int(1..)] of int", open_domain (at 2 30) ∷ [])
    ∷ ("letting D be domain int(..)", open_domain (at 2 21) ∷ [])
    ∷ ("letting n : int be 3", open_domain (at 2 13) ∷ [])
    ∷ ("such that forAll i : int . true", open_domain (at 2 22) ∷ [])
    ∷ ("given n : int(1..min([1 | i : int]))", open_domain (at 2 31) ∷ [])
    ∷ [])
unfolding the_language the_readers
open_ranges = refl

-- a letting with a domain has its type, whatever its value
lettings : AreRight (
    ("letting c : bool = 3\nsuch that c", [])
    ∷ ("letting c : bool = z\nsuch that c", unknown_name (at 2 20) (codes "z") ∷ [])
    ∷ [])
unfolding the_language the_readers
lettings = refl

-- one fault at a node, and none at nodes whose parts have no type
nodes : AreRight (
    ("such that 1 + [2] = 3", ill_typed (at 2 11) ∷ [])
    ∷ ("such that !(y)", unknown_name (at 2 13) (codes "y") ∷ [])
    ∷ ("such that forAll i : int(1..[1]) . i", ill_typed (at 2 22) ∷ [])
    ∷ [])
unfolding the_language the_readers
nodes = refl

-- where a decision variable may stand
categories : AreRight (
    ("find x : int(1..3)\nsuch that atleast([x], [1], [x])", wrong_category (at 3 30) ∷ [])
    ∷ ("find x : int(1..3)\nsuch that atmost([x], [x], [1])", wrong_category (at 3 24) ∷ [])
    ∷ ("find x : int(1..3)\nsuch that gcc([x], [1], [x])", [])
    ∷ ("find x : int(1..3)\nsuch that sum([1 | i : int(1..x)]) = 1", wrong_category (at 3 31) ∷ [])
    ∷ ("find x : int(1..3)\nsuch that sum([1 | i : int(1..2); int(1..x)]) = 1", wrong_category (at 3 42) ∷ [])
    ∷ ("find x : int(1..3)\nletting n : int(1..x) be 1", wrong_category (at 3 20) ∷ [])
    ∷ ("find x : int(1..3)\nletting D be domain int(1..x)", wrong_category (at 3 28) ∷ [])
    ∷ ("find x : int(1..3)\ngiven n : int(1..x)", wrong_category (at 3 18) ∷ [])
    ∷ ("find x : int(1..3)\nsuch that x in int(1..2) - int(x)", wrong_category (at 3 32) ∷ [])
    ∷ ("find x : int(1..3)\nminimising x", [])
    ∷ ("find x : int(1..3)\nsuch that x / x = 1, x % x = 1, x * x = 1", [])
    ∷ ("find x : int(1..3)\nfind M : matrix indexed by [int(1..2), int(1..2), int(1..2)] of int(1..3)\nsuch that allDiff(M[x, [1], ..])", ill_typed (at 4 19) ∷ wrong_category (at 4 21) ∷ [])
    ∷ ("find x : int(1..3)\nfind M : matrix indexed by [int(1..2), int(1..2), int(1..2)] of int(1..3)\nsuch that allDiff(M[x, 1, 1, ..])", ill_typed (at 4 19) ∷ [])
    ∷ ("find x : int(1..3)\nfind M : matrix indexed by [int(1..2), int(1..2), int(1..2)] of int(1..3)\nsuch that M[x, [1], 1] = 1", ill_typed (at 4 11) ∷ [])
    ∷ ("find x : int(1..3)\nfind M : matrix indexed by [int(1..2), int(1..2), int(1..2)] of int(1..3)\nsuch that allDiff(M[x, 1])", wrong_category (at 4 21) ∷ [])
    ∷ ("find x : int(1..3)\nfind M : matrix indexed by [int(1..2), int(1..2), int(1..2)] of int(1..3)\nsuch that M[x, x, x] = x", [])
    ∷ ("find x : int(1..3)\nfind M : matrix indexed by [int(1..2), int(1..2), int(1..2)] of int(1..3)\nsuch that allDiff(M[1, .., z])", unknown_name (at 4 28) (codes "z") ∷ [])
    ∷ ("find x : int(1..3)\nsuch that allDiff([[x], [1]][x, ..])", wrong_category (at 3 30) ∷ [])
    ∷ [])
unfolding the_language the_readers
categories = refl

-- where a range may be open
more_open_ranges : AreRight (
    ("find x : int(1..2, 3..)", open_domain (at 2 10) ∷ [])
    ∷ ("find x : int(3, 4..)", open_domain (at 2 10) ∷ [])
    ∷ ("find x : int(..1, 2)", open_domain (at 2 10) ∷ [])
    ∷ ("given n : (int)", [])
    ∷ ("given n : (int(1..)) union int(..0)", [])
    ∷ ("find x : (int)", open_domain (at 2 11) ∷ [])
    ∷ ("such that 1 in int", open_domain (at 2 16) ∷ [])
    ∷ ("such that sum([1; int]) = 1", open_domain (at 2 19) ∷ [])
    ∷ ("such that sum([1 | i : int(1..2); int(1..)]) = 1", open_domain (at 2 35) ∷ [])
    ∷ ("given n : int(1..min([1; int(1..)]))", open_domain (at 2 26) ∷ [])
    ∷ ("letting D be domain int - int(3)", open_domain (at 2 21) ∷ [])
    ∷ [])
unfolding the_language the_readers
more_open_ranges = refl

-- names
more_names : AreRight (
    ("such that forAll i : int(1..2) . 1 in i", ill_typed (at 2 39) ∷ [])
    ∷ ("letting n be z\nsuch that n = 1, -n = m", unknown_name (at 2 14) (codes "z") ∷ unknown_name (at 3 23) (codes "m") ∷ [])
    ∷ ("letting n be 1\nletting D be domain int(1)\ngiven m : int\nfind x : bool\nbranching on [n, D, m, x]", [])
    ∷ ("find x : int(1..3)\nsuch that forAll i, i : int(1..i) . i = x", unknown_name (at 3 32) (codes "i") ∷ [])
    ∷ ("such that sum([i | i : int(1..2), j : int(1..i), k < 1]) = j", unknown_name (at 2 50) (codes "k") ∷ unknown_name (at 2 60) (codes "j") ∷ [])
    ∷ ("letting E be domain E", unknown_name (at 2 21) (codes "E") ∷ [])
    ∷ ("given n, m : int, n : bool", redeclared (at 2 19) (codes "n") ∷ [])
    ∷ ("letting n be 1\nfind n : bool\nsuch that n", redeclared (at 3 6) (codes "n") ∷ [])
    ∷ ("such that [i | i : int(1..2)][i] = 1", unknown_name (at 2 31) (codes "i") ∷ [])
    ∷ [])
unfolding the_language the_readers
more_names = refl

-- In a parameter text only the lettings count: the `given` declares nothing there, and has no fault of its own. No text is read as
-- this one.
--     given g : int(1..z)
--     letting n be g
params_found : params_faults (given (at 1 1) (record { names = ((codes "g"), (at 1 7)) ∷ []; domain = (ranges (at 1 11) (span_and (end_at (number (at 1 15) (pos 1))) (end_at (named (at 1 18) (codes "z"))) no_ranges)) } ∷ []) ∷ letting (at 2 1) (codes "n") (at 2 9) None (named (at 2 14) (codes "g")) ∷ []) ≡ (unknown_name (at 2 14) (codes "g") ∷ [])
unfolding the_language
params_found = refl
