-- Sizes, reaches, spreads and weights, computed by the checker: texts of each form of the language, with its edges.
use Rattle.std.specs.Prelude.{◌≡◌, ℕ, List, [], ◌∷◌, ℤ, pos, negsuc, Option, codes, option_map, Bool, ◌&&◌, ◌==◌, refl}
use Rattle.std.specs.Ordering.{int_eq}
use Prim.Native.String.{String}
use Rattle.ep_base.specs.Runs.{counting}
use Rattle.ep_tree.proofs.Opened.{the_language}
use Rattle.ep_tree.specs.Environments.{Env, has_cells, has_domain, has_value}
use Rattle.ep_tree.specs.Measures.{farthest_reach, met, size_of, weight_of}
use Rattle.ep_tree.specs.Names.{nothing_known, put, put_all}
use Rattle.ep_tree.specs.Reach.{Span, extent, span_of}
use Rattle.ep_tree.specs.Trees.{ExprTree}
use Rattle.ep_tree.specs.Values.{single}
use Rattle.ep_tree.specs.declared.values.Mode.{Mode}
use Rattle.ep_tree.specs.declared.values.Scalar.{Scalar}
use Rattle.ep_tree.specs.declared.values.ValueType.{ValueType}
use Rattle.ep_tree_rows.proofs.Texts.{expr_in, the_readers, wrong_rows}

-- the numbers 1 and 2, of which indices are
abbrev two : List ℤ
two = pos 1 ∷ pos 2 ∷ []

-- decision variables x : int(0..9), y : int(-3..2), z : int(2..4), s : int(1, 5), b : bool, e : int(1..0), and h, a Boolean cell whose
-- one value is false; lists v of int(1..3), g of int(1, 5) and w of bool over int(1..2), and Q of int(1..2) over both; a domain D of 1
-- to 3, and k = 3
abbrev cells : Env
cells = put_all (
    (codes "x", has_cells Scalar.Int [] (pos 0 ∷ pos 1 ∷ pos 2 ∷ pos 3 ∷ pos 4 ∷ pos 5 ∷ pos 6 ∷ pos 7 ∷ pos 8 ∷ pos 9 ∷ []))
    ∷ (codes "y", has_cells Scalar.Int [] (negsuc 2 ∷ negsuc 1 ∷ negsuc 0 ∷ pos 0 ∷ pos 1 ∷ pos 2 ∷ []))
    ∷ (codes "z", has_cells Scalar.Int [] (pos 2 ∷ pos 3 ∷ pos 4 ∷ []))
    ∷ (codes "s", has_cells Scalar.Int [] (pos 1 ∷ pos 5 ∷ []))
    ∷ (codes "b", has_cells Scalar.Bool [] (pos 0 ∷ pos 1 ∷ []))
    ∷ (codes "h", has_cells Scalar.Bool [] (pos 0 ∷ []))
    ∷ (codes "v", has_cells Scalar.Int (two ∷ []) (pos 1 ∷ pos 2 ∷ pos 3 ∷ []))
    ∷ (codes "g", has_cells Scalar.Int (two ∷ []) (pos 1 ∷ pos 5 ∷ []))
    ∷ (codes "w", has_cells Scalar.Bool (two ∷ []) (pos 0 ∷ pos 1 ∷ []))
    ∷ (codes "Q", has_cells Scalar.Int (two ∷ two ∷ []) two)
    ∷ (codes "e", has_cells Scalar.Int [] [])
    ∷ (codes "D", has_domain Scalar.Int [] (pos 1 ∷ pos 2 ∷ pos 3 ∷ []))
    ∷ (codes "k", has_value ValueType.Int (single (pos 3)))
    ∷ []) nothing_known

-- ---- sizes

-- texts, each with its size
abbrev AreSizes : List (String × ℕ) → Type 0
AreSizes rows = wrong_rows (λ m n. m == n) (λ text. option_map (λ e. size_of (met Mode.Relational cells e)) (expr_in text)) 0 rows ≡ []

sizes : AreSizes (
    ("7", 1)
    ∷ ("x", 1)
    ∷ ("(x)", 2)
    ∷ ("x + 1 - y", 4)
    ∷ ("x * y", 3)
    ∷ ("forAll i : int(1..7) . true", 10)
    ∷ ("forAll i : D . true", 4)
    ∷ ("forAll i : int(1..0) . true", 3)
    ∷ ("forAll i : int(1..1/0) . true", 5)
    ∷ ("forAll i, j : int(1..2) . x = i", 21)
    ∷ ("sum i : bool . i", 3)
    ∷ ("[1, 2]", 3)
    ∷ ("[1; int(1..1)]", 4)
    ∷ ("[i | i : int(1..3)]", 7)
    ∷ ("[i | i : int(1..4), i < 3]", 18)
    ∷ ("[j | i : int(1..2), j : int(1..i)]", 13)
    ∷ ("[j | i, j : int(1..2)]", 14)
    ∷ ("x in int(1..3)", 4)
    ∷ ("x in D", 2)
    ∷ ("x in toSet(v)", 3)
    ∷ ("Q[1, ..]", 3)
    ∷ ("v[1]", 3)
    ∷ ("allDiff(v)", 2)
    ∷ ("gcc(v, [1], [x])", 6)
    ∷ ("!b", 2)
    ∷ ("toInt(b)", 2)
    ∷ ("factorial(3)", 2)
    ∷ ("|x|", 2)
    ∷ ("sum(v)", 2)
    ∷ ("atleast(v,[1],[2])", 6)
    ∷ ("table([x],[[1]])", 6)
    ∷ ("v <lex v", 3)
    ∷ ("[i | i : int(1..2); int(1..2)]", 8)
    ∷ ("[i | i : int(1..2), i > 1, i < 1]", 16)
    ∷ ("[i | i : int(1..1/0)]", 6)
    ∷ ("[j | i : int(0..1), j : int(1..1/i)]", 15)
    ∷ ("x in (D)", 2)
    ∷ ("x in int(1..2) union int(3..4)", 6)
    ∷ [])
unfolding the_language the_readers
sizes = refl

-- ---- reaches and spreads

-- the ends of a reach, and the spread
abbrev Reach : Type 0
Reach = ℤ × ℤ × ℕ

abbrev reach : ExprTree → Reach
reach e = let s : Span = span_of (extent Mode.Relational cells e) in (s.reach.low, s.reach.high, s.spread)

abbrev same_reach : Reach → Reach → Bool
same_reach r s = int_eq r.0 s.0 && int_eq r.1 s.1 && r.2 == s.2

-- texts, each with its reach and spread
abbrev AreReaches : List (String × Reach) → Type 0
AreReaches rows = wrong_rows same_reach (λ text. option_map reach (expr_in text)) 0 rows ≡ []

reaches_1 : AreReaches (
    ("7", (pos 7, pos 7, 1))
    ∷ ("1/0", (pos 0, pos 0, 1))
    ∷ ("k", (pos 3, pos 3, 1))
    ∷ ("[1, 2][2]", (pos 2, pos 2, 1))
    ∷ ("x", (pos 0, pos 9, 10))
    ∷ ("s", (pos 1, pos 5, 2))
    ∷ ("e", (pos 0, pos 0, 0))
    ∷ ("b", (pos 0, pos 1, 2))
    ∷ ("(s)", (pos 1, pos 5, 2))
    ∷ ("(b)", (pos 0, pos 1, 2))
    ∷ ("toInt(b)", (pos 0, pos 1, 2))
    ∷ ("x = 3", (pos 0, pos 1, 2))
    ∷ ("x + y - 1", (negsuc 3, pos 10, 15))
    ∷ ("z - s", (negsuc 2, pos 3, 7))
    ∷ ("-s", (negsuc 4, negsuc 0, 2))
    ∷ ("-x", (negsuc 8, pos 0, 10))
    ∷ ("x * y", (negsuc 26, pos 18, 46))
    ∷ ("2 * s", (pos 2, pos 10, 2))
    ∷ ("s * (-1)", (negsuc 4, negsuc 0, 2))
    ∷ ("s * s", (pos 1, pos 25, 25))
    ∷ ("y / z", (negsuc 2, pos 3, 7))
    ∷ ("x / 2", (negsuc 8, pos 9, 19))
    ∷ ("x % z", (pos 0, pos 3, 4))
    ∷ ("x % y", (negsuc 1, pos 2, 5))
    ∷ ("5 % y", (negsuc 1, pos 2, 5))
    ∷ ("y % (-4)", (negsuc 2, pos 0, 4))
    ∷ ("y ** 2", (pos 0, pos 9, 10))
    ∷ ("y ** 3", (negsuc 26, pos 8, 36))
    ∷ ("z ** 2", (pos 4, pos 16, 13))
    ∷ ("y ** 0", (pos 1, pos 1, 1))
    ∷ [])
unfolding the_language the_readers
reaches_1 = refl

reaches_2 : AreReaches (
    ("y ** (-1)", (pos 0, pos 0, 1))
    ∷ ("|y|", (pos 0, pos 3, 4))
    ∷ ("|z - 9|", (pos 5, pos 7, 3))
    ∷ ("min(x, y)", (negsuc 2, pos 2, 6))
    ∷ ("max(x, y)", (pos 0, pos 9, 10))
    ∷ ("min(v)", (pos 1, pos 3, 3))
    ∷ ("max([x, y, z])", (pos 2, pos 9, 8))
    ∷ ("min([x | i : int(1..0)])", (pos 0, pos 0, 1))
    ∷ ("sum(v)", (pos 2, pos 6, 5))
    ∷ ("sum([x, 2, 1/0])", (pos 2, pos 11, 10))
    ∷ ("product(v)", (pos 1, pos 9, 9))
    ∷ ("product([y, z])", (negsuc 11, pos 8, 21))
    ∷ ("and(w)", (pos 0, pos 1, 2))
    ∷ ("sum i : D . i * x", (pos 0, pos 54, 55))
    ∷ ("sum i, j : int(1..2) . v[i]", (pos 4, pos 12, 9))
    ∷ ("sum i : int(1..0) . x", (pos 0, pos 0, 1))
    ∷ ("forAll i : D . x = i", (pos 0, pos 1, 2))
    ∷ ("v[1]", (pos 1, pos 3, 3))
    ∷ ("g[1]", (pos 1, pos 5, 2))
    ∷ ("g[x]", (pos 1, pos 5, 5))
    ∷ ("g[7]", (pos 0, pos 0, 1))
    ∷ ("w[1]", (pos 0, pos 1, 2))
    ∷ ("Q[1][2]", (pos 1, pos 2, 2))
    ∷ ("[x, y][1]", (pos 0, pos 9, 10))
    ∷ ("[x, y][z]", (negsuc 2, pos 9, 13))
    ∷ ("[7, 9][x]", (pos 7, pos 9, 3))
    ∷ ("[s, x; int(4, 6)][6]", (pos 0, pos 9, 10))
    ∷ ("h", (pos 0, pos 1, 1))
    ∷ ("-h", (negsuc 0, pos 0, 1))
    ∷ ("(h)", (pos 0, pos 1, 2))
    ∷ [])
unfolding the_language the_readers
reaches_2 = refl

reaches_3 : AreReaches (
    ("x % 1", (pos 0, pos 0, 1))
    ∷ ("x % e", (pos 0, pos 0, 1))
    ∷ ("y % e", (pos 0, pos 0, 1))
    ∷ ("e % x", (pos 0, pos 8, 9))
    ∷ ("x ** (1/0)", (pos 0, pos 0, 1))
    ∷ ("g[1/0]", (pos 0, pos 0, 1))
    ∷ ("sum(Q[1,..])", (pos 2, pos 4, 3))
    ∷ ("sum(Q[..,1])", (pos 2, pos 4, 3))
    ∷ ("sum(Q[3,..])", (pos 0, pos 0, 1))
    ∷ ("[s; int(1..1)][1]", (pos 1, pos 5, 5))
    ∷ ("[s][1]", (pos 1, pos 5, 5))
    ∷ ("(g)[1]", (pos 1, pos 5, 5))
    ∷ ("Q[..,2][1]", (pos 1, pos 2, 2))
    ∷ ("([[x,y; int(7,8)],[z,s; int(7,8)]][..,8])[2]", (pos 1, pos 5, 5))
    ∷ ("([[x,y],[z,s]; int(7,8)][..,1])[8]", (pos 2, pos 4, 3))
    ∷ ("sum([x, [1; int(1..2)][1]])", (pos 0, pos 9, 10))
    ∷ ("sum(flatten([[x],[1; int(1..2)]]))", (pos 0, pos 9, 10))
    ∷ ("[x,1; int(0..5)][1]", (pos 0, pos 9, 10))
    ∷ ("[x,1; int(1..1/0)][1]", (pos 0, pos 9, 10))
    ∷ ("forAll x : int(1..2) . x = 1", (pos 0, pos 0, 1))
    ∷ ("1 in toSet(v)", (pos 0, pos 1, 2))
    ∷ ("gcc([1],[1],[x])", (pos 0, pos 1, 2))
    ∷ ("sum([x | i : int(1..3), i < 3])", (pos 0, pos 18, 19))
    ∷ ("sum([x | i : int(0..1), j : int(1..1/i)])", (pos 0, pos 9, 10))
    ∷ ("flatten(Q)[1]", (pos 1, pos 2, 2))
    ∷ ("sum i : int(1..1/0) . x", (pos 0, pos 0, 1))
    ∷ ("w[1]", (pos 0, pos 1, 2))
    ∷ ("h /\\ b", (pos 0, pos 1, 2))
    ∷ ("[x, 1/0][s]", (pos 0, pos 9, 10))
    ∷ [])
unfolding the_language the_readers
reaches_3 = refl

-- ---- weights

-- the weight of a text
abbrev weight : Env → String → Option ℕ
weight env text = option_map (λ e. weight_of Mode.Relational (met Mode.Relational env e)) (expr_in text)

-- texts, each with its weight
abbrev AreWeights : Env → List (String × ℕ) → Type 0
AreWeights env rows = wrong_rows (λ m n. m == n) (weight env) 0 rows ≡ []

weights_1 : AreWeights cells (
    ("1 + 2 = 3", 0)
    ∷ ("x", 0)
    ∷ ("(x)", 0)
    ∷ ("toInt(b)", 0)
    ∷ ("[x, y]", 0)
    ∷ ("flatten(Q)", 0)
    ∷ ("v[1]", 0)
    ∷ ("[x + i | i : int(1..2)]", 200)
    ∷ ("x + y - 1", 240)
    ∷ ("2 * s", 2)
    ∷ ("x * y", 60)
    ∷ ("s / z", 6)
    ∷ ("x % z", 30)
    ∷ ("min(x, s)", 20)
    ∷ ("-s", 2)
    ∷ ("s ** 2", 2)
    ∷ ("|y|", 6)
    ∷ ("-(x + y)", 255)
    ∷ ("sum(v)", 30)
    ∷ ("product(v)", 9)
    ∷ ("product([y, z, s])", 60)
    ∷ ("min([x, y, z])", 78)
    ∷ ("max(v)", 9)
    ∷ ("x = 3", 11)
    ∷ ("x < y", 16)
    ∷ ("v <lex [x, 1]", 17)
    ∷ ("x in D", 10)
    ∷ ("x in toSet([y, 1])", 27)
    ∷ [])
unfolding the_language the_readers
weights_1 = refl

weights_2 : AreWeights cells (
    ("x in toSet(v)", 26)
    ∷ ("v[z]", 12)
    ∷ ("Q[1, z]", 12)
    ∷ ("Q[z, x]", 60)
    ∷ ("allDiff(v)", 12)
    ∷ ("allDiff([x, 3])", 22)
    ∷ ("gcc(v, [1, 2], [x, 1])", 29)
    ∷ ("atleast(v, [1], [2])", 13)
    ∷ ("atmost(g, [1], [2])", 17)
    ∷ ("table([x, z], [[1, 2], [3, 4], [5, 6]])", 19)
    ∷ ("!b", 2)
    ∷ ("b /\\ b /\\ true", 4)
    ∷ ("b \\/ b", 3)
    ∷ ("b -> b", 3)
    ∷ ("b <-> true", 3)
    ∷ ("and(w)", 3)
    ∷ ("or([b])", 2)
    ∷ ("forAll i : D . b", 4)
    ∷ ("exists i : int(1..0) . b", 1)
    ∷ ("forAll i, j : int(1..2) . b", 9)
    ∷ ("sum i : D . x", 840)
    ∷ ("sum i : D . i", 0)
    ∷ ("forAll i : int(1..0) . x = 1", 1)
    ∷ ("product([s,s,s])", 60)
    ∷ ("product([1/0,2,x])", 11)
    ∷ ("max([y,x,z])", 90)
    ∷ ("min([x,y,z])", 78)
    ∷ ("atleast(v,[1,1],[2])", 14)
    ∷ [])
unfolding the_language the_readers
weights_2 = refl

weights_3 : AreWeights cells (
    ("atmost(v,[1,1],[2])", 14)
    ∷ ("sum i : D . s", 78)
    ∷ ("sum i, j : int(1..2) . s", 378)
    ∷ ("|s|", 2)
    ∷ ("s = s", 10)
    ∷ ("[s] <lex [s]", 10)
    ∷ ("s in D", 5)
    ∷ ("s in toSet([s])", 10)
    ∷ ("g[z]", 16)
    ∷ ("allDiff(g)", 20)
    ∷ ("table([s],[[1]])", 6)
    ∷ ("table([s,x],[[1,2],[3,4]])", 19)
    ∷ ("gcc(g,[1],[x])", 26)
    ∷ ("exists i : D . b", 4)
    ∷ ("b \\/ b \\/ b", 4)
    ∷ ("or(w)", 3)
    ∷ ("max(v)", 9)
    ∷ ("forAll i : int(1..0) . x = 1", 1)
    ∷ ("(w[1]) * s", 4)
    ∷ ("h * h", 1)
    ∷ ("w[1] * x", 20)
    ∷ ("sum([h])", 2)
    ∷ ("max([s,y,y])", 60)
    ∷ ("x in toSet([[y],[1; int(1..2)]])", 16)
    ∷ ("sum(Q[1,..])", 12)
    ∷ ("exists i, j : int(1..2) . b", 9)
    ∷ [])
unfolding the_language the_readers
weights_3 = refl

-- sixty Boolean cells x
abbrev sixty : Env
sixty = put (codes "x") (has_cells Scalar.Bool (counting (pos 1) 60 ∷ []) (pos 0 ∷ pos 1 ∷ [])) nothing_known

-- a wide sum weighs what binary adders cost
wide_sum : AreWeights sixty (("sum([x[i] * 10000 | i : int(1..60)]) = 600000", 5462530) ∷ [])
unfolding the_language the_readers
wide_sum = refl

-- ---- the greatest absolute value reached

-- texts, each with the greatest absolute value that its parts reach
abbrev AreFarthest : List (String × ℤ) → Type 0
AreFarthest rows = wrong_rows int_eq (λ text. option_map (λ e. farthest_reach Mode.Relational (met Mode.Relational cells e)) (expr_in text)) 0 rows ≡ []

farthest : AreFarthest (
    ("x + y", pos 11)
    ∷ ("x * y = 6", pos 27)
    ∷ ("x ** 3 = 8", pos 729)
    ∷ ("2 ** 10", pos 1024)
    ∷ ("|-7|", pos 7)
    ∷ ("product([y, y, 0])", pos 9)
    ∷ ("[x * x | i : int(1..1)] <lex [1]", pos 81)
    ∷ ("1/0", pos 1)
    ∷ ("product([64,64,0])", pos 4096)
    ∷ ("product([64,64,0,x])", pos 4096)
    ∷ ("forAll i : int(1..9) . i * i < 100", pos 100)
    ∷ ("[i | i : int(1..2), i * 7 > 100] <lex v", pos 100)
    ∷ ("x in int(1..77)", pos 77)
    ∷ ("sum([1 | i : int(1..50)]) > x", pos 50)
    ∷ [])
unfolding the_language the_readers
farthest = refl
