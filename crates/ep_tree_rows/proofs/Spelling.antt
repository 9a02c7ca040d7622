-- Texts and the trees that their tokens spell, and trees that no tokens spell.
use Rattle.std.specs.Prelude.{◌≡◌, true, false, List, [], ◌∷◌, pos, Some, None, codes, refl}
use Prim.Native.String.{String}
use Rattle.ep_base.specs.declared.operators.CompareOp.{CompareOp}
use Rattle.ep_base.specs.declared.operators.LexOp.{LexOp}
use Rattle.ep_base.specs.declared.operators.Sense.{Sense}
use Rattle.ep_base.specs.declared.places.Place.{Place}
use Rattle.ep_tree.proofs.Opened.{the_language}
use Rattle.ep_tree.specs.Phrases.{Lexeme}
use Rattle.ep_tree.specs.Reading.{MOST_HEIGHT, ReadsWhole}
use Rattle.ep_tree.specs.Spelling.{Spells, SpellsDomain, domains, implications}
use Rattle.ep_tree.specs.StatementSpelling.{SpellsModel, SpellsParams}
use Rattle.ep_tree.specs.Statements.{Group, TextTree, branching, constraints, decided, domain_letting, given, heuristic, letting, objective, requirements}
use Rattle.ep_tree.specs.Trees.{DomainTree, ExprTree, absolute, all_of, any_of, binary, bool, chain, compare, comprehension, domain_and, end_at, every_and, folded, gcc, generator_and, group, group_domain, in_domain, in_set, index_and, int, lex, literal, matrix_domain, minus, named, named_domain, negation, no_domains, no_end, no_generators, no_indices, no_ranges, no_terms, no_trees, number, one_and, over, quantified, ranges, read, set_domain, span_and, table, term_and, to_int, tree_and, truth, unstated}
use Rattle.ep_tree.specs.declared.syntax.BinaryOp.{BinaryOp}
use Rattle.ep_tree.specs.declared.syntax.FoldOp.{FoldOp}
use Rattle.ep_tree.specs.declared.syntax.QuantOp.{QuantOp}
use Rattle.ep_tree.specs.declared.syntax.SetOp.{SetOp}
use Rattle.ep_tree_rows.proofs.Spelled.{AreTold, domains_spelled, exprs_spelled, models_read, of_line, params_read}
use Rattle.ep_tree_rows.proofs.Texts.{at, model_tokens, the_readers}

-- ---- trees that are spelled

abbrev expressions : List (String × ExprTree)
expressions =
    ("7", number (at 1 1) (pos 7))
    ∷ ("true -> false -> false", binary (at 1 1) BinaryOp.Implies (binary (at 1 1) BinaryOp.Implies (truth (at 1 1) true) (truth (at 1 9) false)) (truth (at 1 18) false))
    ∷ ("a + b - c", chain (at 1 1) (term_and true (named (at 1 1) (codes "a")) (term_and true (named (at 1 5) (codes "b")) (term_and false (named (at 1 9) (codes "c")) no_terms))))
    ∷ ("-x ** 2", binary (at 1 1) BinaryOp.Pow (minus (at 1 1) (named (at 1 2) (codes "x"))) (number (at 1 7) (pos 2)))
    ∷ ("a \\/ b /\\ c", any_of (at 1 1) (tree_and (named (at 1 1) (codes "a")) (tree_and (all_of (at 1 6) (tree_and (named (at 1 6) (codes "b")) (tree_and (named (at 1 11) (codes "c")) no_trees))) no_trees)))
    ∷ ("!a /\\ b /\\ c", all_of (at 1 1) (tree_and (negation (at 1 1) (named (at 1 2) (codes "a"))) (tree_and (named (at 1 7) (codes "b")) (tree_and (named (at 1 12) (codes "c")) no_trees))))
    ∷ ("x <= y + 1", compare (at 1 1) CompareOp.AtMost (named (at 1 1) (codes "x")) (chain (at 1 6) (term_and true (named (at 1 6) (codes "y")) (term_and true (number (at 1 10) (pos 1)) no_terms))))
    ∷ ("a <lex b", lex (at 1 1) LexOp.Less (named (at 1 1) (codes "a")) (named (at 1 8) (codes "b")))
    ∷ ("x in int(1..2, 5)", in_domain (at 1 1) (named (at 1 1) (codes "x")) (ranges (at 1 6) (span_and (end_at (number (at 1 10) (pos 1))) (end_at (number (at 1 13) (pos 2))) (one_and (number (at 1 16) (pos 5)) no_ranges))))
    ∷ ("x in D - E", in_domain (at 1 1) (named (at 1 1) (codes "x")) (set_domain (at 1 6) SetOp.Minus (named_domain (at 1 6) (codes "D")) (named_domain (at 1 10) (codes "E"))))
    ∷ ("x in toSet([a])", in_set (at 1 1) (named (at 1 1) (codes "x")) (literal (at 1 12) (tree_and (named (at 1 13) (codes "a")) no_trees) unstated))
    ∷ ("forAll i, j : int(1..n) . i = j", quantified (at 1 1) QuantOp.ForAll (codes "i" ∷ codes "j" ∷ []) (ranges (at 1 15) (span_and (end_at (number (at 1 19) (pos 1))) (end_at (named (at 1 22) (codes "n"))) no_ranges)) (compare (at 1 27) CompareOp.Equal (named (at 1 27) (codes "i")) (named (at 1 31) (codes "j"))))
    ∷ ("(sum i : D . i) = 5", compare (at 1 1) CompareOp.Equal (group (at 1 1) (quantified (at 1 2) QuantOp.Sum (codes "i" ∷ []) (named_domain (at 1 10) (codes "D")) (named (at 1 14) (codes "i")))) (number (at 1 19) (pos 5)))
    ∷ ("a /\\ forAll i : D . b /\\ c", all_of (at 1 1) (tree_and (named (at 1 1) (codes "a")) (tree_and (quantified (at 1 6) QuantOp.ForAll (codes "i" ∷ []) (named_domain (at 1 17) (codes "D")) (all_of (at 1 21) (tree_and (named (at 1 21) (codes "b")) (tree_and (named (at 1 26) (codes "c")) no_trees)))) no_trees)))
    ∷ ("M[i][j]", read (at 1 1) (named (at 1 1) (codes "M")) (index_and (named (at 1 3) (codes "i")) (index_and (named (at 1 6) (codes "j")) no_indices)))
    ∷ ("M[i, j]", read (at 1 1) (named (at 1 1) (codes "M")) (index_and (named (at 1 3) (codes "i")) (index_and (named (at 1 6) (codes "j")) no_indices)))
    ∷ ("M[i][..][j]", read (at 1 1) (read (at 1 1) (named (at 1 1) (codes "M")) (index_and (named (at 1 3) (codes "i")) (every_and no_indices))) (index_and (named (at 1 10) (codes "j")) no_indices))
    ∷ ("M[..][i][j]", read (at 1 1) (read (at 1 1) (named (at 1 1) (codes "M")) (every_and no_indices)) (index_and (named (at 1 7) (codes "i")) (index_and (named (at 1 10) (codes "j")) no_indices)))
    ∷ ("[]", literal (at 1 1) no_trees unstated)
    ∷ ("[1, 2; int(0, 3)]", literal (at 1 1) (tree_and (number (at 1 2) (pos 1)) (tree_and (number (at 1 5) (pos 2)) no_trees)) (over (ranges (at 1 8) (one_and (number (at 1 12) (pos 0)) (one_and (number (at 1 15) (pos 3)) no_ranges)))))
    ∷ ("[i | i : D, j, k : E, a, b; int(1..2)]", comprehension (at 1 1) (named (at 1 2) (codes "i")) (generator_and (codes "i" ∷ []) (named_domain (at 1 10) (codes "D")) (generator_and (codes "j" ∷ codes "k" ∷ []) (named_domain (at 1 20) (codes "E")) no_generators)) (tree_and (named (at 1 23) (codes "a")) (tree_and (named (at 1 26) (codes "b")) no_trees)) (over (ranges (at 1 29) (span_and (end_at (number (at 1 33) (pos 1))) (end_at (number (at 1 36) (pos 2))) no_ranges))))
    ∷ ("|a| * 2", binary (at 1 1) BinaryOp.Mul (absolute (at 1 1) (named (at 1 2) (codes "a"))) (number (at 1 7) (pos 2)))
    ∷ ("min(a, b)", binary (at 1 1) BinaryOp.Min (named (at 1 5) (codes "a")) (named (at 1 8) (codes "b")))
    ∷ ("min([a])", folded (at 1 1) FoldOp.Min (literal (at 1 5) (tree_and (named (at 1 6) (codes "a")) no_trees) unstated))
    ∷ ("gcc(x, [1], y)", gcc (at 1 1) (named (at 1 5) (codes "x")) (literal (at 1 8) (tree_and (number (at 1 9) (pos 1)) no_trees) unstated) (named (at 1 13) (codes "y")))
    ∷ ("table(x, y)", table (at 1 1) (named (at 1 7) (codes "x")) (named (at 1 10) (codes "y")))
    ∷ ("toInt(a)", to_int (at 1 1) (named (at 1 7) (codes "a")))
    ∷ ("a * b / c % d", binary (at 1 1) BinaryOp.Mod (binary (at 1 1) BinaryOp.Div (binary (at 1 1) BinaryOp.Mul (named (at 1 1) (codes "a")) (named (at 1 5) (codes "b"))) (named (at 1 9) (codes "c"))) (named (at 1 13) (codes "d")))
    ∷ ("x in int(..)", in_domain (at 1 1) (named (at 1 1) (codes "x")) (ranges (at 1 6) (span_and no_end no_end no_ranges)))
    ∷ ("x in int(..5, 3..)", in_domain (at 1 1) (named (at 1 1) (codes "x")) (ranges (at 1 6) (span_and no_end (end_at (number (at 1 12) (pos 5))) (span_and (end_at (number (at 1 15) (pos 3))) no_end no_ranges))))
    ∷ []

expressions_told : AreTold of_line (Spells implications) expressions
unfolding the_language the_readers
expressions_told = exprs_spelled expressions refl

abbrev domain_rows : List (String × DomainTree)
domain_rows =
    ("matrix indexed by [int(1..2), bool] of D", matrix_domain (at 1 1) (domain_and (ranges (at 1 20) (span_and (end_at (number (at 1 24) (pos 1))) (end_at (number (at 1 27) (pos 2))) no_ranges)) (domain_and (bool (at 1 31)) no_domains)) (named_domain (at 1 40) (codes "D")))
    ∷ ("matrix indexed by [A] of matrix indexed by [B, C] of (D)", matrix_domain (at 1 1) (domain_and (named_domain (at 1 20) (codes "A")) (domain_and (named_domain (at 1 45) (codes "B")) (domain_and (named_domain (at 1 48) (codes "C")) no_domains))) (group_domain (at 1 54) (named_domain (at 1 55) (codes "D"))))
    ∷ ("int", int (at 1 1))
    ∷ ("bool union (int(1) intersect D) - E", set_domain (at 1 1) SetOp.Minus (set_domain (at 1 1) SetOp.Union (bool (at 1 1)) (group_domain (at 1 12) (set_domain (at 1 13) SetOp.Intersect (ranges (at 1 13) (one_and (number (at 1 17) (pos 1)) no_ranges)) (named_domain (at 1 30) (codes "D"))))) (named_domain (at 1 35) (codes "E")))
    ∷ []

domain_rows_told : AreTold of_line (SpellsDomain domains) domain_rows
unfolding the_language the_readers
domain_rows_told = domains_spelled domain_rows refl

-- whole models
abbrev models : List (String × TextTree)
models =
    ("language ESSENCE' 1.0\nfind x : int(1..3)\nsuch that x > 2", (decided (at 2 1) (record { names = ((codes "x", (at 2 6)) ∷ []); domain = (ranges (at 2 10) (span_and (end_at (number (at 2 14) (pos 1))) (end_at (number (at 2 17) (pos 3))) no_ranges)) } ∷ [])) ∷ (constraints (at 3 1) ((compare (at 3 11) CompareOp.Greater (named (at 3 11) (codes "x")) (number (at 3 15) (pos 2))) ∷ [])) ∷ [])
    ∷ ("language ESSENCE' 1.0", [])
    ∷ ("language ESSENCE' 01 . 00\ngiven n, k : int(1..), m : matrix indexed by [int(1..n)] of bool\nletting D be domain int(1..n)\nletting c : int(0..9) = n + 1\nwhere n > 1, m[1],\nfind x, y : D\nminimizing x\nbranching on [x, y]\nheuristic any\nsuch that\nsuch that x = y,\n    x < 3", (given (at 2 1) (record { names = ((codes "n", (at 2 7)) ∷ (codes "k", (at 2 10)) ∷ []); domain = (ranges (at 2 14) (span_and (end_at (number (at 2 18) (pos 1))) no_end no_ranges)) } ∷ record { names = ((codes "m", (at 2 24)) ∷ []); domain = (matrix_domain (at 2 28) (domain_and (ranges (at 2 47) (span_and (end_at (number (at 2 51) (pos 1))) (end_at (named (at 2 54) (codes "n"))) no_ranges)) no_domains) (bool (at 2 61))) } ∷ [])) ∷ (domain_letting (at 3 1) (codes "D") (at 3 9) (ranges (at 3 21) (span_and (end_at (number (at 3 25) (pos 1))) (end_at (named (at 3 28) (codes "n"))) no_ranges))) ∷ (letting (at 4 1) (codes "c") (at 4 9) (Some (ranges (at 4 13) (span_and (end_at (number (at 4 17) (pos 0))) (end_at (number (at 4 20) (pos 9))) no_ranges))) (chain (at 4 25) (term_and true (named (at 4 25) (codes "n")) (term_and true (number (at 4 29) (pos 1)) no_terms)))) ∷ (requirements (at 5 1) ((compare (at 5 7) CompareOp.Greater (named (at 5 7) (codes "n")) (number (at 5 11) (pos 1))) ∷ (read (at 5 14) (named (at 5 14) (codes "m")) (index_and (number (at 5 16) (pos 1)) no_indices)) ∷ [])) ∷ (decided (at 6 1) (record { names = ((codes "x", (at 6 6)) ∷ (codes "y", (at 6 9)) ∷ []); domain = (named_domain (at 6 13) (codes "D")) } ∷ [])) ∷ (objective (at 7 1) Sense.Minimising (named (at 7 12) (codes "x"))) ∷ (branching (at 8 1) ((codes "x", (at 8 15)) ∷ (codes "y", (at 8 18)) ∷ [])) ∷ (heuristic (at 9 1) (codes "any")) ∷ (constraints (at 10 1) []) ∷ (constraints (at 11 1) ((compare (at 11 11) CompareOp.Equal (named (at 11 11) (codes "x")) (named (at 11 15) (codes "y"))) ∷ (compare (at 12 5) CompareOp.Less (named (at 12 5) (codes "x")) (number (at 12 9) (pos 3))) ∷ [])) ∷ [])
    ∷ []

models_told : AreTold of_line (λ tree ls. ReadsWhole SpellsModel MOST_HEIGHT ls tree) models
unfolding the_language the_readers
models_told = models_read of_line models refl

-- single statements behind the language line
abbrev statements : List (String × TextTree)
statements =
    ("find x : int , y , z : bool", decided (at 2 1) (record { names = (codes "x", at 2 6) ∷ []; domain = int (at 2 10) } ∷ record { names = (codes "y", at 2 16) ∷ (codes "z", at 2 20) ∷ []; domain = bool (at 2 24) } ∷ []) ∷ [])
    ∷ ("given x : int , y , z : bool", given (at 2 1) (record { names = (codes "x", at 2 7) ∷ []; domain = int (at 2 11) } ∷ record { names = (codes "y", at 2 17) ∷ (codes "z", at 2 21) ∷ []; domain = bool (at 2 25) } ∷ []) ∷ [])
    ∷ ("minimising x", objective (at 2 1) Sense.Minimising (named (at 2 12) (codes "x")) ∷ [])
    ∷ ("minimizing x", objective (at 2 1) Sense.Minimising (named (at 2 12) (codes "x")) ∷ [])
    ∷ ("maximising x", objective (at 2 1) Sense.Maximising (named (at 2 12) (codes "x")) ∷ [])
    ∷ ("maximizing x", objective (at 2 1) Sense.Maximising (named (at 2 12) (codes "x")) ∷ [])
    ∷ ("letting D = domain int", domain_letting (at 2 1) (codes "D") (at 2 9) (int (at 2 20)) ∷ [])
    ∷ ("letting D be domain bool - E", domain_letting (at 2 1) (codes "D") (at 2 9) (set_domain (at 2 21) SetOp.Minus (bool (at 2 21)) (named_domain (at 2 28) (codes "E"))) ∷ [])
    ∷ ("letting c be 1", letting (at 2 1) (codes "c") (at 2 9) None (number (at 2 14) (pos 1)) ∷ [])
    ∷ ("letting c : int = 1", letting (at 2 1) (codes "c") (at 2 9) (Some (int (at 2 13))) (number (at 2 19) (pos 1)) ∷ [])
    ∷ ("branching on [ ]", branching (at 2 1) [] ∷ [])
    ∷ ("branching on [ x , y ]", branching (at 2 1) ((codes "x", at 2 16) ∷ (codes "y", at 2 20) ∷ []) ∷ [])
    ∷ ("where", requirements (at 2 1) [] ∷ [])
    ∷ ("where true , b", requirements (at 2 1) (truth (at 2 7) true ∷ named (at 2 14) (codes "b") ∷ []) ∷ [])
    ∷ ("such that a , b ,", constraints (at 2 1) (named (at 2 11) (codes "a") ∷ named (at 2 15) (codes "b") ∷ []) ∷ [])
    ∷ ("such that", constraints (at 2 1) [] ∷ [])
    ∷ ("heuristic static", heuristic (at 2 1) (codes "static") ∷ [])
    ∷ []

statements_told : AreTold model_tokens (λ tree ls. ReadsWhole SpellsModel MOST_HEIGHT ls tree) statements
unfolding the_language the_readers
statements_told = models_read model_tokens statements refl

-- parameter texts
abbrev params : List (String × TextTree)
params =
    ("letting n be 3\nletting m = [true]", (letting (at 1 1) (codes "n") (at 1 9) None (number (at 1 14) (pos 3))) ∷ (letting (at 2 1) (codes "m") (at 2 9) None (literal (at 2 13) (tree_and (truth (at 2 14) true) no_trees) unstated)) ∷ [])
    ∷ ("language ESSENCE' 1.0\nletting n = 3", (letting (at 2 1) (codes "n") (at 2 9) None (number (at 2 13) (pos 3))) ∷ [])
    ∷ ("", [])
    ∷ []

params_told : AreTold of_line (λ tree ls. ReadsWhole SpellsParams MOST_HEIGHT ls tree) params
unfolding the_language the_readers
params_told = params_read params refl

-- ---- trees that no tokens spell

-- comparisons make no chain: `1 < 2 < 3` is no comparison of a comparison
comparison_of_comparison : (a b c : ExprTree) (tokens : List Lexeme)
    → Spells implications (compare (at 1 1) CompareOp.Less (compare (at 1 1) CompareOp.Less a b) c) tokens → ⊥
unfolding the_language
comparison_of_comparison a b c tokens h = let false_rank : false ≡ true = h.1.1.3.1.0 in cc

-- no operator follows a quantifier without brackets: `forAll i : D . a -> b` is no implication of a quantifier
quantifier_before_arrow : (d : DomainTree) (a b : ExprTree) (tokens : List Lexeme)
    → Spells implications (binary (at 1 1) BinaryOp.Implies (quantified (at 1 1) QuantOp.ForAll (codes "i" ∷ []) d a) b) tokens → ⊥
unfolding the_language
quantifier_before_arrow d a b tokens h = let not_closed : false ≡ true = h.1.1.3.0 in cc

-- bracket groups are joined: `M[i][j]` is no read of a read
read_of_read : (m i j : ExprTree) (tokens : List Lexeme)
    → Spells implications (read (at 1 1) (read (at 1 1) m (index_and i no_indices)) (index_and j no_indices)) tokens → ⊥
unfolding the_language
read_of_read m i j tokens h = let not_own : false ≡ true = h.1.1.3.0 in cc

-- a text has one objective at most
two_objectives : (a b : ExprTree) (tokens : List Lexeme)
    → SpellsModel (objective (at 2 1) Sense.Minimising a ∷ objective (at 3 1) Sense.Maximising b ∷ []) tokens → ⊥
unfolding the_language
two_objectives a b tokens h = let too_many : false ≡ true = h.0 in cc

-- what binds looser is no part of what binds tighter: `a \/ b -> c` is no disjunction with an implication
implication_in_disjunction : (a b c : ExprTree) (tokens : List Lexeme)
    → Spells implications (any_of (at 1 1) (tree_and a (tree_and (binary (at 1 6) BinaryOp.Implies b c) no_trees))) tokens → ⊥
unfolding the_language
implication_in_disjunction a b c tokens h = let false_rank : false ≡ true = h.1.1.1.4.4.3.1.0 in cc

-- `a /\ b \/ c` is no conjunction with a disjunction
disjunction_in_conjunction : (a b c : ExprTree) (tokens : List Lexeme)
    → Spells implications (all_of (at 1 1) (tree_and a (tree_and (any_of (at 1 6) (tree_and b (tree_and c no_trees))) no_trees))) tokens → ⊥
unfolding the_language
disjunction_in_conjunction a b c tokens h = let false_rank : false ≡ true = h.1.1.1.4.4.3.1.0 in cc

-- `a < b /\ c` is no comparison with a conjunction
conjunction_in_comparison : (a b c : ExprTree) (tokens : List Lexeme)
    → Spells implications (compare (at 1 1) CompareOp.Less a (all_of (at 1 5) (tree_and b (tree_and c no_trees)))) tokens → ⊥
unfolding the_language
conjunction_in_comparison a b c tokens h = let false_rank : false ≡ true = h.1.1.4.4.0 in cc

-- `a + b < c` is no sum with a comparison
comparison_in_sum : (a b c : ExprTree) (tokens : List Lexeme)
    → Spells implications (chain (at 1 1) (term_and true a (term_and true (compare (at 1 5) CompareOp.Less b c) no_terms))) tokens → ⊥
unfolding the_language
comparison_in_sum a b c tokens h = let false_rank : false ≡ true = h.1.1.1.4.4.3.1.0 in cc

-- `a * b + c` is no product with a sum
sum_in_product : (a b c : ExprTree) (tokens : List Lexeme)
    → Spells implications (binary (at 1 1) BinaryOp.Mul a (chain (at 1 5) (term_and true b (term_and true c no_terms)))) tokens → ⊥
unfolding the_language
sum_in_product a b c tokens h = let false_rank : false ≡ true = h.1.1.4.4.0 in cc

-- products nest to the left: `a * b * c` is no product with a product behind its `*`
product_behind : (a b c : ExprTree) (tokens : List Lexeme)
    → Spells implications (binary (at 1 1) BinaryOp.Mul a (binary (at 1 5) BinaryOp.Mul b c)) tokens → ⊥
unfolding the_language
product_behind a b c tokens h = let false_rank : false ≡ true = h.1.1.4.4.0 in cc

-- `a * b ** c` is no power of a product
product_in_power : (a b c : ExprTree) (tokens : List Lexeme)
    → Spells implications (binary (at 1 1) BinaryOp.Pow (binary (at 1 1) BinaryOp.Mul a b) c) tokens → ⊥
unfolding the_language
product_in_power a b c tokens h = let false_rank : false ≡ true = h.1.1.3.1.0 in cc

-- `-a ** b` is no minus of a power
power_in_minus : (a b : ExprTree) (tokens : List Lexeme)
    → Spells implications (minus (at 1 1) (binary (at 1 2) BinaryOp.Pow a b)) tokens → ⊥
unfolding the_language
power_in_minus a b tokens h = let false_rank : false ≡ true = h.1.1.4.0 in cc

-- `-M[i]` is no read of a minus
minus_in_read : (m i : ExprTree) (tokens : List Lexeme)
    → Spells implications (read (at 1 1) (minus (at 1 1) m) (index_and i no_indices)) tokens → ⊥
unfolding the_language
minus_in_read m i tokens h = let false_rank : false ≡ true = h.1.1.3.1.0 in cc

-- a parameter text has lettings alone
given_in_params : (p : Place) (groups : List Group) (text : TextTree) (tokens : List Lexeme) → SpellsParams (given p groups ∷ text) tokens → ⊥
unfolding the_language
given_in_params p groups text tokens h = let no_letting : false ≡ true = h.0 in cc
