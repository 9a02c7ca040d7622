-- Printed texts, computed by the checker.
use Rattle.std.specs.Prelude.{◌≡◌, ℕ, pos, negsuc, true, false, List, [], ◌∷◌, Some, codes, refl}
use Rattle.std.specs.Fmt.{digits}
use Rattle.ep_base.specs.declared.operators.CompareOp.{CompareOp}
use Rattle.ep_base.specs.declared.operators.Limit.{Limit}
use Rattle.ep_base.specs.declared.operators.Sense.{Sense}
use Rattle.ep_base.specs.declared.places.Place.{Place}
use Rattle.ep_tree.specs.Solutions.{NamedValue}
use Rattle.ep_tree.specs.Spelling.{binary_word, compare_word, fold_word, is_called, quantifier_word, set_word, sign_word, truth_word}
use Rattle.ep_tree.specs.Statements.{branching, constraints, decided, domain_letting, given, heuristic, letting, objective, requirements}
use Rattle.ep_tree.specs.Trees.{ExprTree, all_of, at_most, binary, bool, chain, compare, comprehension, domain_and, end_at, every_and, generator_and, group, in_set, index_and, int, literal, matrix_domain, named, named_domain, negation, no_domains, no_end, no_generators, no_indices, no_ranges, no_terms, no_trees, number, one_and, over, quantified, ranges, read, set_domain, span_and, term_and, tree_and, truth, unstated}
use Rattle.ep_tree.specs.Types.{scalar_of}
use Rattle.ep_tree.specs.Values.{matrix, no_values, single, value_and}
use Rattle.ep_tree.specs.declared.syntax.BinaryOp.{BinaryOp}
use Rattle.ep_tree.specs.declared.syntax.QuantOp.{QuantOp}
use Rattle.ep_tree.specs.declared.syntax.SetOp.{SetOp}
use Rattle.ep_tree.specs.declared.values.Scalar.{Scalar}
use Rattle.ep_tree.specs.declared.values.ValueType.{ValueType}
use Rattle.ep_print.specs.Answers.{answer_text, letting_text, no_solution, optimum, solution, unknown, unknown_with}
use Rattle.ep_print.specs.Joining.{with_between}
use Rattle.ep_print.specs.Listings.{complete, end_text, listing_text, solution_text, solution_texts, spent, stopped}
use Rattle.ep_print.specs.Models.{model_text, statement_text}
use Rattle.ep_print.specs.Refusals.{file_word, limit_word, place_text, refusal_text, refusal_words}
use Rattle.ep_print.specs.Values.{index_domain_text, run_text, runs_of, scalar_text, scalar_value_text, stretch_from, value_text}
use Rattle.ep_print.specs.Words.{binary_words, expr_words, group_words, sense_word, stated_words, statement_words}
use Rattle.ep_print.specs.declared.refusals.Refusal.{Refusal}
use Rattle.ep_print.specs.declared.refusals.TextFile.{TextFile}

-- a vector that says `unfolding the_texts` computes with all of these
unfoldable the_texts : ℕ
unfolding digits answer_text letting_text listing_text solution_texts solution_text end_text with_between model_text statement_text file_word limit_word place_text refusal_words index_domain_text run_text runs_of scalar_text scalar_value_text stretch_from value_text binary_words expr_words group_words sense_word stated_words statement_words scalar_of binary_word compare_word fold_word is_called quantifier_word set_word sign_word truth_word
the_texts = 0

abbrev p : Place
p = record { line = 3; column = 14 }

-- ---- values

value-1 : value_text ValueType.Int (single (negsuc 6)) ≡ codes "-7"
unfolding the_texts
value-1 = refl

value-2 : value_text ValueType.Bool (single (pos 1)) ≡ codes "true"
unfolding the_texts
value-2 = refl

value-3 : value_text ValueType.Empty (matrix [] no_values) ≡ codes "[; int(1..0)]"
unfolding the_texts
value-3 = refl

-- rows of their own indices, with runs of one and of more
value-4 : value_text (ValueType.Matrix 2 Scalar.Int)
    (matrix (pos 1 ∷ pos 3 ∷ []) (value_and (matrix (negsuc 0 ∷ pos 0 ∷ pos 5 ∷ []) (value_and (single (pos 4)) (value_and (single (pos 5)) (value_and (single (pos 6)) no_values)))) (value_and (matrix [] no_values) no_values)))
    ≡ codes "[[4, 5, 6; int(-1..0, 5)], [; int(1..0)]; int(1, 3)]"
unfolding the_texts
value-4 = refl

value-5 : value_text (ValueType.Matrix 1 Scalar.Bool) (matrix (pos 0 ∷ pos 1 ∷ []) (value_and (single (pos 0)) (value_and (single (pos 1)) no_values))) ≡ codes "[false, true; int(0..1)]"
unfolding the_texts
value-5 = refl

-- the runs of a list that doesn't ascend
indices-1 : index_domain_text (pos 2 ∷ pos 1 ∷ pos 2 ∷ pos 3 ∷ pos 3 ∷ []) ≡ codes "int(2, 1..3, 3)"
unfolding the_texts
indices-1 = refl

-- ---- answers

abbrev x_is_two : List NamedValue
x_is_two = record { name = codes "x"; ty = ValueType.Int; value = single (pos 2) } ∷ []

answer-1 : answer_text (solution x_is_two) ≡ codes "language ESSENCE' 1.0\n$ solution\nletting x be 2\n"
unfolding the_texts
answer-1 = refl

answer-2 : answer_text (optimum (negsuc 4) x_is_two) ≡ codes "language ESSENCE' 1.0\n$ optimum -5\nletting x be 2\n"
unfolding the_texts
answer-2 = refl

answer-3 : answer_text no_solution ≡ codes "language ESSENCE' 1.0\n$ no solution\n"
unfolding the_texts
answer-3 = refl

answer-4 : answer_text (unknown 10) ≡ codes "language ESSENCE' 1.0\n$ unknown 10 conflicts\n"
unfolding the_texts
answer-4 = refl

answer-5 : answer_text (unknown_with 10 (pos 7) x_is_two)
    ≡ codes "language ESSENCE' 1.0\n$ unknown 10 conflicts\n$ incumbent 7\nletting x be 2\n"
unfolding the_texts
answer-5 = refl

-- ---- lists of solutions

abbrev y_is : ℕ → List NamedValue
y_is n = record { name = codes "y"; ty = ValueType.Int; value = single (pos n) } ∷ []

listing-1 : listing_text (record { found = y_is 2 ∷ x_is_two ∷ []; ending = complete })
    ≡ codes "language ESSENCE' 1.0\n$ solution 1\nletting y be 2\n$ solution 2\nletting x be 2\n$ complete\n"
unfolding the_texts
listing-1 = refl

listing-2 : listing_text (record { found = []; ending = complete }) ≡ codes "language ESSENCE' 1.0\n$ no solution\n"
unfolding the_texts
listing-2 = refl

listing-3 : listing_text (record { found = y_is 3 ∷ []; ending = stopped }) ≡ codes "language ESSENCE' 1.0\n$ solution 1\nletting y be 3\n"
unfolding the_texts
listing-3 = refl

listing-4 : listing_text (record { found = []; ending = spent 12 }) ≡ codes "language ESSENCE' 1.0\n$ unknown 12 conflicts\n"
unfolding the_texts
listing-4 = refl

-- a solution without a decision variable
listing-5 : listing_text (record { found = [] ∷ []; ending = spent 7 }) ≡ codes "language ESSENCE' 1.0\n$ solution 1\n$ unknown 7 conflicts\n"
unfolding the_texts
listing-5 = refl

-- ---- statements

abbrev x : ExprTree
x = named p (codes "x")

abbrev one : ExprTree
one = number p (pos 1)

statement-1 : statement_text (decided p (record { names = (codes "x", p) ∷ (codes "y", p) ∷ []; domain = ranges p (span_and (end_at one) (end_at (number p (pos 9))) (one_and x no_ranges)) } ∷ record { names = (codes "b", p) ∷ []; domain = bool p } ∷ []))
    ≡ codes "find x , y : int ( 1 .. 9 , x ) , b : bool\n"
unfolding the_texts
statement-1 = refl

statement-2 : statement_text (given p (record { names = (codes "m", p) ∷ []; domain = matrix_domain p (domain_and (int p) (domain_and (named_domain p (codes "D")) no_domains)) (ranges p (span_and (end_at one) no_end no_ranges)) } ∷ []))
    ≡ codes "given m : matrix indexed by [ int , D ] of int ( 1 .. )\n"
unfolding the_texts
statement-2 = refl

statement-3 : statement_text (letting p (codes "c") p (Some (set_domain p SetOp.Minus (bool p) (int p))) (chain p (term_and true x (term_and false one no_terms))))
    ≡ codes "letting c : bool - int be x - 1\n"
unfolding the_texts
statement-3 = refl

statement-4 : statement_text (domain_letting p (codes "D") p (int p)) ≡ codes "letting D be domain int\n"
unfolding the_texts
statement-4 = refl

statement-5 : statement_text (constraints p (quantified p QuantOp.ForAll (codes "i" ∷ codes "j" ∷ []) (named_domain p (codes "D")) (compare p CompareOp.NotEqual (read p x (index_and one (every_and no_indices))) (binary p BinaryOp.Min x one)) ∷ negation p (group p (truth p false)) ∷ []))
    ≡ codes "such that forAll i , j : D . x [ 1 , .. ] != min ( x , 1 ) , ! ( false )\n"
unfolding the_texts
statement-5 = refl

statement-6 : statement_text (requirements p (in_set p x (literal p (tree_and one (tree_and x no_trees)) (over (int p))) ∷ []))
    ≡ codes "where x in toSet ( [ 1 , x ; int ] )\n"
unfolding the_texts
statement-6 = refl

statement-7 : statement_text (objective p Sense.Maximising (comprehension p x (generator_and (codes "i" ∷ []) (int p) no_generators) (tree_and (truth p true) no_trees) unstated))
    ≡ codes "maximising [ x | i : int , true ]\n"
unfolding the_texts
statement-7 = refl

statement-8 : statement_text (constraints p []) ≡ codes "such that\n"
unfolding the_texts
statement-8 = refl

statement-9 : statement_text (constraints p (at_most p x (literal p no_trees unstated) one ∷ binary p BinaryOp.Pow (all_of p (tree_and x (tree_and one no_trees))) x ∷ []))
    ≡ codes "such that atmost ( x , [ ] , 1 ) , x /\\ 1 ** x\n"
unfolding the_texts
statement-9 = refl

model-1 : model_text (branching p ((codes "x", p) ∷ []) ∷ heuristic p (codes "static") ∷ objective p Sense.Minimising x ∷ [])
    ≡ codes "language ESSENCE' 1.0\nbranching on [ x ]\nheuristic static\nminimising x\n"
unfolding the_texts
model-1 = refl

-- ---- refusals

refusal-1 : refusal_text (Refusal.Syntax TextFile.Model p) ≡ codes "fault F2 model 3:14\n"
unfolding the_texts
refusal-1 = refl

refusal-2 : refusal_text (Refusal.UnknownName TextFile.Params p (codes "y")) ≡ codes "fault F3 params 3:14 y\n"
unfolding the_texts
refusal-2 = refl

refusal-3 : refusal_text (Refusal.Undefined TextFile.Solution p) ≡ codes "fault F10 solution 3:14\n"
unfolding the_texts
refusal-3 = refl

refusal-4 : refusal_text (Refusal.BadLog 2) ≡ codes "fault F13 2\n"
unfolding the_texts
refusal-4 = refl

refusal-5 : refusal_text (Refusal.LongNumber TextFile.Cnf p) ≡ codes "limit L2 cnf 3:14\n"
unfolding the_texts
refusal-5 = refl

refusal-6 : refusal_text (Refusal.TooLong TextFile.Log) ≡ codes "limit L1 log\n"
unfolding the_texts
refusal-6 = refl

refusal-7 : refusal_text (Refusal.Over Limit.Reach) ≡ codes "limit L5\n"
unfolding the_texts
refusal-7 = refl

refusal-8 : refusal_text (Refusal.CannotRead (codes "a.eprime")) ≡ codes "device read a.eprime\n"
unfolding the_texts
refusal-8 = refl

refusal-9 : refusal_text Refusal.Memory ≡ codes "memory\n"
unfolding the_texts
refusal-9 = refl

refusal-10 : refusal_text (Refusal.BadOpb 3) ≡ codes "fault F14 3\n"
unfolding the_texts
refusal-10 = refl

refusal-11 : refusal_text (Refusal.TooLong TextFile.Opb) ≡ codes "limit L1 opb\n"
unfolding the_texts
refusal-11 = refl
