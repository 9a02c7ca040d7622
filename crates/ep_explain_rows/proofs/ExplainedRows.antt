-- An instance that is explained, and the texts of explanations.
use Rattle.std.proofs.Common.{◌≡◌, ◌⊎◌, ◌≤◌, inl, inr, ℕ, ℤ, pos, suc, zero, List, [], ◌∷◌, None, refl, sym, ap, ◌∙◌, arith}
use Rattle.std.specs.Prelude.{codes, length, Some}
use Rattle.std.specs.Fmt.{digits}
use Rattle.std.specs.List.Sorted.{IsStrictlyIncreasing}
use Rattle.std.proofs.lemmas.List.Elements.{All-from_recursion}
use Rattle.std.proofs.lemmas.List.Sorted.{IsPermutation-refl}
use Rattle.ep_base.specs.declared.operators.CompareOp.{CompareOp}
use Rattle.ep_explain.specs.Explained.{Core, Explains, HasNoSolution, IsWrittenSolution, all_but, core_numbers}
use Rattle.ep_explain_text.specs.ExplanationTexts.{core_text, without_text}
use Rattle.ep_print.specs.Answers.{letting_text}
use Rattle.ep_print.specs.Values.{scalar_text, scalar_value_text, value_text}
use Rattle.ep_restrict.specs.Restricted.{AreClauseNumbers, numbered_clauses, restricted}
use Rattle.ep_solve_rows.proofs.TwoValues.{bare, found, is, one_of_both}
use Rattle.ep_tree.proofs.Opened.{the_language}
use Rattle.ep_tree.specs.Binding.{Instance}
use Rattle.ep_tree.specs.Solutions.{Found, NamedValue, violated}
use Rattle.ep_tree.specs.Trees.{ExprTree, compare, named, number}
use Rattle.ep_tree.specs.TypedValues.{IsOf}
use Rattle.ep_tree.specs.declared.values.Mode.{Mode}

-- ---- the instance

-- x beside a number
abbrev says : CompareOp → ℤ → ExprTree
says op n = compare (record { line = 2; column = 11 }) op (named (record { line = 2; column = 11 }) (codes "x")) (number (record { line = 2; column = 15 }) n)

-- an instance without a solution
--     find x : int(1..2)
--     such that x > 1, x < 2, x != 3
abbrev pub refused : Instance
refused = record bare { clauses = says CompareOp.Greater (pos 1) ∷ says CompareOp.Less (pos 2) ∷ says CompareOp.NotEqual (pos 3) ∷ [] }

-- what explains it: the first clause and the second, each beside what makes the other true
abbrev pub core : Core
core = (1, is (pos 1)) ∷ (2, is (pos 2)) ∷ []

-- ---- what explains it

-- their numbers ascend
ascend : IsStrictlyIncreasing (core_numbers core)
ascend zero within = omega arith
ascend (suc k) within = absurd (omega (arith, within))

-- they are numbers of its clauses
numbers_are : AreClauseNumbers refused (core_numbers core)
numbers_are = record {
  ascending = ascend;
  there = All-from_recursion (λ (n : ℕ). (1 ≤ n) × (n ≤ length refused.clauses)) (core_numbers core) ((omega arith, omega arith), ((omega arith, omega arith), tt));
}

-- a number isn't none
no_none : (k : ℕ) → Some k ≡ None → ⊥
no_none k e = absurd cc

-- where x is 1 the first one is violated
first_violated : violated Mode.Relational (restricted refused (core_numbers core)) (found (pos 1)) ≡ Some 1
unfolding the_language numbered_clauses
first_violated = refl

-- where x is 2 the second one is
second_violated : violated Mode.Relational (restricted refused (core_numbers core)) (found (pos 2)) ≡ Some 2
unfolding the_language numbered_clauses
second_violated = refl

-- neither value makes both true
neither : (f : Found) → (f ≡ found (pos 1)) ⊎ (f ≡ found (pos 2)) → violated Mode.Relational (restricted refused (core_numbers core)) f ≡ None → ⊥
neither f (inl one) holds = no_none 1 (sym first_violated ∙ sym (ap (violated Mode.Relational (restricted refused (core_numbers core))) one) ∙ holds)
neither f (inr two) holds = no_none 2 (sym second_violated ∙ sym (ap (violated Mode.Relational (restricted refused (core_numbers core))) two) ∙ holds)

-- nothing makes both true
none : HasNoSolution Mode.Relational (restricted refused (core_numbers core))
none a solves = neither solves.found (one_of_both None a solves.found (record { same_names = solves.fits.same_names; values = solves.fits.values })) solves.holds

-- that x is 1 makes the second one true
first_without : IsWrittenSolution Mode.Relational (restricted refused (all_but 1 (core_numbers core))) (is (pos 1))
unfolding the_language numbered_clauses
first_without = record {
  solves = record { found = found (pos 1); fits = record { same_names = IsPermutation-refl (codes "x" ∷ []); values = refl }; holds = refl; measured = refl };
  written = refl;
  typed = All-from_recursion (λ (g : NamedValue). IsOf g.ty g.value) (is (pos 1)) (refl, tt);
}

-- that x is 2 makes the first one true
second_without : IsWrittenSolution Mode.Relational (restricted refused (all_but 2 (core_numbers core))) (is (pos 2))
unfolding the_language numbered_clauses
second_without = record {
  solves = record { found = found (pos 2); fits = record { same_names = IsPermutation-refl (codes "x" ∷ []); values = refl }; holds = refl; measured = refl };
  written = refl;
  typed = All-from_recursion (λ (g : NamedValue). IsOf g.ty g.value) (is (pos 2)) (refl, tt);
}

-- the first clause and the second explain why there is no solution
pub explained : Explains Mode.Relational refused core
explained = record {
  numbers = numbers_are;
  none = none;
  without = All-from_recursion (λ one. IsWrittenSolution Mode.Relational (restricted refused (all_but one.0 (core_numbers core))) one.1) core (first_without, (second_without, tt));
}

-- ---- texts

-- two clauses, each with its values
pub two_named : core_text ((1, is (pos 2)) ∷ (2, is (pos 3)) ∷ []) ≡ codes "language ESSENCE' 1.0\n$ explanation 2\n$ without 1\nletting x be 2\n$ without 2\nletting x be 3\n"
unfolding core_text without_text letting_text value_text scalar_value_text scalar_text digits the_language
two_named = refl

-- no clause: the domains alone have no value
pub none_named : core_text [] ≡ codes "language ESSENCE' 1.0\n$ explanation 0\n"
unfolding core_text digits
none_named = refl
