-- Answers over numbers of variables are right answers of the problem.
use Rattle.std.proofs.Common.{◌≡◌, ◌⊎◌, inl, inr, ℕ, ℤ, ◌≤ℤ◌, ◌<ℤ◌, Bool, true, false, IsSome, List, [], ◌∷◌, Option, Some, None, int_lt, length, map, refl, sym, ap, subst, ◌∙◌, arith, option_map}
use Rattle.std.specs.Prelude.{unwrap_or}
use Rattle.std.specs.List.{AllZip, Contains}
use Rattle.std.proofs.lemmas.Int.{ints}
use Rattle.cnf_core.specs.Events.{LogState}
use Rattle.ep_answer.proofs.Deciding.{lt_true}
use Rattle.ep_answer.specs.Answered.{FoundCells, IsBetterThan, IsRightAnswer}
use Rattle.ep_answer.specs.Answered as cells
use Rattle.ep_answer.specs.Problems.{IsAllowed, ProblemState}
use Rattle.ep_base.specs.Senses.{better_number}
use Rattle.ep_base.specs.declared.operators.Sense.{Sense}
use Rattle.opb_answer.specs.Answers.{truths_in}
use Rattle.opb_answer.specs.Right.{IsOpbOptimum, IsRightOpb, SolvesOpb}
use Rattle.opb_answer.specs.declared.answers.OpbValue.{OpbValue}
use Rattle.opb_solve.proofs.Agreeing.{same_objective, same_solution, values_truths, values_vars}
use Rattle.opb_solve.proofs.Allowing.{AllowsOpb}
use Rattle.opb_solve.specs.Meant.{AreSolved, found_from, goal_number, numbers_in, values_from}
use Rattle.opb_text.specs.Contents.{OpbContent}
use Rattle.opb_text.specs.Flats.{truth_domains, truths_of}
use Rattle.opb_text.specs.Solutions.{objective_value, terms_total}
use Rattle.opb_text.specs.Weights.{AreVariablesOf}
use Rattle.opb_text.specs.declared.content.OpbTerm.{OpbTerm}

-- ---- solutions

long_fit : (vars : List ℕ) (numbers : List ℤ) → AllZip Contains (truth_domains vars) numbers → length numbers ≡ length vars
long_fit [] [] fit = refl
long_fit [] (n ∷ numbers) fit = absurd fit
long_fit (x ∷ vars) [] fit = absurd fit
long_fit (x ∷ vars) (n ∷ numbers) fit = let inner = long_fit vars numbers fit.1 in omega (arith, inner)

pub named_values : (content : OpbContent) (vars : List ℕ) (numbers : List ℤ) (goal : Option ℤ) → AreVariablesOf content vars → AreSolved content vars numbers goal
    → AreVariablesOf content (map (λ (v : OpbValue). v.var) (values_from vars numbers))
named_values content vars numbers goal are s = subst (AreVariablesOf content) (sym (values_vars vars numbers (long_fit vars numbers s.fit))) are

pub solution_values : (content : OpbContent) (vars : List ℕ) (numbers : List ℤ) (goal : Option ℤ) → AreVariablesOf content vars → AreSolved content vars numbers goal → SolvesOpb content (values_from vars numbers)
solution_values content vars numbers goal are s = record {
  variables = named_values content vars numbers goal are s;
  solution = same_solution content vars (truths_of vars numbers) (truths_in (values_from vars numbers)) are (λ var there. values_truths vars numbers var) s.solution;
}

-- ---- objectives

some_is : {A : Type 0} (x y : A) → Some x ≡ Some y → x ≡ y
some_is x y e = cc

-- an objective that has a number is stated, and the number is its value
pub stated_goal : (content : OpbContent) (truths : ℕ → Bool) (number : ℤ) → Some number ≡ goal_number content truths → IsSome content.objective × (number ≡ objective_value content truths)
stated_goal content truths number e = by content.objective refl
  where
    by : (o : Option (List OpbTerm)) → content.objective ≡ o → IsSome content.objective × (number ≡ objective_value content truths)
    by None none = absurd (let h : Some number ≡ None = subst (λ (o : Option (List OpbTerm)). Some number ≡ option_map (λ terms. terms_total truths terms) o) none e in cc)
    by (Some terms) some =
        let h : Some number ≡ Some (terms_total truths terms) = subst (λ (o : Option (List OpbTerm)). Some number ≡ option_map (λ ts. terms_total truths ts) o) some e in (
          subst IsSome (sym some) refl,
          some_is number (terms_total truths terms) h ∙ ap (λ (o : Option (List OpbTerm)). terms_total truths (unwrap_or o [])) (sym some),
        )

-- the number of an objective that is stated
pub goal_stated : (content : OpbContent) (truths : ℕ → Bool) → IsSome content.objective → goal_number content truths ≡ Some (objective_value content truths)
goal_stated content truths stated = by content.objective stated
  where
    by : (o : Option (List OpbTerm)) → IsSome o → option_map (λ terms. terms_total truths terms) o ≡ Some (terms_total truths (unwrap_or o []))
    by None is = absurd cc
    by (Some terms) is = refl

-- the objective of the problem that is searched in has the sense of the pseudo-Boolean problem's
abbrev pub HasSenseOf : ProblemState → OpbContent → Type 0
HasSenseOf p content = option_map (λ goal. goal.0) p.variables.objective ≡ option_map (λ terms. Sense.Minimising) content.objective

unstated : {A : Type 0} (o : Option (Sense × A)) (goal : Option (List OpbTerm)) → option_map (λ one. one.0) o ≡ option_map (λ terms. Sense.Minimising) goal → o ≡ None → goal ≡ None
unstated o None same none = refl
unstated o (Some terms) same none = absurd (let h : option_map (λ one. one.0) o ≡ None = ap (option_map (λ one. one.0)) none in let g : Some Sense.Minimising ≡ None = sym same ∙ h in cc)

pub minimised : {A : Type 0} (o : Option (Sense × A)) (goal : Option (List OpbTerm)) → option_map (λ one. one.0) o ≡ option_map (λ terms. Sense.Minimising) goal → IsSome goal → (x : A) × (o ≡ Some (Sense.Minimising, x))
minimised o None same stated = absurd cc
minimised None (Some terms) same stated = absurd cc
minimised (Some one) (Some terms) same stated =
    let sense : one.0 ≡ Sense.Minimising = some_is one.0 Sense.Minimising same in (one.1, ap (λ s. Some (s, one.1)) sense)

-- a smaller number is better
pub smaller_is_better : (p : ProblemState) (content : OpbContent) (number other : ℤ) → HasSenseOf p content → IsSome content.objective → other <ℤ number → IsBetterThan p number (Some other)
unfolding better_number
smaller_is_better p content number other sense stated less =
    let named = minimised p.variables.objective content.objective sense stated in
    record { sense = Sense.Minimising; variable = named.0; number = other; stated = named.1; drives = refl; better = lt_true other number less }

less_or_not : (a b : ℤ) → (a ≤ℤ b) ⊎ (b <ℤ a)
less_or_not a b = by (int_lt b a) refl
  where
    by : (t : Bool) → int_lt b a ≡ t → (a ≤ℤ b) ⊎ (b <ℤ a)
    by true e = inr (omega (arith, ints, e))
    by false e = inl (omega (arith, ints, e))

-- ---- answers

optimal : (content : OpbContent) (vars : List ℕ) (p : ProblemState) (log : LogState) (number : ℤ) (numbers : List ℤ) → AreVariablesOf content vars → HasSenseOf p content → AllowsOpb content vars p log
    → AreSolved content vars numbers (Some number) → ((others : List ℤ) (goal : Option ℤ) → IsAllowed p log others goal → IsBetterThan p number goal → ⊥) → IsSome content.objective × IsOpbOptimum content (values_from vars numbers)
optimal content vars p log number numbers are sense allows s best =
    let truths : ℕ → Bool = truths_of vars numbers in
    let own : ℕ → Bool = truths_in (values_from vars numbers) in
    let stated = stated_goal content truths number s.valued in
    let value : objective_value content own ≡ number =
    sym (same_objective content vars truths own are (λ var there. values_truths vars numbers var)) ∙ sym stated.1 in (
      stated.0,
      record {
        variables = named_values content vars numbers (Some number) are s;
        optimal = record {
          solution = (solution_values content vars numbers (Some number) are s).solution;
          least = λ others solution.
              elim (less_or_not number (objective_value content others)) as (λ _. objective_value content own ≤ℤ objective_value content others) [
                | inl low ↦ subst (λ (n : ℤ). n ≤ℤ objective_value content others) (sym value) low
                | inr less ↦ absurd (best (numbers_in vars others) (goal_number content others) (allows.allowed others solution)
                    (subst (IsBetterThan p number) (sym (goal_stated content others stated.0)) (smaller_is_better p content number (objective_value content others) sense stated.0 less)))
              ];
        };
      },
    )

pub answered_right : (content : OpbContent) (vars : List ℕ) (p : ProblemState) (budget : ℕ) (log : LogState) (found : FoundCells) → AreVariablesOf content vars → HasSenseOf p content → AllowsOpb content vars p log
    → IsRightAnswer p budget log found → IsRightOpb content (found_from vars found)
unfolding IsRightAnswer IsRightOpb found_from
answered_right content vars p budget log (cells.solution numbers) are sense allows h =
    (unstated p.variables.objective content.objective sense h.unstated, solution_values content vars numbers None are (allows.solves numbers None h.allowed))
answered_right content vars p budget log (cells.optimum number numbers) are sense allows h =
    optimal content vars p log number numbers are sense allows (allows.solves numbers (Some number) h.allowed) h.best
answered_right content vars p budget log cells.no_solution are sense allows h = λ truths s. h.none (numbers_in vars truths) (goal_number content truths) (allows.allowed truths s)
answered_right content vars p budget log (cells.unknown None) are sense allows h = tt
answered_right content vars p budget log (cells.unknown (Some best)) are sense allows h =
    let s = allows.solves best.1 (Some best.0) h.incumbent in
    ((stated_goal content (truths_of vars best.1) best.0 s.valued).0, solution_values content vars best.1 (Some best.0) are s)
