-- What a search adds where it reached no number of the objective, or where none is stated.
use Rattle.std.proofs.Common.{◌≡◌, ℕ, ◌-◌, ℤ, List, [], ◌∷◌, ◌++◌, Some, None, length, take, drop, sym, ap, subst, ◌∙◌, arith, refl}
use Rattle.std.specs.Prelude.{slice_get}
use Rattle.std.specs.List.{AllZip}
use Rattle.std.proofs.lemmas.List.{append-nil, append_cancel_left, take-append-drop}
use Rattle.std.proofs.lemmas.List.Elements.{All-nil}
use Rattle.cnf_core.specs.Events.{LogState, givens}
use Rattle.cnf_core.specs.Literal.{Literal}
use Rattle.ep_answer.proofs.Searching.{givens_append}
use Rattle.ep_answer.specs.Answered.{AnswersCells, FoundCells, Improves, IsReachedGoal, IsRightAnswer, SaysBetter, added_givens, best_number}
use Rattle.ep_answer.specs.Answered as cells
use Rattle.ep_answer.specs.Problems.{ProblemState}
use Rattle.ep_flat.specs.Flats.{objective_number}

-- ---- no number was reached

-- a list whose last element isn't there is empty
empty_without_last : (ns : List ℤ) → slice_get ns (length ns - 1) ≡ None → ns ≡ []
empty_without_last [] h = refl
empty_without_last (n ∷ ns) h =
    let before : length (n ∷ ns) - 1 ≡ length ns = omega arith in
    absurd (there n ns (subst (λ (k : ℕ). slice_get (n ∷ ns) k ≡ None) before h))
  where
    there : (m : ℤ) (ms : List ℤ) → slice_get (m ∷ ms) (length ms) ≡ None → ⊥
    there m [] e = absurd cc
    there m (k ∷ ms) e = there k ms e

none_said : (p : ProblemState) (bests : List ℤ) (added : List (List Literal)) → bests ≡ [] → AllZip (SaysBetter p) bests added → added ≡ []
none_said p [] [] is said = refl
none_said p [] (clause ∷ added) is said = absurd said
none_said p (n ∷ bests) added is said = absurd cc

-- where no number was reached, none was added
pub none_reached : (p : ProblemState) (found : FoundCells) (old new : LogState) → Improves p old new found → best_number found ≡ None → added_givens old new ≡ []
none_reached p found old new h none = none_said p h.bests (added_givens old new) (empty_without_last h.bests (h.last ∙ none)) h.said

-- ---- no objective is stated

-- where the givens are the old ones, none was added
same_givens : (old new : LogState) → take (length old.events) new.events ≡ old.events → givens new.events ≡ givens old.events → added_givens old new ≡ []
same_givens old new front same =
    let n : ℕ = length old.events in
    let added : List (List Literal) = givens (drop n new.events) in
    let all : givens new.events ≡ givens old.events ++ added =
    ap givens (sym (take-append-drop n new.events)) ∙ givens_append (take n new.events) (drop n new.events) ∙ ap (λ es. givens es ++ added) front in
    append_cancel_left (givens old.events) added [] (sym all ∙ same ∙ sym (append-nil (givens old.events)))

-- nothing is allowed with a number of it then
unstated : (p : ProblemState) (number : ℤ) (values : List ℤ) → p.variables.objective ≡ None → objective_number p.variables values ≡ Some number → ⊥
unfolding objective_number
unstated p number values none drives = absurd cc

no_number : (p : ProblemState) (budget : ℕ) (found : FoundCells) (log : LogState) → p.variables.objective ≡ None → AnswersCells p budget log found → best_number found ≡ None
unfolding IsRightAnswer best_number
no_number p budget (cells.solution numbers) log none answers = refl
no_number p budget (cells.optimum number numbers) log none answers = absurd (unstated p number _ none answers.right.allowed.drives)
no_number p budget cells.no_solution log none answers = refl
no_number p budget (cells.unknown None) log none answers = refl
no_number p budget (cells.unknown (Some best)) log none answers = absurd (unstated p best.0 _ none answers.right.incumbent.drives)

-- a search that adds no given improves on nothing
pub improves_nothing : (p : ProblemState) (budget : ℕ) (found : FoundCells) (old new : LogState) → p.variables.objective ≡ None → take (length old.events) new.events ≡ old.events → givens new.events ≡ givens old.events → AnswersCells p budget new found
    → Improves p old new found
improves_nothing p budget found old new none front same answers = record {
  bests = [];
  reached = All-nil (IsReachedGoal p new);
  better = λ m n d low high. absurd (omega (arith, high));
  last = sym (no_number p budget found new none answers);
  said = subst (AllZip (SaysBetter p) []) (sym (same_givens old new front same)) tt;
}
