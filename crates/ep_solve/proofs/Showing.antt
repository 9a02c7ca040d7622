-- What a log shows of what a search found.
use Rattle.std.proofs.Common.{◌≡◌, ◌-◌, ◌+◌, ◌<ℤ◌, ℕ, ℤ, Bool, true, false, suc, List, [], ◌∷◌, ◌++◌, drop, length, take, Option, Some, None, IsTrue, refl, sym, ap, subst, ◌∙◌, arith}
use Rattle.std.proofs.lemmas.Int.{ints}
use Rattle.std.specs.Prelude.{int_lt, slice_get, slice_index_or}
use Rattle.std.specs.List.{All, AllZip}
use Rattle.std.proofs.lemmas.Bool.{false≢true}
use Rattle.std.proofs.lemmas.List.{append-nil, take-append-drop}
use Rattle.std.proofs.lemmas.List.Elements.{All-weaker}
use Rattle.cnf_core.specs.Events.{LogState, givens}
use Rattle.cnf_core.specs.Literal.{Literal}
use Rattle.ep_base.specs.Senses.{better_number}
use Rattle.ep_base.specs.declared.operators.Sense.{Sense}
use Rattle.ep_answer.specs.Answered.{AnswersCells, FoundCells, Improves, IsBetterThan, IsReachedGoal, IsRightAnswer, SaysBetter, added_givens, best_number}
use Rattle.ep_answer.specs.Answered as cells
use Rattle.ep_answer.specs.Problems.{ProblemState}
use Rattle.ep_flat.specs.Flats.{objective_number}
use Rattle.ep_tree.specs.Binding.{Instance}
use Rattle.ep_tree.specs.Solutions.{goal_value}
use Rattle.ep_tree.specs.declared.values.Mode.{Mode}
use Rattle.ep_print.specs.Answers.{AnswerTree}
use Rattle.ep_solve.specs.Logged.{IsBetterSolution, IsDrivenTo, IsLogged, IsReached, SaysOfSolutions, ShowsAnswer, TellSolutions, added_clauses, first_givens}
use Rattle.ep_solve.specs.Searched.{AddsBounds}
use Rattle.ep_solve.specs.Reading.{answer_from, assignment_from}
use Rattle.ep_solve.proofs.Answering.{same-some}
use Rattle.ep_solve.proofs.Leaving.{Agree, Keeps, better-wanted, givens-append, kept, leaves, none-added, stands}
use Rattle.ep_solve.proofs.Solved.{SearchedFor}
use Rattle.ep_solve.proofs.Stepwise.{Says, added-behind, first-hold, last-holds, says-of-solutions, tell-first, zip-weaker}

-- ---- better and better numbers

lies-below : (x y : ℤ) → IsTrue (int_lt x y) → x <ℤ y
lies-below x y h = by (int_lt x y) refl
  where
    by : (t : Bool) → int_lt x y ≡ t → x <ℤ y
    by true e = omega (arith, ints, e)
    by false e = absurd (false≢true (sym e ∙ h))

is-below : (x y : ℤ) → x <ℤ y → IsTrue (int_lt x y)
is-below x y h = by (int_lt x y) refl
  where
    by : (t : Bool) → int_lt x y ≡ t → t ≡ true
    by true e = refl
    by false e = absurd (omega (arith, ints, h, e))

-- what is better than a better number is better
better-still : (sense : Sense) (x y z : ℤ) → IsTrue (better_number sense y x) → IsTrue (better_number sense z y) → IsTrue (better_number sense z x)
unfolding better_number
better-still Sense.Minimising x y z first second =
    let p = lies-below y x first in
    let q = lies-below z y second in
    is-below z x (omega (arith, ints, p, q))
better-still Sense.Maximising x y z first second =
    let p = lies-below x y first in
    let q = lies-below y z second in
    is-below x z (omega (arith, ints, p, q))

beats-all : (p : ProblemState) (goal : Option ℤ) (x y : ℤ) → IsBetterThan p x (Some y) → IsBetterThan p y goal → IsBetterThan p x goal
beats-all p goal x y first second =
    let same : (first.sense, first.variable) ≡ (second.sense, second.variable) = same-some (first.sense, first.variable) (second.sense, second.variable) (sym first.stated ∙ second.stated) in
    let number : y ≡ first.number = same-some y first.number first.drives in
    let Better : Sense → ℤ → Type 0 = λ sense n. IsTrue (better_number sense n x) in
    record {
      sense = second.sense;
      variable = second.variable;
      number = second.number;
      stated = second.stated;
      drives = second.drives;
      better = better-still second.sense x y second.number
          (subst (λ sense. Better sense y) (ap (λ g. g.0) same) (subst (Better first.sense) (sym number) first.better)) second.better;
    }

-- ---- the givens that were added behind the best ones

-- each given that was added says of the objective's number that it is better than one
abbrev Better : ProblemState → ℤ → List ℤ → Option ℤ → Type 0
Better p number numbers goal = IsBetterThan p number goal

-- how a search came to the number of the best solution that it has
driven-to : (mode : Mode) (i : Instance) (h : SearchedFor mode i) → Keeps mode i h.p h.new → (found : FoundCells) (value : ℤ) → best_number found ≡ Some value → Improves h.p h.old h.new found → IsDrivenTo mode i h.new value
driven-to mode i h k found value best improves = record {
  numbers = improves.bests;
  reached = All-weaker (IsReachedGoal h.p h.new) (IsReached mode i) (λ number one. reached number one) improves.bests improves.reached;
  better = λ m n d low high. (better-wanted i h.p (slice_index_or improves.bests m d) (Some (slice_index_or improves.bests n d)) h.poses.stands.senses).0 (improves.better m n d low high);
  last = improves.last ∙ best;
  said = zip-weaker (Says h.p (Better h.p)) (λ number. SaysOfSolutions mode i h.new (IsBetterSolution mode i number)) (λ number clause say. says-of-solutions mode i h.p h.new k (Better h.p) number (IsBetterSolution mode i number) clause (of-solutions number) say) improves.bests (added_clauses h.new) say;
  narrows = narrows;
}
  where
    reached : (number : ℤ) → IsReachedGoal h.p h.new number → IsReached mode i number
    reached number one =
        let solved = k.allows.solves one.cells (Some number) one.allowed in
        (assignment_from i.finds one.cells, solved.reads.fits.values, solved.solves, solved.valued)

    say : AllZip (Says h.p (Better h.p)) improves.bests (added_clauses h.new)
    say = subst (AllZip (Says h.p (Better h.p)) improves.bests) (added-behind mode i h)
        (zip-weaker (SaysBetter h.p) (Says h.p (Better h.p)) (λ number clause one s means. one.says s means.objective) improves.bests (added_givens h.old h.new) improves.said)

    of-solutions : (number : ℤ) → Agree mode i (Better h.p number) (IsBetterSolution mode i number)
    of-solutions number a s = better-wanted i h.p number (goal_value mode i s.found) h.poses.stands.senses

    agree : (n : ℕ) (number : ℤ) → slice_get improves.bests n ≡ Some number → Agree mode i (λ numbers goal. All (λ x. Better h.p x numbers goal) (take (suc n) improves.bests)) (IsBetterSolution mode i number)
    agree n number at a s =
        let goal : Option ℤ = goal_value mode i s.found in
        let same = better-wanted i h.p number goal h.poses.stands.senses in (
          λ all. same.0 (last-holds (λ x. IsBetterThan h.p x goal) improves.bests n number at all),
          λ better. first-hold (λ earlier later. IsBetterThan h.p earlier (Some later)) (λ x. IsBetterThan h.p x goal) (beats-all h.p goal) improves.bests n number improves.better at (same.1 better),
        )

    narrows : (n : ℕ) (number : ℤ) → slice_get improves.bests n ≡ Some number → TellSolutions mode i h.new.notes (first_givens h.new (n + 1)) (IsBetterSolution mode i number)
    narrows n number at =
        let next : suc n ≡ n + 1 = omega arith in
        subst (λ count. TellSolutions mode i h.new.notes (first_givens h.new count) (IsBetterSolution mode i number)) next
        (tell-first mode i h.p h.new k improves.bests (Better h.p) say (suc n) (IsBetterSolution mode i number) (agree n number at))

-- ---- answers

shows : (mode : Mode) (i : Instance) (budget : ℕ) (found : FoundCells) → (h : SearchedFor mode i) → Keeps mode i h.p h.new → AddsBounds h.p found h.old h.new
    → IsRightAnswer h.p budget h.new found → ShowsAnswer mode i budget h.new (answer_from i.finds budget found)
unfolding IsRightAnswer ShowsAnswer answer_from AddsBounds best_number
shows mode i budget (cells.solution ns) h k adds right = none-added h.old h.new h.poses.is_base h.front h.base adds
shows mode i budget (cells.optimum n ns) h k adds right = (right.ends, driven-to mode i h k (cells.optimum n ns) n refl adds)
shows mode i budget cells.no_solution h k adds right = (right.ends, none-added h.old h.new h.poses.is_base h.front h.base adds)
shows mode i budget (cells.unknown None) h k adds right = ((right.steps, right.none_is_empty), none-added h.old h.new h.poses.is_base h.front h.base adds)
shows mode i budget (cells.unknown (Some best)) h k adds right = (
  (right.steps, right.none_is_empty),
  driven-to mode i h k (cells.unknown (Some best)) best.0 refl adds,
  leaves mode i h.p budget h.new (Some best) k h.poses.stands.senses right,
)

-- what was found in the problem of an instance is logged
pub found-logged : (mode : Mode) (i : Instance) (budget : ℕ) (found : FoundCells) (answer : AnswerTree) → (h : SearchedFor mode i) → h.new.notes ≡ h.old.notes
    → AddsBounds h.p found h.old h.new → AnswersCells h.p budget h.new found → answer ≡ answer_from i.finds budget found → IsLogged mode i budget h.new answer
found-logged mode i budget found answer h notes adds answers same =
    let k : Keeps mode i h.p h.new = kept mode i h notes in
    record {
      stands = stands mode i h k;
      sound = answers.sound;
      within = answers.within;
      shows = subst (ShowsAnswer mode i budget h.new) (sym same) (shows mode i budget found h k adds answers.right);
    }

-- ---- what a search adds

-- where no objective is stated, nothing is allowed with a number of it
unstated : (p : ProblemState) (number : ℤ) (values : List ℤ) → p.variables.objective ≡ None → objective_number p.variables values ≡ Some number → ⊥
unfolding objective_number
unstated p number values none drives = absurd cc

-- a search that adds no given where no objective is stated, whatever it finds
pub adds_none : (p : ProblemState) (budget : ℕ) (found : FoundCells) (old new : LogState) → p.variables.objective ≡ None → AnswersCells p budget new found → givens new.events ≡ givens old.events → AddsBounds p found old new
unfolding AddsBounds IsRightAnswer
adds_none p budget (cells.solution ns) old new none answers same = same
adds_none p budget (cells.optimum n ns) old new none answers same = absurd (unstated p n _ none answers.right.allowed.drives)
adds_none p budget cells.no_solution old new none answers same = same
adds_none p budget (cells.unknown None) old new none answers same = same
adds_none p budget (cells.unknown (Some best)) old new none answers same = absurd (unstated p best.0 _ none answers.right.incumbent.drives)

-- a list whose last element isn't there is empty
empty-without-last : (ns : List ℤ) → slice_get ns (length ns - 1) ≡ None → ns ≡ []
empty-without-last [] h = refl
empty-without-last (n ∷ ns) h =
    let before : length (n ∷ ns) - 1 ≡ length ns = omega arith in
    absurd (there n ns (subst (λ (k : ℕ). slice_get (n ∷ ns) k ≡ None) before h))
  where
    there : (m : ℤ) (ms : List ℤ) → slice_get (m ∷ ms) (length ms) ≡ None → ⊥
    there m [] e = absurd cc
    there m (k ∷ ms) e = there k ms e

-- a search for the best solution that reached none added no given
without-best : (p : ProblemState) (old new : LogState) (found : FoundCells) → Improves p old new found → take (length old.events) new.events ≡ old.events → best_number found ≡ None → givens new.events ≡ givens old.events
without-best p old new found h front none =
    let added : List (List Literal) = givens (drop (length old.events) new.events) in
    let no_bests : h.bests ≡ [] = empty-without-last h.bests (h.last ∙ none) in
    let no_clauses : added ≡ [] = alone added (subst (λ ns. AllZip (SaysBetter p) ns added) no_bests h.said) in
    sym (ap givens (take-append-drop (length old.events) new.events)) ∙ givens-append (take (length old.events) new.events) (drop (length old.events) new.events)
    ∙ ap (λ es. givens es ++ added) front ∙ ap (λ cs. givens old.events ++ cs) no_clauses ∙ append-nil (givens old.events)
  where
    alone : (cs : List (List Literal)) → AllZip (SaysBetter p) [] cs → cs ≡ []
    alone [] all = refl
    alone (c ∷ cs) all = absurd all

-- a search for the best solution adds what says that the objective is better, where it reached one
pub adds_improved : (p : ProblemState) (found : FoundCells) (old new : LogState) → Improves p old new found → take (length old.events) new.events ≡ old.events → AddsBounds p found old new
unfolding AddsBounds best_number
adds_improved p (cells.solution ns) old new h front = without-best p old new (cells.solution ns) h front refl
adds_improved p (cells.optimum n ns) old new h front = h
adds_improved p cells.no_solution old new h front = without-best p old new cells.no_solution h front refl
adds_improved p (cells.unknown None) old new h front = without-best p old new (cells.unknown None) h front refl
adds_improved p (cells.unknown (Some best)) old new h front = h
