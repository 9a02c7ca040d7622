-- Answers over numbers of cells are right answers of the instance.
use Rattle.std.proofs.Common.{◌≡◌, ℕ, ℤ, List, Option, Some, None, refl, sym, ap, subst, ◌∙◌, IsTrue, option_map}
use Rattle.cnf_core.specs.Events.{LogState}
use Rattle.ep_base.specs.Senses.{better_number}
use Rattle.ep_base.specs.declared.operators.Sense.{Sense}
use Rattle.ep_answer.specs.Answered.{FoundCells, IsBetterThan, IsRightAnswer}
use Rattle.ep_answer.specs.Answered as found
use Rattle.ep_answer.specs.Problems.{IsAllowed, ProblemState}
use Rattle.ep_tree.specs.Binding.{Instance}
use Rattle.ep_tree.specs.Closed.{IsClosed}
use Rattle.ep_tree.specs.Solutions.{Assigned, Found, IsBetter, IsSolution, found_of, goal_value, has_goal_value, violated}
use Rattle.ep_tree.specs.declared.values.Mode.{Mode}
use Rattle.ep_print.specs.Answers.{HasTypedValues, optimum, solution, unknown_with}
use Rattle.ep_ground.specs.Grounds.{AreCellValues}
use Rattle.ep_unroll.specs.Cells.{found_numbers, instance_cells}
use Rattle.ep_solve.specs.Formulas.{Solves}
use Rattle.ep_solve.specs.Reading.{ReadsAs, answer_from, assignment_from}
use Rattle.ep_solve.specs.Right.{IsRight}
use Rattle.ep_solve.proofs.Cells.{fits-gives, numbers-read, numbers-same}

-- ---- solutions that are read back

-- numbers of the cells are read as a solution, whose objective has this number
pub record ReadsSolution (mode : Mode) (i : Instance) (cells : List ℤ) (goal : Option ℤ) : Type 0 where
  pub reads : ReadsAs i cells
  pub solves : IsSolution mode i (assignment_from i.finds cells)
  pub valued : goal_value mode i (found_of (assignment_from i.finds cells)) ≡ goal

-- those of a solution are
pub read-solution : (mode : Mode) (i : Instance) (cells : List ℤ) (goal : Option ℤ) → IsClosed i → Solves mode i cells goal → ReadsSolution mode i cells goal
read-solution mode i cells goal closed s =
    let found : Found = s.solves.found in
    let reads : ReadsAs i cells = numbers-read i cells closed (subst (AreCellValues (instance_cells i)) s.numbers_are (fits-gives i s.assigned found s.solves.fits)) in
    let same : found ≡ found_of (assignment_from i.finds cells) = numbers-same i s.assigned (assignment_from i.finds cells) found (found_of (assignment_from i.finds cells)) s.solves.fits reads.fits (s.numbers_are ∙ sym reads.numbers_are) in
    record {
      reads = reads;
      solves = record {
        found = found_of (assignment_from i.finds cells);
        fits = reads.fits;
        holds = subst (λ f. violated mode i f ≡ None) same s.solves.holds;
        measured = subst (λ f. IsTrue (has_goal_value mode i f)) same s.solves.measured;
      };
      valued = ap (goal_value mode i) (sym same) ∙ s.valued;
    }

-- ---- what a problem allows are the solutions of the instance

-- a problem's log allows exactly the numbers of the cells in the solutions of an instance, each with the objective's number
pub record Allows (mode : Mode) (i : Instance) (p : ProblemState) (log : LogState) : Type 0 where
  pub solves : (cells : List ℤ) (goal : Option ℤ) → IsAllowed p log cells goal → ReadsSolution mode i cells goal
  pub allowed : (a : Assigned) (s : IsSolution mode i a) → IsAllowed p log (found_numbers s.found) (goal_value mode i s.found)

-- ---- the sense of an objective

pub same-some : {A : Type 0} (x y : A) → Some x ≡ Some y → x ≡ y
same-some x y h = cc

-- the sense of an objective that is stated, where a problem's variables have the same sense
pub stated-variable : {A B : Type 0} (objective : Option (Sense × A)) (goal : Option (Sense × B)) (sense : Sense) (e : B)
    → option_map (λ g. g.0) objective ≡ option_map (λ g. g.0) goal → goal ≡ Some (sense, e) → (x : A) × (objective ≡ Some (sense, x))
stated-variable None None sense e same h = absurd cc
stated-variable None (Some s) sense e same h = absurd cc
stated-variable (Some o) None sense e same h = absurd cc
stated-variable (Some o) (Some s) sense e same h =
    let first : o.0 ≡ s.0 = same-some o.0 s.0 same in
    let second : s ≡ (sense, e) = same-some s (sense, e) h in
    (o.1, ap (λ x. Some (x, o.1)) (first ∙ ap (λ t. t.0) second))

stated-none : {A B : Type 0} (objective : Option (Sense × A)) (goal : Option (Sense × B))
    → option_map (λ g. g.0) objective ≡ option_map (λ g. g.0) goal → objective ≡ None → goal ≡ None
stated-none None None same h = refl
stated-none None (Some s) same h = absurd cc
stated-none (Some o) goal same h = absurd cc

-- a problem has the senses of the instance's objective
abbrev pub HasSense : ProblemState → Instance → Type 0
HasSense p i = option_map (λ g. g.0) p.variables.objective ≡ option_map (λ g. g.0) i.goal

-- ---- answers

found-right : (mode : Mode) (i : Instance) (budget : ℕ) (cells : List ℤ) (goal : Option ℤ) → i.goal ≡ None → ReadsSolution mode i cells goal → IsRight mode i budget (solution (assignment_from i.finds cells))
unfolding IsRight
found-right mode i budget cells goal free s = (free, s.reads.fits.values, s.solves)

unknown-right : (mode : Mode) (i : Instance) (budget : ℕ) (number : ℤ) (cells : List ℤ) → ReadsSolution mode i cells (Some number) → IsRight mode i budget (unknown_with budget number (assignment_from i.finds cells))
unfolding IsRight
unknown-right mode i budget number cells s = (refl, s.reads.fits.values, s.solves, s.valued)

optimum-best : (mode : Mode) (i : Instance) (p : ProblemState) (log : LogState) → Allows mode i p log → HasSense p i
    → (number : ℤ) (cells : List ℤ) → ReadsSolution mode i cells (Some number)
    → ((others : List ℤ) (goal : Option ℤ) → IsAllowed p log others goal → IsBetterThan p number goal → ⊥)
    → (b : Assigned) → IsSolution mode i b → IsBetter mode i b (assignment_from i.finds cells) → ⊥
optimum-best mode i p log allows senses number cells s best b other better =
    let a : Assigned = assignment_from i.finds cells in
    let same_own : better.other ≡ found_of a = same-some better.other (found_of a) (sym better.other_fits.values ∙ s.reads.fits.values) in
    let same_other : better.one ≡ other.found = same-some better.one other.found (sym better.one_fits.values ∙ other.fits.values) in
    let y : better.y ≡ number = same-some better.y number (sym better.other_value ∙ ap (goal_value mode i) same_own ∙ s.valued) in
    let x : goal_value mode i other.found ≡ Some better.x = ap (goal_value mode i) (sym same_other) ∙ better.one_value in
    let named = stated-variable p.variables.objective i.goal better.sense better.e senses better.stated in
    let P : ℤ → Type 0 = λ n. IsTrue (better_number better.sense better.x n) in
    best (found_numbers other.found) (goal_value mode i other.found) (allows.allowed b other) (record {
      sense = better.sense;
      variable = named.0;
      number = better.x;
      stated = named.1;
      drives = x;
      better = subst P y better.is_better;
    })

optimum-right : (mode : Mode) (i : Instance) (p : ProblemState) (log : LogState) → Allows mode i p log → HasSense p i
    → (budget : ℕ) (number : ℤ) (cells : List ℤ) → ReadsSolution mode i cells (Some number)
    → ((others : List ℤ) (goal : Option ℤ) → IsAllowed p log others goal → IsBetterThan p number goal → ⊥)
    → IsRight mode i budget (optimum number (assignment_from i.finds cells))
unfolding IsRight
optimum-right mode i p log allows senses budget number cells s best = (
  s.reads.fits.values,
  record { solution = s.solves; best = optimum-best mode i p log allows senses number cells s best },
  s.valued,
)

pub answered-right : (mode : Mode) (i : Instance) (p : ProblemState) (log : LogState) → Allows mode i p log → HasSense p i
    → (budget : ℕ) (answer : FoundCells) → IsRightAnswer p budget log answer → IsRight mode i budget (answer_from i.finds budget answer)
unfolding IsRightAnswer IsRight answer_from
answered-right mode i p log allows senses budget (found.solution cells) h =
    found-right mode i budget cells None (stated-none p.variables.objective i.goal senses h.unstated) (allows.solves cells None h.allowed)
answered-right mode i p log allows senses budget (found.optimum number cells) h =
    optimum-right mode i p log allows senses budget number cells (allows.solves cells (Some number) h.allowed) h.best
answered-right mode i p log allows senses budget found.no_solution h = λ a s. h.none (found_numbers s.found) (goal_value mode i s.found) (allows.allowed a s)
answered-right mode i p log allows senses budget (found.unknown None) h = refl
answered-right mode i p log allows senses budget (found.unknown (Some best)) h =
    unknown-right mode i budget best.0 best.1 (allows.solves best.1 (Some best.0) h.incumbent)

pub answered-typed : (mode : Mode) (i : Instance) (p : ProblemState) (log : LogState) → Allows mode i p log
    → (budget : ℕ) (answer : FoundCells) → IsRightAnswer p budget log answer → HasTypedValues (answer_from i.finds budget answer)
unfolding IsRightAnswer answer_from
answered-typed mode i p log allows budget (found.solution cells) h = (allows.solves cells None h.allowed).reads.typed
answered-typed mode i p log allows budget (found.optimum number cells) h = (allows.solves cells (Some number) h.allowed).reads.typed
answered-typed mode i p log allows budget found.no_solution h = tt
answered-typed mode i p log allows budget (found.unknown None) h = tt
answered-typed mode i p log allows budget (found.unknown (Some best)) h = (allows.solves best.1 (Some best.0) h.incumbent).reads.typed
