-- What a search in the problem of an instance's ground leaves in its log.
use Rattle.std.proofs.Common.{◌≡◌, ◌↔◌, ℕ, ℤ, Bool, true, List, [], ◌∷◌, ◌++◌, drop, length, take, map, Option, Some, None, refl, sym, ap, subst, ◌∙◌, arith}
use Rattle.std.specs.Prelude.{All}
use Rattle.std.proofs.Math.Seq.{take-append_seam}
use Rattle.std.proofs.lemmas.List.{append-nil, append_cancel_left, length-take, take-append-drop}
use Rattle.std.proofs.lemmas.List.Elements.{All-take}
use Rattle.cnf_core.specs.Clauses.{Satisfies, SatisfiesClause}
use Rattle.cnf_core.specs.Events.{HasBase, LogEvent, LogState, given, givens, is_given, step}
use Rattle.cnf_core.specs.Literal.{Literal}
use Rattle.enc_var.specs.Layouts.{GivesCells, decoded_cells, decoded_values}
use Rattle.enc_var.specs.Notes.{cell_notes}
use Rattle.ep_answer.proofs.Posing.{map_meant}
use Rattle.ep_answer.specs.Answered.{IsBetterThan, IsBudgetSpent, IsNumberWanted as IsCellWanted}
use Rattle.ep_answer.specs.Problems.{IsAllowed, MapMeans, ProblemState, base_clauses}
use Rattle.ep_flat.specs.Flats.{MapsCells, objective_number}
use Rattle.ep_ground.specs.declared.cells.Cell.{Cell}
use Rattle.ep_tree.specs.Binding.{Instance}
use Rattle.ep_tree.specs.Solutions.{Assigned, Found, IsSolution, found_of, goal_value}
use Rattle.ep_tree.specs.declared.values.Mode.{Mode}
use Rattle.ep_unroll.specs.Cells.{found_numbers, instance_cells}
use Rattle.ep_solve.specs.Logged.{AreWanted, IsBetterGoal, IsStillWanted, Stands, TellNumbers, TellSolutions, added_clauses, noted_value}
use Rattle.ep_solve.specs.Reading.{assignment_from}
use Rattle.ep_solve.proofs.Answering.{Allows, HasSense, ReadsSolution, same-some, stated-variable}
use Rattle.ep_solve.proofs.Solved.{SearchedFor, allows-after, own-clauses, same-base}
use Rattle.ep_solve.proofs.Telling.{as-many, notes-named, notes-tell}

-- ---- givens of the first events

pub givens-append : (before added : List LogEvent) → givens (before ++ added) ≡ givens before ++ givens added
givens-append [] added = refl
givens-append (given clause ∷ before) added = ap (λ cs. clause ∷ cs) (givens-append before added)
givens-append (step clause hints ∷ before) added = givens-append before added

-- what satisfies all givens satisfies those of the first events
pub narrower : (s : ℕ → Bool) (n : ℕ) (events : List LogEvent) → Satisfies s (givens events) → Satisfies s (givens (take n events))
narrower s n events met =
    let xs : List (List Literal) = givens (take n events) in
    let ys : List (List Literal) = givens (drop n events) in
    let same : givens events ≡ xs ++ ys = sym (ap givens (take-append-drop n events)) ∙ givens-append (take n events) (drop n events) in
    subst (Satisfies s) (take-append_seam xs ys) (All-take (SatisfiesClause s) (length xs) (xs ++ ys) (subst (Satisfies s) same met))

-- ---- solutions that clauses tell

-- What the search keeps of a problem: its log allows exactly the solutions of the instance, its notes are those of the instance's
-- cells, and under what satisfies its own clauses the literals of the map's variables mean what they say.
pub record Keeps (mode : Mode) (i : Instance) (p : ProblemState) (log : LogState) : Type 0 where
  pub allows : Allows mode i p log
  pub notes : log.notes ≡ cell_notes p.layout (instance_cells i) p.variables.cells
  pub maps : MapsCells (map (λ one. one.values) (instance_cells i)) (map (λ e. e.domain) p.layout) p.variables
  pub meaning : (s : ℕ → Bool) → Satisfies s (base_clauses log) → MapMeans s p.layout p.variables

-- under an assignment the notes tell the numbers that it gives the cells
pub told : (mode : Mode) (i : Instance) (p : ProblemState) (log : LogState) → Keeps mode i p log → (s : ℕ → Bool) → Satisfies s (base_clauses log)
    → TellNumbers s log.notes (instance_cells i) (decoded_cells p.layout p.variables s)
told mode i p log k s met =
    subst (λ notes. TellNumbers s notes (instance_cells i) (decoded_cells p.layout p.variables s)) (sym k.notes)
    (notes-tell s p.layout (instance_cells i) p.variables k.maps (k.meaning s met))

-- what is wanted of numbers of the cells and of an objective's number is what is wanted of a solution
abbrev pub Agree : Mode → Instance → (List ℤ → Option ℤ → Type 0) → (Found → Type 0) → Type 0
Agree mode i W V = (a : Assigned) (s : IsSolution mode i a) → W (found_numbers s.found) (goal_value mode i s.found) ↔ V s.found

-- numbers that solve are wanted where their solution is
pub are-wanted : (mode : Mode) (i : Instance) (numbers : List ℤ) (goal : Option ℤ) (W : List ℤ → Option ℤ → Type 0) (V : Found → Type 0) → Agree mode i W V → ReadsSolution mode i numbers goal → W numbers goal → AreWanted mode i V numbers
are-wanted mode i numbers goal W V agree s want =
    let a : Assigned = assignment_from i.finds numbers in
    let same : s.solves.found ≡ found_of a = same-some s.solves.found (found_of a) (sym s.solves.fits.values ∙ s.reads.fits.values) in
    let are : found_numbers s.solves.found ≡ numbers = ap found_numbers same ∙ s.reads.numbers_are in
    record {
      assigned = a;
      solves = s.solves;
      numbers_are = are;
      is_wanted = (agree a s.solves).0 (subst (λ ns. W ns (goal_value mode i s.solves.found)) (sym are) (subst (W numbers) (sym (ap (goal_value mode i) same ∙ s.valued)) want));
    }

-- Clauses that hold under assignments of the problem's own clauses alone, and give the cells exactly the numbers that are allowed
-- and wanted, tell exactly the wanted solutions.
pub tell-solutions : (mode : Mode) (i : Instance) (p : ProblemState) (log : LogState) → Keeps mode i p log
    → (clauses : List (List Literal)) → ((s : ℕ → Bool) → Satisfies s clauses → Satisfies s (base_clauses log))
    → (W : List ℤ → Option ℤ → Type 0) (V : Found → Type 0) → Agree mode i W V
    → ((numbers : List ℤ) (goal : Option ℤ) → GivesCells p.layout p.variables clauses numbers goal ↔ (IsAllowed p log numbers goal × W numbers goal))
    → TellSolutions mode i log.notes clauses V
tell-solutions mode i p log k clauses own W V agree left = record {
  sound = λ s met.
      let numbers : List ℤ = decoded_cells p.layout p.variables s in
      let goal : Option ℤ = objective_number p.variables (decoded_values p.layout s) in
      let kept = (left numbers goal).0 (record { are_given = record { assignment = s; satisfies = met; gives = refl }; drives = refl }) in (
        numbers,
        told mode i p log k s (own s met),
        are-wanted mode i numbers goal W V agree (k.allows.solves numbers goal kept.0) kept.1,
      );
  complete = λ a solves want.
      let numbers : List ℤ = found_numbers solves.found in
      let goal : Option ℤ = goal_value mode i solves.found in
      let gives = (left numbers goal).1 (k.allows.allowed a solves, (agree a solves).1 want) in
      let s : ℕ → Bool = gives.are_given.assignment in
      record {
        assignment = s;
        satisfies = gives.are_given.satisfies;
        tell = subst (λ ns. TellNumbers s log.notes (instance_cells i) ns) gives.are_given.gives (told mode i p log k s (own s gives.are_given.satisfies));
      };
}

-- ---- what is better than the solution at hand

pub better-wanted : (i : Instance) (p : ProblemState) (best : ℤ) (goal : Option ℤ) → HasSense p i → IsBetterThan p best goal ↔ IsBetterGoal i best goal
better-wanted i p best goal senses = (
  λ h.
      let named = stated-variable i.goal p.variables.objective h.sense h.variable (sym senses) h.stated in
      record { sense = h.sense; e = named.0; number = h.number; stated = named.1; has_number = h.drives; better = h.better },
  λ h.
      let named = stated-variable p.variables.objective i.goal h.sense h.e senses h.stated in
      record { sense = h.sense; variable = named.0; number = h.number; stated = named.1; drives = h.has_number; better = h.better },
)

-- the objective's number in the solution at hand
abbrev pub best-of : Option (ℤ × List ℤ) → Option ℤ
best-of None = None
best-of (Some one) = Some one.0

still-wanted : (i : Instance) (p : ProblemState) (best : Option (ℤ × List ℤ)) (goal : Option ℤ) → HasSense p i → IsCellWanted p best goal ↔ IsStillWanted i (best-of best) goal
unfolding IsCellWanted IsStillWanted
still-wanted i p None goal senses = (λ h. tt, λ h. tt)
still-wanted i p (Some best) goal senses = better-wanted i p best.0 goal senses

-- ---- the log of a search

-- the givens of a log's base, and events that went on from it
log-base : (old new : LogState) → old.base ≡ length old.events → All (λ e. is_given e ≡ true) old.events → take (length old.events) new.events ≡ old.events → new.base ≡ old.base → HasBase new.events new.base
log-base old new whole all front base =
    let n : new.base ≡ length old.events = base ∙ whole in
    let P : List LogEvent → Type 0 = λ es. All (λ e. is_given e ≡ true) es in
    record {
      there = omega (arith, n, ap length front, length-take (length old.events) new.events);
      givens = subst P (sym (ap (λ k. take k new.events) n ∙ front)) all;
    }

pub kept : (mode : Mode) (i : Instance) → (h : SearchedFor mode i) → h.new.notes ≡ h.old.notes → Keeps mode i h.p h.new
kept mode i h notes = record {
  allows = allows-after mode i h.p h.old h.new h.closed h.poses h.front h.base;
  notes = notes ∙ h.poses.notes ∙ ap (λ (cs : List Cell). cell_notes h.p.layout cs h.p.variables.cells) h.poses.cells;
  maps = h.poses.stands.maps;
  meaning = λ s met.
      map_meant s h.p.layout h.p.variables (map (λ one. one.values) (instance_cells i)) h.poses.stands.maps
      (h.poses.stands.is_layout.meaning s
      (subst (Satisfies s) (same-base h.old h.new h.poses.is_base h.front h.base ∙ own-clauses mode i h.p h.old h.poses) met));
}

pub stands : (mode : Mode) (i : Instance) (h : SearchedFor mode i) → Keeps mode i h.p h.new → Stands mode i h.new
stands mode i h k = record {
  base = log-base h.old h.new h.poses.is_base h.poses.are_givens h.front h.base;
  notes = ap (map noted_value) k.notes ∙ notes-named h.p.layout (instance_cells i) h.p.variables.cells (as-many (instance_cells i) (map (λ e. e.domain) h.p.layout) h.p.variables k.maps);
  told = tell-solutions mode i h.p h.new k (base_clauses h.new) (λ s met. met) (λ numbers goal. Unit {0}) (λ found. Unit {0}) (λ a s. (λ x. tt, λ x. tt)) (λ numbers goal. (λ gives. (gives, tt), λ both. both.0));
}

pub leaves : (mode : Mode) (i : Instance) (p : ProblemState) (budget : ℕ) (log : LogState) (best : Option (ℤ × List ℤ)) → Keeps mode i p log → HasSense p i
    → IsBudgetSpent p budget log best → TellSolutions mode i log.notes (givens log.events) (λ found. IsStillWanted i (best-of best) (goal_value mode i found))
leaves mode i p budget log best k senses spent =
    tell-solutions mode i p log k (givens log.events) (λ s met. narrower s log.base log.events met)
    (λ numbers goal. IsStillWanted i (best-of best) goal) (λ found. IsStillWanted i (best-of best) (goal_value mode i found)) (λ a s. (λ x. x, λ x. x)) (λ numbers goal. (
      λ gives. let h = (spent.left numbers goal).0 gives in (h.0, (still-wanted i p best goal senses).0 h.1),
      λ both. (spent.left numbers goal).1 (both.0, (still-wanted i p best goal senses).1 both.1),
    ))

-- where no given was added to the log of a search, none stands behind its base
pub none-added : (old new : LogState) → old.base ≡ length old.events → take (length old.events) new.events ≡ old.events → new.base ≡ old.base → givens new.events ≡ givens old.events → added_clauses new ≡ []
none-added old new whole front base same =
    let n : new.base ≡ length old.events = base ∙ whole in
    let added : List (List Literal) = givens (drop (length old.events) new.events) in
    let all : givens new.events ≡ givens old.events ++ added =
    sym (ap givens (take-append-drop (length old.events) new.events)) ∙ givens-append (take (length old.events) new.events) (drop (length old.events) new.events)
    ∙ ap (λ es. givens es ++ added) front in
    ap (λ k. givens (drop k new.events)) n ∙ append_cancel_left (givens old.events) added [] (sym all ∙ same ∙ sym (append-nil (givens old.events)))
