-- A problem that poses a pseudo-Boolean one: a search may begin, and what it allows are the solutions.
use Rattle.std.proofs.Common.{◌≡◌, ℕ, ℤ, Bool, true, List, [], ◌∷◌, Option, None, Some, map, refl, sym, ap, subst, ◌∙◌}
use Rattle.std.specs.Prelude.{option_map, unwrap_or}
use Rattle.std.specs.List.{All}
use Rattle.std.proofs.lemmas.Bool.{false≢true}
use Rattle.std.proofs.lemmas.List.Elements.{All-head, All-tail}
use Rattle.cnf_core.specs.Clauses.{Satisfies}
use Rattle.cnf_core.specs.Events.{LogEvent, LogState, clauses_of, given, givens, is_given, step}
use Rattle.cnf_core.specs.Steps.{IsConsistent}
use Rattle.ep_answer.proofs.Posing.{map_meant}
use Rattle.ep_answer.specs.Problems.{CanSearch, IsAllowed, MapMeans, ProblemState, base_clauses}
use Rattle.ep_flat.specs.Flats.{MapsCells}
use Rattle.ep_ground.specs.declared.cells.Cell.{Cell}
use Rattle.opb_solve.proofs.Agreeing.{same_total, truths_again}
use Rattle.opb_solve.specs.Meant.{AreCellsOf, AreSolved, PosesOpb, goal_number, numbers_in}
use Rattle.opb_solve.proofs.NamedTerms.{named_goal}
use Rattle.opb_text.specs.Contents.{OpbContent}
use Rattle.opb_text.specs.Flats.{truth_domains, truth_numbers, truths_of}
use Rattle.opb_text.specs.Solutions.{IsOpbSolution, terms_total}
use Rattle.opb_text.specs.Sums.{AreNamed}
use Rattle.opb_text.specs.Weights.{AreVariablesOf}
use Rattle.opb_text.specs.declared.content.OpbTerm.{OpbTerm}

-- the clauses of givens are the givens
all_given : (events : List LogEvent) → All (λ e. is_given e ≡ true) events → clauses_of events ≡ givens events
all_given [] h = refl
all_given (given clause ∷ events) h = ap (λ cs. clause ∷ cs) (all_given events (All-tail (λ e. is_given e ≡ true) (given clause) events h))
all_given (step clause hints ∷ events) h = absurd (false≢true (All-head (λ e. is_given e ≡ true) (step clause hints) events h))

-- the cells of variables have the numbers 0 and 1
pub cell_values : (vars : List ℕ) (ones : List Cell) → AreCellsOf vars ones → map (λ (one : Cell). one.values) ones ≡ truth_domains vars
cell_values [] [] are = refl
cell_values [] (one ∷ ones) are = absurd are
cell_values (x ∷ vars) [] are = absurd are
cell_values (x ∷ vars) (one ∷ ones) are = ap (λ vs. vs ∷ map (λ (c : Cell). c.values) ones) are.0.values ∙ ap (λ vs. truth_numbers ∷ vs) (cell_values vars ones are.1)

pub maps_posed : (content : OpbContent) (vars : List ℕ) (p : ProblemState) (log : LogState) → PosesOpb content vars p log → MapsCells (map (λ one. one.values) p.cells) (map (λ e. e.domain) p.layout) p.variables
maps_posed content vars p log h = subst (λ ds. MapsCells ds (map (λ e. e.domain) p.layout) p.variables) (sym (cell_values vars p.cells h.cells)) h.stands.maps

pub meant_posed : (content : OpbContent) (vars : List ℕ) (p : ProblemState) (log : LogState) (s : ℕ → Bool) → PosesOpb content vars p log → Satisfies s (givens log.events) → MapMeans s p.layout p.variables
meant_posed content vars p log s h met =
    map_meant s p.layout p.variables (truth_domains vars) h.stands.maps (h.stands.is_layout.meaning s (subst (Satisfies s) h.givens_are met))

pub can_search : (content : OpbContent) (vars : List ℕ) (p : ProblemState) (log : LogState) → PosesOpb content vars p log → CanSearch p log
can_search content vars p log h = record {
  is_whole = h.is_whole;
  are_givens = h.are_givens;
  is_base = h.is_base;
  notes = h.notes;
  consistent = subst (All IsConsistent) (sym (all_given log.events h.are_givens ∙ h.givens_are)) h.stands.consistent;
  clauses = h.clauses;
  maps = maps_posed content vars p log h;
  meaning = λ s met. meant_posed content vars p log s h met;
}

-- ---- what is allowed

-- a problem's log allows exactly the numbers of the variables in the solutions, each with the objective's number
pub record AllowsOpb (content : OpbContent) (vars : List ℕ) (p : ProblemState) (log : LogState) : Type 0 where
  pub solves : (numbers : List ℤ) (goal : Option ℤ) → IsAllowed p log numbers goal → AreSolved content vars numbers goal
  pub allowed : (truths : ℕ → Bool) → IsOpbSolution content truths → IsAllowed p log (numbers_in vars truths) (goal_number content truths)

-- the objective's number is that of the truth values, read back from the numbers
goal_again : (content : OpbContent) (vars : List ℕ) (truths : ℕ → Bool) → AreVariablesOf content vars → goal_number content (truths_of vars (numbers_in vars truths)) ≡ goal_number content truths
goal_again content vars truths are = by content.objective refl
  where
    by : (o : Option (List OpbTerm)) → content.objective ≡ o
        → option_map (λ terms. terms_total (truths_of vars (numbers_in vars truths)) terms) o ≡ option_map (λ terms. terms_total truths terms) o
    by None e = refl
    by (Some terms) e =
        let named : AreNamed vars terms = subst (λ (o : Option (List OpbTerm)). AreNamed vars (unwrap_or o [])) e (named_goal content vars are) in
        ap (λ (n : ℤ). Some n) (same_total vars terms (truths_of vars (numbers_in vars truths)) truths named (truths_again vars truths))

pub allows : (content : OpbContent) (vars : List ℕ) (p : ProblemState) (old new : LogState) → AreVariablesOf content vars → PosesOpb content vars p old → base_clauses new ≡ givens old.events → AllowsOpb content vars p new
allows content vars p old new are h same = record {
  solves = λ numbers goal allowed.
      let s : ℕ → Bool = allowed.are_given.assignment in
      let met : Satisfies s h.formula.clauses = subst (Satisfies s) (same ∙ h.givens_are) allowed.are_given.satisfies in
      subst (λ (ns : List ℤ). AreSolved content vars ns goal) allowed.are_given.gives
      (subst (AreSolved content vars _) allowed.drives (h.stands.sound s met));
  allowed = λ truths solution.
      let are_given = h.stands.complete truths solution in
      let s : ℕ → Bool = are_given.assignment in
      record {
        are_given = record { assignment = s; satisfies = subst (Satisfies s) (sym (same ∙ h.givens_are)) are_given.satisfies; gives = are_given.gives };
        drives =
            (h.stands.sound s are_given.satisfies).valued
            ∙ ap (λ (ns : List ℤ). goal_number content (truths_of vars ns)) are_given.gives
            ∙ goal_again content vars truths are;
      };
}
