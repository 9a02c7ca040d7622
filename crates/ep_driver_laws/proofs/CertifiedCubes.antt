-- The text of a formula certifies what was answered by cubes.
use Rattle.std.proofs.Common.{◌≡◌, ◌+◌, ◌-◌, ◌≤◌, ℕ, List, [], ◌++◌, length, map, take, drop, refl, sym, ap, subst, ◌∙◌, arith, length-append}
use Rattle.std.proofs.Math.Seq.{drop-append_seam}
use Rattle.cnf_core.specs.Events.{LogState, Note, givens}
use Rattle.cnf_core.specs.Literal.{Literal}
use Rattle.cnf_core.specs.LogLines.{log_lines}
use Rattle.ep_divided.specs.Divided.{AreToldIn, IsLoggedByCubes, IsSpentInCube, ShowsInCubes}
use Rattle.ep_print.specs.Answers.{AnswerTree, no_solution, optimum, solution, unknown, unknown_with}
use Rattle.ep_solve.specs.Logged.{AreWanted, Stands, TellSolutions, added_clauses}
use Rattle.ep_tree.specs.Binding.{Instance}
use Rattle.ep_tree.specs.Solutions.{Found}
use Rattle.ep_tree.specs.declared.values.Mode.{Mode}
use Rattle.ep_unroll.specs.Cells.{found_numbers}
use Rattle.sat_search.specs.Logs.{EndsWithEmptyStep}
use Rattle.cnf_core.specs.Steps.{IsValidLog}
use Rattle.sat_split.specs.Cubes.{AreCubeVariables, cube_literals, unit_of}
use Rattle.sat_text.specs.CnfGrammar.{SpellsCnf}
use Rattle.ep_outputs.specs.Outputs.{IsFormulaText, IsStepsText, NotesUpTo}
use Rattle.ep_driver_laws.specs.Certificates.{CertifiesByCubes, CertifiesCube, CubesCertify, IsCertified, Verifies, own_clauses, read_added, read_notes}
use Rattle.ep_driver_laws.proofs.Certified.{AcceptsValid, VerifiesClosed, few_added, formula_certifies, givens_cut, own_givens, own_leave, steps_verify}

-- the clauses behind those that stand for the instance
added_givens : (log : LogState) → drop (length (givens log.events) - length (added_clauses log)) (givens log.events) ≡ added_clauses log
added_givens log =
    let own = givens (take log.base log.events) in
    let more = added_clauses log in
    let all : length (givens log.events) ≡ length own + length more = ap length (givens_cut log) ∙ length-append own more in
    let count : length (givens log.events) - length more ≡ length own = omega (arith, all) in
    ap (λ (n : ℕ). drop n (givens log.events)) count ∙ ap (λ (cs : List (List Literal)). drop (length own) cs) (givens_cut log) ∙ drop-append_seam own more

module _ (accepts : AcceptsValid) (verifies : VerifiesClosed) (mode : Mode) (i : Instance) (most conflicts : ℕ) (log : LogState) where
  whole : (closed : Type 0) → Stands mode i log → IsValidLog log.events → added_clauses log ≡ [] → (closed → EndsWithEmptyStep log.events) → (text : List ℕ) → IsFormulaText log text → IsCertified mode i log (λ found. Unit {0}) closed text
  whole closed stands valid none ends text t = record {
    certifies = formula_certifies mode i log (λ found. Unit {0}) text stands (own_leave mode i log stands none) t;
    verifies = λ steps s. steps_verify accepts verifies log closed ends text steps valid t s;
  }

  spent : (vars : List ℕ) → Stands mode i log → AreCubeVariables most (givens (take log.base log.events)) vars → IsSpentInCube mode i vars conflicts log → (text : List ℕ) → IsFormulaText log text → CertifiesCube mode i most log text
  spent vars stands are is text t =
      let again = t.again in
      let notes : log.notes ≡ read_notes text = sym again.same_notes in
      let count : length (added_clauses log) ≡ read_added text = sym again.same_number in
      let all = givens log.events in
      let base = givens (take log.base log.events) in
      let own : base ≡ own_clauses text all = sym (own_givens log) ∙ ap (λ (n : ℕ). take (length all - n) all) count in
      let literals = cube_literals is.cube vars in
      let Told : List Note → List (List Literal) → Found → Type 0 = λ ns cs f. AreToldIn i ns cs literals (found_numbers f) in
      record {
        vars = t.formula.vars;
        clauses = all;
        spelled = subst (λ (cs : List (List Literal)). SpellsCnf text t.formula.vars cs) t.clauses t.spells;
        noted = subst (NotesUpTo t.formula.vars) notes t.noted;
        few = subst (λ (n : ℕ). n ≤ length all) count (few_added log);
        cube_vars = vars;
        are = subst (λ (cs : List (List Literal)). AreCubeVariables most cs vars) own are;
        cube = is.cube;
        is_cube = is.is_cube;
        added = ap (λ (n : ℕ). drop (length all - n) all) (sym count) ∙ added_givens log ∙ is.added;
        stands = subst (λ (ns : List Note). TellSolutions mode i ns (own_clauses text all) (λ found. Unit {0})) notes
            (subst (λ (cs : List (List Literal)). TellSolutions mode i log.notes cs (λ found. Unit {0})) own stands.told);
        leaves = subst (λ (ns : List Note). TellSolutions mode i ns all (Told ns (own_clauses text all))) notes
            (subst (λ (cs : List (List Literal)). TellSolutions mode i log.notes all (Told log.notes cs)) own is.left);
        verifies = λ steps s. steps_verify accepts verifies log ⊥ (λ none. absurd none) text steps is.sound.valid t s;
      }

  by_cubes : (vars : List ℕ) (answer : AnswerTree) → Stands mode i log → IsValidLog log.events → AreCubeVariables most (givens (take log.base log.events)) vars → ShowsInCubes mode i vars conflicts log answer
      → (text : List ℕ) → IsFormulaText log text → CertifiesByCubes mode i most log answer text
  unfolding ShowsInCubes
  by_cubes vars (solution a) stands valid are shows text t = whole ⊥ stands valid shows.added (λ none. absurd none) text t
  by_cubes vars (optimum value a) stands valid are shows text t = absurd shows
  by_cubes vars no_solution stands valid are shows text t = whole (Unit {0}) stands valid shows.added (λ here. shows.ends) text t
  by_cubes vars (unknown count) stands valid are shows text t = spent vars stands are shows text t
  by_cubes vars (unknown_with count value a) stands valid are shows text t = absurd shows

pub cubes_certify : AcceptsValid → VerifiesClosed → CubesCertify
cubes_certify accepts verifies mode i most conflicts log answer d text t =
    by_cubes accepts verifies mode i most conflicts log d.vars answer d.stands d.valid d.are d.shows text t
