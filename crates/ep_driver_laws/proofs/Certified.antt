-- The text of a log's formula certifies the instance that the log stands for, and the text of its steps is verified beside it.
use Rattle.std.proofs.Common.{◌≡◌, ◌≤◌, ◌+◌, ◌-◌, ℕ, suc, ℤ, List, [], ◌∷◌, ◌++◌, length, take, drop, Some, None, refl, sym, ap, subst, ◌∙◌, arith, length-append}
use Rattle.std.specs.Prelude.{slice_get}
use Rattle.std.specs.List.{AllZip}
use Rattle.std.proofs.Math.Seq.{take-append_seam}
use Rattle.std.proofs.lemmas.List.{append-nil, take_all, take-append-drop}
use Rattle.cnf_core.specs.Events.{LogEvent, LogState, Note, given, givens, step}
use Rattle.cnf_core.specs.Literal.{Literal}
use Rattle.cnf_core.specs.LogLines.{log_lines}
use Rattle.cnf_core.specs.Steps.{IsValidLog}
use Rattle.ep_print.specs.Answers.{AnswerTree, no_solution, optimum, solution, unknown, unknown_with}
use Rattle.ep_print.specs.Listings.{EndTree, complete, spent, stopped}
use Rattle.ep_solve.specs.Listed.{EndsRightly, IsUnlisted}
use Rattle.ep_solve.specs.Logged.{IsBetterSolution, IsDrivenTo, IsStillWanted, SaysOfSolutions, ShowsAnswer, Stands, TellSolutions, added_clauses, first_givens}
use Rattle.ep_tree.specs.Binding.{Instance}
use Rattle.ep_tree.specs.Solutions.{Assigned, Found}
use Rattle.ep_tree.specs.declared.values.Mode.{Mode}
use Rattle.log_check.specs.Verdict.{first_bad, verdict_of}
use Rattle.log_check.specs.declared.Verdict.TheVariants.{Verified}
use Rattle.sat_search.specs.Logs.{EndsWithEmptyStep}
use Rattle.sat_text.specs.CnfGrammar.{SpellsCnf}
use Rattle.ep_outputs.specs.Outputs.{IsFormulaText, IsStepsText, NotesUpTo}
use Rattle.ep_driver_laws.specs.Certificates.{AnswersCertify, Certifies, ListsCertify, Verifies, closes, closes_list, left_of_answer, read_added, read_notes}

-- ---- givens

givens_joined : (one other : List LogEvent) → givens (one ++ other) ≡ givens one ++ givens other
givens_joined [] other = refl
givens_joined (given clause ∷ one) other = ap (λ (cs : List (List Literal)). clause ∷ cs) (givens_joined one other)
givens_joined (step clause hints ∷ one) other = givens_joined one other

pub givens_cut : (log : LogState) → givens log.events ≡ givens (take log.base log.events) ++ added_clauses log
givens_cut log = ap givens (sym (take-append-drop log.base log.events)) ∙ givens_joined (take log.base log.events) (drop log.base log.events)

pub own_givens : (log : LogState) → take (length (givens log.events) - length (added_clauses log)) (givens log.events) ≡ givens (take log.base log.events)
own_givens log =
    let own = givens (take log.base log.events) in
    let more = added_clauses log in
    let all : length (givens log.events) ≡ length own + length more = ap length (givens_cut log) ∙ length-append own more in
    let count : length (givens log.events) - length more ≡ length own = omega (arith, all) in
    ap (λ (n : ℕ). take n (givens log.events)) count ∙ ap (λ (cs : List (List Literal)). take (length own) cs) (givens_cut log) ∙ take-append_seam own more

pub few_added : (log : LogState) → length (added_clauses log) ≤ length (givens log.events)
few_added log =
    let all : length (givens log.events) ≡ length (givens (take log.base log.events)) + length (added_clauses log) = ap length (givens_cut log) ∙ length-append (givens (take log.base log.events)) (added_clauses log) in
    omega (arith, all)

none_added : (log : LogState) → added_clauses log ≡ [] → givens (take log.base log.events) ≡ givens log.events
none_added log none = sym (givens_cut log ∙ ap (λ (cs : List (List Literal)). givens (take log.base log.events) ++ cs) none ∙ append-nil (givens (take log.base log.events)))

-- ---- what is left

as_many : {X Y : Type 0} (R : X → Y → Type 0) (xs : List X) (ys : List Y) → AllZip R xs ys → length xs ≡ length ys
as_many R [] [] h = refl
as_many R [] (y ∷ ys) h = absurd h
as_many R (x ∷ xs) [] h = absurd h
as_many R (x ∷ xs) (y ∷ ys) h = ap suc (as_many R xs ys h.1)

has_last : (numbers : List ℤ) (value : ℤ) → slice_get numbers (length numbers - 1) ≡ Some value → length numbers - 1 + 1 ≡ length numbers
has_last [] value e = absurd cc
has_last (n ∷ numbers) value e = omega arith

driven_leaves : (mode : Mode) (i : Instance) (log : LogState) (value : ℤ) → IsDrivenTo mode i log value → TellSolutions mode i log.notes (givens log.events) (IsBetterSolution mode i value)
driven_leaves mode i log value driven =
    let added = added_clauses log in
    let many : length driven.numbers ≡ length added = as_many (λ number. SaysOfSolutions mode i log (IsBetterSolution mode i number)) driven.numbers added driven.said in
    let count : length driven.numbers - 1 + 1 ≡ length added = has_last driven.numbers value driven.last ∙ many in
    let first : first_givens log (length driven.numbers - 1 + 1) ≡ givens log.events
    = ap (λ (n : ℕ). first_givens log n) count ∙ ap (λ (cs : List (List Literal)). givens (take log.base log.events) ++ cs) (take_all (length added) added (omega arith)) ∙ sym (givens_cut log) in
    subst (λ (cs : List (List Literal)). TellSolutions mode i log.notes cs (IsBetterSolution mode i value)) first (driven.narrows (length driven.numbers - 1) value driven.last)

pub own_leave : (mode : Mode) (i : Instance) (log : LogState) → Stands mode i log → added_clauses log ≡ [] → TellSolutions mode i log.notes (givens log.events) (λ found. Unit {0})
own_leave mode i log stands none = subst (λ (cs : List (List Literal)). TellSolutions mode i log.notes cs (λ found. Unit {0})) (none_added log none) stands.told

answer_leaves : (mode : Mode) (i : Instance) (conflicts : ℕ) (log : LogState) (answer : AnswerTree) → Stands mode i log → ShowsAnswer mode i conflicts log answer → TellSolutions mode i log.notes (givens log.events) (left_of_answer mode i answer)
unfolding ShowsAnswer IsStillWanted
answer_leaves mode i conflicts log (solution a) stands shows = own_leave mode i log stands shows
answer_leaves mode i conflicts log (optimum value a) stands shows = driven_leaves mode i log value shows.1
answer_leaves mode i conflicts log no_solution stands shows = own_leave mode i log stands shows.1
answer_leaves mode i conflicts log (unknown count) stands shows = own_leave mode i log stands shows.1
answer_leaves mode i conflicts log (unknown_with count value a) stands shows = shows.2

-- ---- the texts

-- the laws of valid logs
abbrev pub AcceptsValid : Type 0
AcceptsValid = (events : List LogEvent) → IsValidLog events → first_bad (givens events) [] (log_lines events) ≡ None

abbrev pub VerifiesClosed : Type 0
VerifiesClosed =
    (before : List LogEvent) (hints : List ℕ) → IsValidLog (before ++ step [] hints ∷ [])
    → verdict_of (givens (before ++ step [] hints ∷ [])) (log_lines (before ++ step [] hints ∷ [])) ≡ Verified

closed_verified : VerifiesClosed → (events : List LogEvent) → IsValidLog events → EndsWithEmptyStep events → verdict_of (givens events) (log_lines events) ≡ Verified
closed_verified law events valid ends =
    subst (λ (es : List LogEvent). verdict_of (givens es) (log_lines es) ≡ Verified) (sym ends.events_are) (law ends.before ends.hints (subst IsValidLog ends.events_are valid))

pub formula_certifies : (mode : Mode) (i : Instance) (log : LogState) (left : Found → Type 0) (text : List ℕ) → Stands mode i log → TellSolutions mode i log.notes (givens log.events) left
    → IsFormulaText log text → Certifies mode i left text
formula_certifies mode i log left text stands leaves t =
    let again = t.again in
    let notes : log.notes ≡ read_notes text = sym again.same_notes in
    let added : length (added_clauses log) ≡ read_added text = sym again.same_number in
    let own : givens (take log.base log.events) ≡ take (length (givens log.events) - read_added text) (givens log.events)
    = sym (own_givens log) ∙ ap (λ (n : ℕ). take (length (givens log.events) - n) (givens log.events)) added in
    record {
      vars = t.formula.vars;
      clauses = givens log.events;
      spelled = subst (λ (cs : List (List Literal)). SpellsCnf text t.formula.vars cs) t.clauses t.spells;
      noted = subst (NotesUpTo t.formula.vars) notes t.noted;
      few = subst (λ (n : ℕ). n ≤ length (givens log.events)) added (few_added log);
      stands = subst (λ (ns : List Note). TellSolutions mode i ns (take (length (givens log.events) - read_added text) (givens log.events)) (λ found. Unit {0})) notes
          (subst (λ (cs : List (List Literal)). TellSolutions mode i log.notes cs (λ found. Unit {0})) own stands.told);
      leaves = subst (λ (ns : List Note). TellSolutions mode i ns (givens log.events) left) notes leaves;
    }

pub steps_verify : AcceptsValid → VerifiesClosed → (log : LogState) (closed : Type 0) → (closed → EndsWithEmptyStep log.events) → (text steps : List ℕ) → IsValidLog log.events
    → IsFormulaText log text → IsStepsText log steps → Verifies text steps closed
steps_verify accepts verifies log closed ends text steps valid t s = record {
  vars = t.formula.vars;
  clauses = givens log.events;
  lines = log_lines log.events;
  spelled = subst (λ (cs : List (List Literal)). SpellsCnf text t.formula.vars cs) t.clauses t.spells;
  said = s.spells;
  accepted = accepts log.events valid;
  verified = λ here. closed_verified verifies log.events valid (ends here);
}

answer_closes : (mode : Mode) (i : Instance) (conflicts : ℕ) (log : LogState) (answer : AnswerTree) → ShowsAnswer mode i conflicts log answer → closes answer → EndsWithEmptyStep log.events
unfolding ShowsAnswer
answer_closes mode i conflicts log (solution a) shows here = absurd here
answer_closes mode i conflicts log (optimum value a) shows here = shows.0
answer_closes mode i conflicts log no_solution shows here = shows.0
answer_closes mode i conflicts log (unknown count) shows here = absurd here
answer_closes mode i conflicts log (unknown_with count value a) shows here = absurd here

list_closes : (mode : Mode) (i : Instance) (conflicts most : ℕ) (log : LogState) (listed : List Assigned) (ending : EndTree) → EndsRightly mode i conflicts most log listed ending → closes_list ending → EndsWithEmptyStep log.events
unfolding EndsRightly
list_closes mode i conflicts most log listed complete ends here = ends.2
list_closes mode i conflicts most log listed stopped ends here = absurd here
list_closes mode i conflicts most log listed (spent n) ends here = absurd here

pub answers_certify : AcceptsValid → VerifiesClosed → AnswersCertify
answers_certify accepts verifies mode i conflicts log answer logged text t = record {
  certifies = formula_certifies mode i log (left_of_answer mode i answer) text logged.stands (answer_leaves mode i conflicts log answer logged.stands logged.shows) t;
  verifies = λ steps s. steps_verify accepts verifies log (closes answer) (answer_closes mode i conflicts log answer logged.shows) text steps logged.sound.valid t s;
}

pub lists_certify : AcceptsValid → VerifiesClosed → ListsCertify
lists_certify accepts verifies mode i most conflicts log listing lists text t = (
  record {
    certifies = formula_certifies mode i log (IsUnlisted listing.found) text lists.stands lists.left t;
    verifies = λ steps s. steps_verify accepts verifies log (closes_list listing.ending) (list_closes mode i conflicts most log listing.found listing.ending lists.ends) text steps lists.sound.valid t s;
  },
  t.again.same_number ∙ lists.added,
)
