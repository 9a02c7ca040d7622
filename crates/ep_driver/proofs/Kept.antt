-- What settles the task that words ask for is what a run promises.
use Rattle.std.proofs.Common.{◌≡◌, ◌∙◌, ℕ, ℤ, ◌⊎◌, Bool, true, false, List, [], ◌∷◌, Option, Some, None, Ok, Err, Result, IfSome, inl, inr, refl, sym, ap, subst}
use Rattle.cnf_core.specs.Events.{LogState}
use Rattle.cnf_core.specs.Lines.{ProofLine}
use Rattle.cnf_core.specs.Literal.{Literal}
use Rattle.ep_base.proofs.Small.{some_is}
use Rattle.ep_base.specs.Outside.{Held}
use Rattle.ep_base.specs.declared.names.Name.{Name}
use Rattle.ep_print.specs.Answers.{AnswerTree, no_solution, optimum, solution, unknown, unknown_with}
use Rattle.ep_print.specs.Listings.{EndTree, complete, spent, stopped}
use Rattle.ep_print.specs.declared.refusals.Refusal.{Refusal}
use Rattle.ep_print.specs.declared.refusals.TextFile.{TextFile}
use Rattle.ep_promise.proofs.Made.{known_as_bound, made_as_bound}
use Rattle.ep_promise.specs.Promise.{GivesAssignment, IsSolutionOf, IsTrueOf, LacksNone, SpellsGiven}
use Rattle.ep_solve.specs.Listed.{EndsRightly}
use Rattle.ep_solve.specs.Right.{HasGoal, IsRight}
use Rattle.ep_tree.specs.Binding.{Instance, Refusal as BindRefusal, and_next, bind, bind_params, solution_text}
use Rattle.ep_tree.specs.Faults.{lettings_of, params_faults, text_faults}
use Rattle.ep_tree.specs.Names.{nothing_known}
use Rattle.ep_tree.specs.SolutionTexts.{Shaped, fits, read_solution, shaped, shaped_by, with_lettings, wrong_shape}
use Rattle.ep_tree.specs.Solutions.{Assigned, Found, IsSolution, IsWritten, a_solution, goal_value, has_goal_value, judged_by, judgement, violated}
use Rattle.ep_tree.specs.Statements.{TextTree}
use Rattle.ep_tree.specs.Texts.{Answers, SpellsText, TextAnswer, bad_byte, long_number, read_as, syntax_fault, too_high, too_long}
use Rattle.ep_tree.specs.declared.values.Mode.{Mode}
use Rattle.log_check.proofs.Verified.{verified_has_no_solution}
use Rattle.log_check.specs.Verdict.{verdict_of}
use Rattle.log_check.specs.declared.Verdict.{Verdict}
use Rattle.log_check.specs.declared.Verdict.TheVariants.{Verified, BadStep, NoEmptyClause}
use Rattle.sat_text.specs.CnfGrammar.{SpellsCnf}
use Rattle.ep_driver.specs.Answers.{Settles, judgement_status, verdict_status}
use Rattle.ep_said.specs.Judgements.{judgement_text}
use Rattle.ep_said.specs.Verdicts.{verdict_text}
use Rattle.ep_driver.specs.Commands.{Want}
use Rattle.ep_driver.specs.Outcomes.{Outcome, Task, as_outcome, fault_refusals, instance_of, search_outcome, searched_task, to_check, to_judge, to_solve_opb, verify_outcome}
use Rattle.ep_driver.specs.Promised.{FilesMake, HoldsGiven, IsPromised}
use Rattle.ep_files.specs.Readings.{AreParams, IsFormulaReadAs, IsHeldReadBy, IsFileReadAs, IsProofReadAs, IsReadBy, IsTextReadAs, SpellsFormulaClauses, spells_in, tree_or_refusal}
use Rattle.ep_driver.specs.Shown.{Ask, ComesTo, IsOpbTextReadAs, ThenShows, comes_to_check, comes_to_judge, comes_to_search, comes_to_verify, is_opb_task}
use Rattle.ep_files.specs.declared.status.Status.{Status}
use Rattle.ep_driver.specs.declared.wanted.Request.{Request}
use Rattle.ep_driver.specs.declared.wanted.Wanted.{Wanted}
use Rattle.opb_text.specs.Contents.{OpbContent}
use Rattle.opb_text.specs.Grammar.{SpellsOpb}
use Rattle.ep_driver.proofs.Explanations.{explanation_true}
use Rattle.ep_driver.proofs.Outcomes.{as_ok, bound_ok, never_refused, ok_is, then_ok, unless_ok}

-- ---- what was read

next_ok : {A B : Type 0} (bound : Result A (List BindRefusal)) (next : A → Result B (List BindRefusal)) (y : B) → and_next bound next ≡ Ok y → (x : A) × (bound ≡ Ok x) × (next x ≡ Ok y)
unfolding and_next
next_ok (Ok x) next y e = (x, refl, e)
next_ok (Err rs) next y e = never_refused (sym e)

read_ok : {A : Type 0} (reads : Result A Refusal → Type 0) (next : A → Outcome Task → Type 0) (task : Task) → ThenShows reads next (Ok task) → (x : A) × reads (Ok x) × next x (Ok task)
read_ok reads next task (inl shown) = shown
read_ok reads next task (inr refused) = never_refused refused.2

spelled_by : (file : TextFile) (text : List ℕ) (tree : TextTree) (answer : TextAnswer) → Answers (spells_in file) text answer → Ok tree ≡ tree_or_refusal file answer → SpellsText (spells_in file) tree text
unfolding tree_or_refusal
spelled_by file text tree (read_as own) read e =
    subst (λ t. SpellsText (spells_in file) t text) (sym (ok_is e)) (record { tokens = read.tokens; found = read.found; spelled = read.reads.spelled })
spelled_by file text tree too_long read e = never_refused e
spelled_by file text tree (bad_byte p) read e = never_refused e
spelled_by file text tree (long_number p) read e = never_refused e
spelled_by file text tree (syntax_fault p) read e = never_refused e
spelled_by file text tree (too_high p) read e = never_refused e

held_spells : (file : TextFile) (name : List ℕ) (told : Option (List ℕ)) (tree : TextTree) → IsHeldReadBy (IsTextReadAs file) name told (Ok tree) → (text : List ℕ) × (told ≡ Some text) × SpellsText (spells_in file) tree text
held_spells file name None tree read = never_refused read
held_spells file name (Some text) tree read = (text, refl, spelled_by file text tree read.0 read.1 read.2)

given_spells : (held : Held) (params : Option (List ℕ)) (tree : TextTree) → AreParams held params (Ok tree) → (given : Option (List ℕ)) × HoldsGiven held params given × SpellsGiven given tree
given_spells held None tree read = (None, refl, ok_is read)
given_spells held (Some name) tree read =
    let one : _ = held_spells TextFile.Params name (held name) tree read in
    (Some one.0, (one.0, one.1, refl), one.2)

files_make : (held : Held) (mode : Mode) (model : List ℕ) (params : Option (List ℕ)) (m p : TextTree) (i : Instance) → IsFileReadAs held TextFile.Model model (Ok m) → AreParams held params (Ok p) → bind mode m p ≡ Ok i → FilesMake held mode model params i
files_make held mode model params m p i read given bound =
    let one : _ = held_spells TextFile.Model model (held model) m read in
    let other : _ = given_spells held params p given in
    record {
      text = one.0;
      given = other.0;
      model_held = one.1;
      params_held = other.1;
      make = record { model_tree = m; params_tree = p; model_spelled = one.2; params_spelled = other.2; made = made_as_bound mode m p i bound };
    }

-- ---- the instance

searched_ok : (mode : Mode) (q : Request) (m p : TextTree) (task : Task) → Ok task ≡ search_outcome mode q m p → (i : Instance) × (bind mode m p ≡ Ok i) × (searched_task mode q i ≡ task)
unfolding search_outcome
searched_ok mode q m p task e =
    let it : _ = then_ok (instance_of mode m p) _ task (unless_ok (fault_refusals TextFile.Params (params_faults p)) _ task (unless_ok (fault_refusals TextFile.Model (text_faults m)) _ task (sym e))) in
    (it.0, bound_ok mode m p it.0 it.1, ok_is it.2)

judged_ok : (mode : Mode) (m p s : TextTree) (task : Task) → Ok task ≡ verify_outcome mode m p s
    → (i : Instance) × (bind mode m p ≡ Ok i) × (shape : Shaped) × (read_solution mode i s ≡ Ok shape) × (to_judge mode i shape ≡ task)
unfolding verify_outcome
judged_ok mode m p s task e =
    let it : _ = then_ok (instance_of mode m p) _ task
    (unless_ok (fault_refusals TextFile.Solution (params_faults s)) _ task
    (unless_ok (fault_refusals TextFile.Params (params_faults p)) _ task
    (unless_ok (fault_refusals TextFile.Model (text_faults m)) _ task (sym e)))) in
    let shape : _ = then_ok (as_outcome (read_solution mode it.0 s)) _ task it.2 in
    (it.0, bound_ok mode m p it.0 it.1, shape.0, as_ok (read_solution mode it.0 s) shape.0 shape.1, ok_is shape.2)

-- ---- answers

valued : (mode : Mode) (i : Instance) (a : Assigned) (value : ℤ) → IsWritten i a → IsSolution mode i a → HasGoal mode i a value → IsSolutionOf mode i a (Some value)
valued mode i a value written solves goal =
    record { solution = solves; valued = ap (goal_value mode i) (some_is (sym solves.fits.values ∙ written)) ∙ goal }

answer_true : (mode : Mode) (i : Instance) (budget : ℕ) (answer : AnswerTree) → IsRight mode i budget answer → IsTrueOf mode i answer
unfolding IsRight IsTrueOf
answer_true mode i budget (solution a) right = right
answer_true mode i budget (optimum value a) right = (right.0, right.1, valued mode i a value right.0 right.1.solution right.2)
answer_true mode i budget no_solution right = right
answer_true mode i budget (unknown conflicts) right = tt
answer_true mode i budget (unknown_with conflicts value a) right = (right.1, valued mode i a value right.1 right.2 right.3)

none_lacks : (mode : Mode) (i : Instance) (budget most : ℕ) (log : LogState) (listed : List Assigned) (ending : EndTree) → EndsRightly mode i budget most log listed ending → LacksNone mode i listed ending
unfolding EndsRightly LacksNone
none_lacks mode i budget most log listed complete ends = ends.1
none_lacks mode i budget most log listed stopped ends = tt
none_lacks mode i budget most log listed (spent conflicts) ends = tt

-- the run didn't refute
abbrev pub IsDecided : Status → Type 0
IsDecided status = (status ≡ Status.Answered) ⊎ (status ≡ Status.Unknown)

not_refuted : {B : Type 0} (status : Status) → IsDecided status → status ≡ Status.Refuted → B
not_refuted status (inl e) refuted = let wrong : Status.Answered ≡ Status.Refuted = sym e ∙ refuted in absurd cc
not_refuted status (inr e) refuted = let wrong : Status.Unknown ≡ Status.Refuted = sym e ∙ refuted in absurd cc

judged_by_is : (number : Option ℕ) (measured : Bool) (goal : Option ℤ) (status : Status) → status ≡ judgement_status (judged_by number measured goal) → IsDecided status → (number ≡ None) × (measured ≡ true)
unfolding judged_by judgement_status
judged_by_is (Some n) measured goal status e h = not_refuted status h e
judged_by_is None false goal status e h = not_refuted status h e
judged_by_is None true goal status e h = (refl, refl)

shape_fits : (names : List Name) (own a : Assigned) → shaped names own ≡ fits a → own ≡ a
unfolding shaped
shape_fits [] own a e = cc
shape_fits (name ∷ names) own a e = absurd cc

gives : (mode : Mode) (i : Instance) (s : TextTree) (text : List ℕ) (a : Assigned) → SpellsText (spells_in TextFile.Solution) s text → read_solution mode i s ≡ Ok (fits a) → GivesAssignment mode i text a
unfolding read_solution shaped_by
gives mode i s text a spelled e =
    let it : _ = next_ok (bind_params mode solution_text nothing_known (lettings_of s)) _ (fits a) e in
    record {
      tree = s;
      spelled = spelled;
      known = it.0;
      told = known_as_bound mode solution_text s it.0 it.1;
      assigned = shape_fits _ (with_lettings it.0 i.finds) a (ok_is it.2);
    }

-- ---- tasks

search_true : (held : Held) (mode : Mode) (q : Request) (model : List ℕ) (params : Option (List ℕ)) (outputs : _) (i : Instance) (status : Status) (text : List ℕ) (log : LogState)
    → FilesMake held mode model params i → Settles (searched_task mode q i) status text log → IsPromised held (Wanted.Search model params mode q outputs) status text
unfolding IsPromised Settles searched_task
search_true held mode (Request.One conflicts) model params outputs i status text log make h = (i, make, h.0, answer_true mode i conflicts h.0 h.1, h.3, h.4)
search_true held mode (Request.Divided cubes conflicts) model params outputs i status text log make h = (i, make, h.0, answer_true mode i conflicts h.0 h.1, h.3, h.4)
search_true held mode (Request.Many most conflicts) model params outputs i status text log make h =
    (i, make, h.0, record { solutions = h.1.solutions; different = h.1.different; none_lacks = none_lacks mode i conflicts most log h.0.found h.0.ending h.1.ends }, h.2, h.3)
search_true held mode (Request.Explained conflicts) model params outputs i status text log make h = (i, make, explanation_true mode i conflicts status text log h.0 h.1 h.3 h.4)
search_true held mode (Request.Generated number conflicts) model params outputs i status text log make h = tt

judge_true : (held : Held) (mode : Mode) (model : List ℕ) (params : Option (List ℕ)) (name : List ℕ) (i : Instance) (s : TextTree) (own : List ℕ) (status : Status) (text : List ℕ) (log : LogState) (shape : Shaped)
    → IsDecided status → FilesMake held mode model params i → held name ≡ Some own → SpellsText (spells_in TextFile.Solution) s own → read_solution mode i s ≡ Ok shape
    → Settles (to_judge mode i shape) status text log → IsPromised held (Wanted.Verify model params mode name) status text
unfolding IsPromised Settles judgement judged_by judgement_status
judge_true held mode model params name i s own status text log (wrong_shape names) decided make kept spelled e h = not_refuted status decided h.2
judge_true held mode model params name i s own status text log (fits a) decided make kept spelled e h =
    let found : Found = h.0 in
    let right : _ = judged_by_is (violated mode i found) (has_goal_value mode i found) (goal_value mode i found) status h.2 decided in
    let said : judged_by (violated mode i found) (has_goal_value mode i found) (goal_value mode i found) ≡ a_solution (goal_value mode i found) =
    ap (λ n. judged_by n (has_goal_value mode i found) (goal_value mode i found)) right.0 ∙ ap (λ b. judged_by None b (goal_value mode i found)) right.1 ∙ solved (goal_value mode i found) in (
      i,
      make,
      own,
      kept,
      a,
      gives mode i s own a spelled e,
      goal_value mode i found,
      record { solution = record { found = found; fits = h.1; holds = right.0; measured = right.1 }; valued = refl },
      h.2 ∙ ap judgement_status said,
      h.3 ∙ ap judgement_text said,
    )
  where
    solved : (goal : Option ℤ) → judged_by None true goal ≡ a_solution goal
    solved goal = refl

-- a file whose text comes to a problem holds a text that spells it
held_comes : (name : List ℕ) (told : Option (List ℕ)) (content : OpbContent) → IsHeldReadBy IsOpbTextReadAs name told (Ok content) → (text : List ℕ) × (told ≡ Some text) × SpellsOpb text content
held_comes name None content read = never_refused read
held_comes name (Some text) content read = (text, refl, read.0.spells)

opb_true : (held : Held) (opb : List ℕ) (conflicts : ℕ) (own : List ℕ) (content : OpbContent) (status : Status) (text : List ℕ) (log : LogState) → held opb ≡ Some own → SpellsOpb own content
    → Settles (to_solve_opb content conflicts) status text log → IsPromised held (Wanted.Opb opb conflicts) status text
unfolding IsPromised Settles
opb_true held opb conflicts own content status text log kept spelled h = (own, kept, content, spelled, h.0, h.1, h.3, h.4)

-- a file that is read as the clauses of a formula holds a text that spells them
held_formula : (name : List ℕ) (told : Option (List ℕ)) (clauses : List (List Literal)) → IsHeldReadBy IsFormulaReadAs name told (Ok clauses) → (text : List ℕ) × (told ≡ Some text) × SpellsFormulaClauses text clauses
held_formula name None clauses read = never_refused read
held_formula name (Some text) clauses read = (text, refl, read.1)

verdict_is : (verdict : Verdict) (status : Status) → status ≡ verdict_status verdict → IsDecided status → verdict ≡ Verified
unfolding verdict_status
verdict_is Verified status e h = refl
verdict_is (BadStep line) status e h = not_refuted status h e
verdict_is NoEmptyClause status e h = not_refuted status h e

check_true : (held : Held) (formula proof : List ℕ) (workers : ℕ) (own : List ℕ) (vars : ℕ) (clauses : List (List Literal)) (lines : List ProofLine) (status : Status) (text : List ℕ) (log : LogState)
    → IsDecided status → held formula ≡ Some own → SpellsCnf own vars clauses → Settles (to_check clauses lines) status text log → IsPromised held (Wanted.Check formula proof workers) status text
unfolding IsPromised Settles verdict_status verdict_text
check_true held formula proof workers own vars clauses lines status text log decided kept spelled h =
    let verified : verdict_of clauses lines ≡ Verified = verdict_is (verdict_of clauses lines) status h.0 decided in
    (own, kept, vars, clauses, spelled, λ s. verified_has_no_solution clauses lines s verified, h.0 ∙ ap verdict_status verified, h.1 ∙ ap verdict_text verified)

kept_for : (held : Held) (wanted : Wanted) (task : Task) (status : Status) (text : List ℕ) (log : LogState) → IsDecided status → ComesTo wanted held (Ok task) → Settles task status text log → IsPromised held wanted status text
unfolding IsPromised
kept_for held (Wanted.Search model params mode q outputs) task status text log decided comes h =
    let m : _ = read_ok (IsFileReadAs held TextFile.Model model) (λ m. comes_to_search mode q params m held) task comes in
    let p : _ = read_ok (AreParams held params) (λ p outcome. outcome ≡ search_outcome mode q m.0 p) task m.2 in
    let it : _ = searched_ok mode q m.0 p.0 task p.2 in
    search_true held mode q model params outputs it.0 status text log (files_make held mode model params m.0 p.0 it.0 m.1 p.1 it.1)
    (subst (λ t. Settles t status text log) (sym it.2) h)
kept_for held (Wanted.Verify model params mode name) task status text log decided comes h =
    let m : _ = read_ok (IsFileReadAs held TextFile.Model model) (λ m. comes_to_verify mode params name m held) task comes in
    let p : _ = read_ok (AreParams held params) (λ p. comes_to_judge mode name m.0 p held) task m.2 in
    let s : _ = read_ok (IsFileReadAs held TextFile.Solution name) (λ s outcome. outcome ≡ verify_outcome mode m.0 p.0 s) task p.2 in
    let it : _ = judged_ok mode m.0 p.0 s.0 task s.2 in
    let own : _ = held_spells TextFile.Solution name (held name) s.0 s.1 in
    judge_true held mode model params name it.0 s.0 own.0 status text log it.2 decided (files_make held mode model params m.0 p.0 it.0 m.1 p.1 it.1)
    own.1 own.2 it.3 (subst (λ t. Settles t status text log) (sym it.4) h)
kept_for held (Wanted.Opb opb conflicts) task status text log decided comes h =
    let it : _ = read_ok (IsReadBy IsOpbTextReadAs held opb) (is_opb_task conflicts) task comes in
    let own : _ = held_comes opb (held opb) it.0 it.1 in
    opb_true held opb conflicts own.0 it.0 status text log own.1 own.2 (subst (λ t. Settles t status text log) (ok_is it.2) h)
kept_for held (Wanted.Check formula proof workers) task status text log decided comes h =
    let f : _ = read_ok (IsReadBy IsFormulaReadAs held formula) (λ clauses. comes_to_check proof clauses held) task comes in
    let own : _ = held_formula formula (held formula) f.0 f.1 in
    let p : _ = read_ok (IsReadBy IsProofReadAs held proof) (λ lines outcome. outcome ≡ Ok (to_check f.0 lines)) task f.2 in
    check_true held formula proof workers own.0 own.2.0 f.0 p.0 status text log decided own.1 own.2.1 (subst (λ t. Settles t status text log) (ok_is p.2) h)
kept_for held (Wanted.Generate number conflicts eprime param) task status text log decided comes h = tt

-- what settles the task that words ask for is what they want, and it is as it is promised
pub kept : (words : List (List ℕ)) (held : Held) (task : Task) (status : Status) (text : List ℕ) (log : LogState) → IsDecided status → Ask words held task → Settles task status text log
    → (wanted : Wanted) × Want words wanted × IsPromised held wanted status text
kept words held task status text log decided (inl none) h = never_refused none.1
kept words held task status text log decided (inr asked) h = (asked.0, asked.1, kept_for held asked.0 task status text log decided asked.2 h)

-- the same of what was put out, where the files tell what they hold
pub promise-stands : (words : List (List ℕ)) (told : Option Held) (status : Status) (log : LogState) (Took Put : List ℕ → Type 0)
    → IfSome told (λ held. (task : Task) × (t : List ℕ) × Ask words held task × Settles task status t log × Took t × Put t) → IsDecided status
    → IfSome told (λ held. (wanted : Wanted) × (t : List ℕ) × Want words wanted × IsPromised held wanted status t × Took t)
promise-stands words None status log Took Put h decided = tt
promise-stands words (Some held) status log Took Put h decided =
    let it : _ = kept words held h.0 status h.1 log decided h.2 h.3 in
    (it.0, h.1, it.1, it.2, h.4)
