-- What a command over held files shows: the task with what it needs, or the refusals of the first step that refuses.
--
-- The words come first, then each file in its turn, with its tokens and its grammar before the next one is read; then the
-- names and types of the texts, the instance, and the values of the solution. Of a formula and its proof the formula is read first.
-- The text of a pseudo-Boolean problem comes to the problem within its limits. The texts of a number take the place of those of files.
-- This order is the project's own choice.
use Rattle.std.specs.Prelude.{◌≡◌, ◌⊎◌, ℕ, List, [], ◌∷◌, Option, Result, Ok, Err, Contains}
use Rattle.cnf_core.specs.Literal.{Literal}
use Rattle.ep_base.specs.Outside.{Held}
use Rattle.ep_gen.specs.Texts.{generated_model, generated_params}
use Rattle.ep_tree.specs.Statements.{TextTree}
use Rattle.ep_tree.specs.declared.values.Mode.{Mode}
use Rattle.ep_print.specs.Refusals.{refusal_text}
use Rattle.ep_print.specs.declared.refusals.Refusal.{Refusal}
use Rattle.ep_print.specs.declared.refusals.TextFile.{TextFile}
use Rattle.ep_driver.specs.Commands.{AreNoCommand, Want}
use Rattle.ep_driver.specs.Outcomes.{Outcome, Task, opb_refusal, search_outcome, to_check, to_solve_opb, verify_outcome}
use Rattle.ep_files.specs.Readings.{AreParams, IsFormulaReadAs, IsProofReadAs, IsFileReadAs, IsReadBy, IsTextReadAs}
use Rattle.ep_files.specs.Status.{status_of}
use Rattle.ep_files.specs.declared.status.Status.{Status}
use Rattle.opb_solve.specs.Replies.{OpbComesTo}
use Rattle.opb_solve.specs.declared.replies.OpbRefusal.{OpbRefusal}
use Rattle.opb_text.specs.Contents.{OpbContent}
use Rattle.ep_driver.specs.declared.wanted.Request.{Request}
use Rattle.ep_driver.specs.declared.wanted.Wanted.{Wanted}

-- a file is read, and what follows comes out; or it is refused, and that comes out
abbrev pub ThenShows : {A : Type 0} → (Result A Refusal → Type 0) → (A → Outcome Task → Type 0) → Outcome Task → Type 0
ThenShows {A} reads next outcome =
    ((x : A) × reads (Ok x) × next x outcome)
    ⊎ ((refusal : Refusal) × reads (Err refusal) × (outcome ≡ Err (refusal ∷ [])))

-- a search goes on in a model that was read: its parameters are read
abbrev pub comes_to_search : Mode → Request → Option (List ℕ) → TextTree → Held → Outcome Task → Type 0
comes_to_search mode request params model held =
    ThenShows (AreParams held params) (λ p outcome. outcome ≡ search_outcome mode request model p)

-- a model and its parameters were read, and a solution is judged: its text is read
abbrev pub comes_to_judge : Mode → List ℕ → TextTree → TextTree → Held → Outcome Task → Type 0
comes_to_judge mode solution model params held =
    ThenShows (IsFileReadAs held TextFile.Solution solution) (λ s outcome. outcome ≡ verify_outcome mode model params s)

-- a model was read, and a solution of it is verified: its parameters are read
abbrev pub comes_to_verify : Mode → Option (List ℕ) → List ℕ → TextTree → Held → Outcome Task → Type 0
comes_to_verify mode params solution model held =
    ThenShows (AreParams held params) (λ p. comes_to_judge mode solution model p held)

-- the clauses of a formula were read, and a proof of them is checked: it is read
abbrev pub comes_to_check : List ℕ → List (List Literal) → Held → Outcome Task → Type 0
comes_to_check proof clauses held =
    ThenShows (IsReadBy IsProofReadAs held proof) (λ lines outcome. outcome ≡ Ok (to_check clauses lines))

-- a text is read as the pseudo-Boolean problem that it comes to, or has the refusal that it comes to
abbrev pub IsOpbTextReadAs : List ℕ → Result OpbContent Refusal → Type 0
IsOpbTextReadAs text (Ok content) = OpbComesTo text (Ok content)
IsOpbTextReadAs text (Err refusal) = (own : OpbRefusal) × OpbComesTo text (Err own) × (refusal ≡ opb_refusal own)

-- a pseudo-Boolean problem that was read is to be solved
abbrev pub is_opb_task : ℕ → OpbContent → Outcome Task → Type 0
is_opb_task conflicts content outcome = outcome ≡ Ok (to_solve_opb content conflicts)

-- the model of a number was read, and its parameters are
abbrev pub comes_to_parameters : ℕ → ℕ → TextTree → Outcome Task → Type 0
comes_to_parameters number conflicts model =
    ThenShows (IsTextReadAs TextFile.Params (generated_params number))
    (λ p outcome. outcome ≡ search_outcome Mode.Relational (Request.Generated number conflicts) model p)

-- The texts of a number are read as those of files are, the model first, and solved in the relational mode within so many
-- conflicts. No file is read.
abbrev pub comes_to_generate : ℕ → ℕ → Outcome Task → Type 0
comes_to_generate number conflicts =
    ThenShows (IsTextReadAs TextFile.Model generated_model) (λ m. comes_to_parameters number conflicts m)

-- what is wanted comes to this over held files: the model, the formula or the problem is read first
abbrev pub ComesTo : Wanted → Held → Outcome Task → Type 0
ComesTo (Wanted.Search model params mode request outputs) held =
    ThenShows (IsFileReadAs held TextFile.Model model) (λ m. comes_to_search mode request params m held)
ComesTo (Wanted.Opb opb conflicts) held = ThenShows (IsReadBy IsOpbTextReadAs held opb) (is_opb_task conflicts)
ComesTo (Wanted.Verify model params mode solution) held =
    ThenShows (IsFileReadAs held TextFile.Model model) (λ m. comes_to_verify mode params solution m held)
ComesTo (Wanted.Check formula proof workers) held =
    ThenShows (IsReadBy IsFormulaReadAs held formula) (λ clauses. comes_to_check proof clauses held)
ComesTo (Wanted.Generate number conflicts eprime param) held = comes_to_generate number conflicts

-- the words show this over held files
abbrev pub Show : List (List ℕ) → Held → Outcome Task → Type 0
Show words held outcome =
    (AreNoCommand words × (outcome ≡ Err (Refusal.Usage ∷ [])))
    ⊎ ((wanted : Wanted) × Want words wanted × ComesTo wanted held outcome)

-- the words show the task
abbrev pub Ask : List (List ℕ) → Held → Task → Type 0
Ask words held task = Show words held (Ok task)

-- the words show refusals, of which this is one
abbrev pub Refuse : List (List ℕ) → Held → Refusal → Type 0
Refuse words held refusal =
    (refusals : List Refusal) × Show words held (Err refusals) × Contains refusals refusal

-- the words show a refusal with this status and this line
abbrev pub Refuses : List (List ℕ) → Held → Status → List ℕ → Type 0
Refuses words held status line =
    (refusal : Refusal) × Refuse words held refusal × (status ≡ status_of refusal) × (line ≡ refusal_text refusal)
