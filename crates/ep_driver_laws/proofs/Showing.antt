-- Words and held files show something.
use Rattle.std.specs.Prelude.{◌≡◌, ℕ, ◌⊎◌, List, [], ◌∷◌, Option, Some, None, Result, Ok, Err, refl}
use Rattle.std.proofs.Common.{inl, inr}
use Rattle.cnf_core.specs.Literal.{Literal}
use Rattle.ep_base.specs.Outside.{Held}
use Rattle.ep_gen.specs.Texts.{generated_model, generated_params}
use Rattle.ep_print.specs.declared.refusals.Refusal.{Refusal}
use Rattle.ep_print.specs.declared.refusals.TextFile.{TextFile}
use Rattle.ep_tree.specs.Statements.{TextTree}
use Rattle.ep_tree.specs.declared.values.Mode.{Mode}
use Rattle.ep_words.specs.Commands.{IsCommand}
use Rattle.ep_words.specs.declared.job.Job.{Job}
use Rattle.ep_driver.specs.Commands.{wanted_of}
use Rattle.ep_driver.specs.Outcomes.{Outcome, Task, opb_refusal, search_outcome, to_check, to_solve_opb, verify_outcome}
use Rattle.ep_files.specs.Readings.{AreParams, IsFormulaReadAs, IsHeldReadBy, IsProofReadAs, IsFileReadAs, IsReadBy, IsTextReadAs, ReadsTexts, spells_in, tree_or_refusal}
use Rattle.ep_driver.specs.Shown.{ComesTo, IsOpbTextReadAs, Show, ThenShows, comes_to_check, comes_to_judge, comes_to_parameters, comes_to_search, comes_to_verify, is_opb_task}
use Rattle.ep_driver.specs.declared.wanted.Request.{Request}
use Rattle.ep_driver.specs.declared.wanted.Wanted.{Wanted}
use Rattle.opb_solve.specs.Replies.{OpbComesTo}
use Rattle.opb_solve.specs.declared.replies.OpbRefusal.{OpbRefusal}
use Rattle.opb_text.specs.Contents.{OpbContent}
use Rattle.ep_driver_laws.proofs.ClausesRead.{IsRead, formula_read, proof_read}
use Rattle.ep_driver_laws.proofs.TextsRead.{HasAnswer, model_answered, params_answered}
use Rattle.ep_driver_laws.proofs.WordsRead.{words_decided}

-- ---- texts and files

text_answered : (file : TextFile) (text : List ℕ) → HasAnswer (spells_in file) text
text_answered TextFile.Model text = model_answered text
text_answered TextFile.Params text = params_answered text
text_answered TextFile.Solution text = params_answered text
text_answered TextFile.Cnf text = params_answered text
text_answered TextFile.Log text = params_answered text
text_answered TextFile.Opb text = params_answered text

text_read : (file : TextFile) (text : List ℕ) → IsRead (IsTextReadAs file) text
text_read file text = let said = text_answered file text in (tree_or_refusal file said.0, (said.0, said.1, refl))

-- the text of each pseudo-Boolean problem comes to something
abbrev pub EachComes : Type 0
EachComes = (text : List ℕ) → (outcome : Result OpbContent OpbRefusal) × OpbComesTo text outcome

opb_read : EachComes → (text : List ℕ) → IsRead IsOpbTextReadAs text
opb_read each text = go (each text).0 (each text).1
  where
    go : (outcome : Result OpbContent OpbRefusal) → OpbComesTo text outcome → IsRead IsOpbTextReadAs text
    go (Ok content) is = (Ok content, is)
    go (Err refusal) is = (Err (opb_refusal refusal), (refusal, is, refl))

held_read : {A : Type 0} (reads : ReadsTexts A) (name : List ℕ) → ((text : List ℕ) → IsRead reads text) → (o : Option (List ℕ)) → (reading : Result A Refusal) × IsHeldReadBy reads name o reading
held_read reads name all None = (Err (Refusal.CannotRead name), refl)
held_read reads name all (Some text) = all text

file_read : (held : Held) (file : TextFile) (name : List ℕ) → (reading : Result TextTree Refusal) × IsFileReadAs held file name reading
file_read held file name = held_read (IsTextReadAs file) name (text_read file) (held name)

params_read : (held : Held) (params : Option (List ℕ)) → (reading : Result TextTree Refusal) × AreParams held params reading
params_read held None = (Ok [], refl)
params_read held (Some name) = file_read held TextFile.Params name

-- ---- steps

-- something comes out
abbrev Comes : (Outcome Task → Type 0) → Type 0
Comes shows = (outcome : Outcome Task) × shows outcome

then_shows : {A : Type 0} (reads : Result A Refusal → Type 0) (next : A → Outcome Task → Type 0) → ((reading : Result A Refusal) × reads reading) → ((x : A) → Comes (next x)) → Comes (ThenShows reads next)
then_shows reads next read all = go read.0 read.1
  where
    go : (reading : Result _ Refusal) → reads reading → Comes (ThenShows reads next)
    go (Ok x) is = let after = all x in (after.0, inl (x, is, after.1))
    go (Err refusal) is = (Err (refusal ∷ []), inr (refusal, is, refl))

search_comes : (mode : Mode) (request : Request) (params : Option (List ℕ)) (held : Held) (model : TextTree) → Comes (comes_to_search mode request params model held)
search_comes mode request params held model =
    then_shows (AreParams held params) (λ p outcome. outcome ≡ search_outcome mode request model p) (params_read held params)
    (λ p. (search_outcome mode request model p, refl))

judge_comes : (mode : Mode) (solution : List ℕ) (held : Held) (model params : TextTree) → Comes (comes_to_judge mode solution model params held)
judge_comes mode solution held model params =
    then_shows (IsFileReadAs held TextFile.Solution solution) (λ s outcome. outcome ≡ verify_outcome mode model params s) (file_read held TextFile.Solution solution)
    (λ s. (verify_outcome mode model params s, refl))

verify_comes : (mode : Mode) (params : Option (List ℕ)) (solution : List ℕ) (held : Held) (model : TextTree) → Comes (comes_to_verify mode params solution model held)
verify_comes mode params solution held model =
    then_shows (AreParams held params) (λ p. comes_to_judge mode solution model p held) (params_read held params) (judge_comes mode solution held model)

check_comes : (proof : List ℕ) (held : Held) (clauses : List (List Literal)) → Comes (comes_to_check proof clauses held)
check_comes proof held clauses =
    then_shows (IsReadBy IsProofReadAs held proof) (λ lines outcome. outcome ≡ Ok (to_check clauses lines)) (held_read IsProofReadAs proof proof_read (held proof))
    (λ lines. (Ok (to_check clauses lines), refl))

parameters_come : (number conflicts : ℕ) (model : TextTree) → Comes (comes_to_parameters number conflicts model)
parameters_come number conflicts model =
    then_shows (IsTextReadAs TextFile.Params (generated_params number)) (λ p outcome. outcome ≡ search_outcome Mode.Relational (Request.Generated number conflicts) model p)
    (text_read TextFile.Params (generated_params number)) (λ p. (search_outcome Mode.Relational (Request.Generated number conflicts) model p, refl))

wanted_comes : EachComes → (wanted : Wanted) (held : Held) → Comes (ComesTo wanted held)
wanted_comes each (Wanted.Search model params mode request outputs) held =
    then_shows (IsFileReadAs held TextFile.Model model) (λ m. comes_to_search mode request params m held) (file_read held TextFile.Model model) (search_comes mode request params held)
wanted_comes each (Wanted.Opb opb conflicts) held =
    then_shows (IsReadBy IsOpbTextReadAs held opb) (is_opb_task conflicts) (held_read IsOpbTextReadAs opb (opb_read each) (held opb))
    (λ content. (Ok (to_solve_opb content conflicts), refl))
wanted_comes each (Wanted.Verify model params mode solution) held =
    then_shows (IsFileReadAs held TextFile.Model model) (λ m. comes_to_verify mode params solution m held) (file_read held TextFile.Model model) (verify_comes mode params solution held)
wanted_comes each (Wanted.Check formula proof workers) held =
    then_shows (IsReadBy IsFormulaReadAs held formula) (λ clauses. comes_to_check proof clauses held) (held_read IsFormulaReadAs formula formula_read (held formula)) (check_comes proof held)
wanted_comes each (Wanted.Generate number conflicts eprime param) held =
    then_shows (IsTextReadAs TextFile.Model generated_model) (λ m. comes_to_parameters number conflicts m) (text_read TextFile.Model generated_model) (parameters_come number conflicts)

-- ---- words

-- words that are a command want something
job_shows : EachComes → (words : List (List ℕ)) (held : Held) (job : Job) → IsCommand words job → Comes (Show words held)
job_shows each words held job command =
    let comes = wanted_comes each (wanted_of job) held in (comes.0, inr (wanted_of job, (job, command, refl), comes.1))

pub shows : EachComes → (words : List (List ℕ)) (held : Held) → Comes (Show words held)
shows each words held = elim (words_decided words) [
  | inl is ↦ job_shows each words held is.0 is.1
  | inr none ↦ (Err (Refusal.Usage ∷ []), inl ((λ wanted want. none want.0 want.1), refl))
]
