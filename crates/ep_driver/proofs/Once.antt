-- The words and the held files show one thing alone.
use Rattle.std.proofs.Common.{◌≡◌, ℕ, ◌⊎◌, List, [], ◌∷◌, Option, Some, None, Ok, Err, Result, Contains, IfSome, inl, inr, sym, ap, subst, ◌∙◌}
use Rattle.cnf_core.specs.Events.{LogState}
use Rattle.ep_solve.specs.Right.{empty_log}
use Rattle.ep_base.specs.Outside.{Held}
use Rattle.ep_print.specs.declared.refusals.Refusal.{Refusal}
use Rattle.ep_print.specs.declared.refusals.TextFile.{TextFile}
use Rattle.ep_tree.specs.declared.values.Mode.{Mode}
use Rattle.ep_gen.specs.Texts.{generated_model, generated_params}
use Rattle.ep_tree.specs.Statements.{TextTree}
use Rattle.ep_tree.specs.Texts.{Answers as TextAnswers, TextAnswer}
use Rattle.ep_words.specs.Commands.{IsCommand}
use Rattle.ep_words.specs.declared.job.Job.{Job}
use Rattle.ep_driver.specs.Answers.{Settles}
use Rattle.ep_driver.specs.Commands.{IsJudgement, Want, wanted_of}
use Rattle.ep_driver.specs.Outcomes.{Outcome, Task, opb_refusal, search_outcome, to_check, verify_outcome}
use Rattle.ep_driver.specs.Puts.{HoldOnWant}
use Rattle.ep_files.specs.Readings.{AreParams, IsFormulaReadAs, IsHeldReadBy, IsProofReadAs, IsFileReadAs, IsReadBy, IsTextReadAs, ReadsTexts, spells_in, tree_or_refusal}
use Rattle.ep_driver.specs.Shown.{Ask, ComesTo, IsOpbTextReadAs, Refuse, Show, ThenShows, comes_to_check, comes_to_judge, comes_to_parameters, comes_to_search, comes_to_verify, is_opb_task}
use Rattle.ep_files.specs.Status.{HasReply, status_of}
use Rattle.ep_driver.specs.Steps.{IsLogOf, LogsTask}
use Rattle.ep_files.specs.declared.status.Status.{Status}
use Rattle.ep_driver.specs.declared.wanted.Request.{Request}
use Rattle.ep_driver.specs.declared.wanted.Wanted.{Wanted}
use Rattle.opb_solve.specs.Replies.{OpbComesTo}
use Rattle.opb_solve.specs.declared.replies.OpbRefusal.{OpbRefusal}
use Rattle.opb_text.specs.Contents.{OpbContent}
use Rattle.ep_files.proofs.OneReading.{OneFormula, OneProof, formula-once, proof-once}
use Rattle.ep_driver.proofs.Promises.{ended-status, usage-told}
use Rattle.ep_driver.proofs.Saying.{Case, answer, end-logs, faulty, no_command, unread, unwritten}

-- a text is read as one thing alone
abbrev pub OneAnswer : (TextFile) → Type 0
OneAnswer file = (text : List ℕ) (a b : TextAnswer) → TextAnswers (spells_in file) text a → TextAnswers (spells_in file) text b → a ≡ b

-- words are a command for one job alone
abbrev pub OneJob : Type 0
OneJob = (words : List (List ℕ)) (one other : Job) → IsCommand words one → IsCommand words other → one ≡ other

-- texts are read as one thing alone
abbrev pub OneReading : {A : Type 0} → ReadsTexts A → Type 0
OneReading {A} texts = (text : List ℕ) (a b : Result A Refusal) → texts text a → texts text b → a ≡ b

tree-once : (file : TextFile) → OneAnswer file → OneReading (IsTextReadAs file)
tree-once file one text a b g h = g.2 ∙ ap (tree_or_refusal file) (one text g.0 h.0 g.1 h.1) ∙ sym h.2

-- the text of a pseudo-Boolean problem comes to one thing alone
abbrev pub OneComing : Type 0
OneComing = (text : List ℕ) (one other : Result OpbContent OpbRefusal) → OpbComesTo text one → OpbComesTo text other → one ≡ other

opb-once : OneComing → OneReading IsOpbTextReadAs
opb-once one text (Ok x) (Ok y) g h = let e = one text (Ok x) (Ok y) g h in let same : x ≡ y = cc in ap Ok same
opb-once one text (Ok x) (Err r) g h = let e = one text (Ok x) (Err h.0) g h.1 in absurd cc
opb-once one text (Err r) (Ok y) g h = let e = one text (Err g.0) (Ok y) g.1 h in absurd cc
opb-once one text (Err r) (Err s) g h =
    let e = one text (Err g.0) (Err h.0) g.1 h.1 in
    let same : g.0 ≡ h.0 = cc in
    ap Err (g.2 ∙ ap opb_refusal same ∙ sym h.2)

held-once : {A : Type 0} (texts : ReadsTexts A) → OneReading texts → (name : List ℕ) (x : Option (List ℕ)) (a b : Result A Refusal) → IsHeldReadBy texts name x a → IsHeldReadBy texts name x b → a ≡ b
held-once texts one name None a b g h = g ∙ sym h
held-once texts one name (Some text) a b g h = one text a b g h

file-once : {A : Type 0} (texts : ReadsTexts A) → OneReading texts → (name : List ℕ) (held : Held) (a b : Result A Refusal) → IsReadBy texts held name a → IsReadBy texts held name b → a ≡ b
file-once texts one name held a b g h = held-once texts one name (held name) a b g h

params-once : OneAnswer TextFile.Params → (params : Option (List ℕ)) (held : Held) (a b : Result TextTree Refusal) → AreParams held params a → AreParams held params b → a ≡ b
params-once one None held a b g h = g ∙ sym h
params-once one (Some name) held a b g h = file-once (IsTextReadAs TextFile.Params) (tree-once TextFile.Params one) name held a b g h

then-once : {A : Type 0} (reads : Result A Refusal → Type 0) (next : A → Outcome Task → Type 0) → ((a b : Result A Refusal) → reads a → reads b → a ≡ b) → ((t : A) (a b : Outcome Task) → next t a → next t b → a ≡ b) → (a b : Outcome Task) → ThenShows reads next a → ThenShows reads next b → a ≡ b
then-once {A} reads next once on a b g h =
    elim g [
      | inl one ↦ elim h [
        | inl other ↦
            let same : one.0 ≡ other.0 = let e = once (Ok one.0) (Ok other.0) one.1 other.1 in cc in
            let P : A → Type 0 = λ t. next t a in
            on other.0 a b (subst P same one.2) other.2
        | inr other ↦ let e = once (Ok one.0) (Err other.0) one.1 other.1 in absurd cc
      ]
      | inr one ↦ elim h [
        | inl other ↦ let e = once (Err one.0) (Ok other.0) one.1 other.1 in absurd cc
        | inr other ↦
            let same : one.0 ≡ other.0 = let e = once (Err one.0) (Err other.0) one.1 other.1 in cc in
            one.2 ∙ ap (λ r. Err (r ∷ [])) same ∙ sym other.2
      ]
    ]

-- texts of all kinds are read as one thing alone
pub record TextsAreOnce : Type 0 where
  pub model : OneAnswer TextFile.Model
  pub params : OneAnswer TextFile.Params
  pub solution : OneAnswer TextFile.Solution
  pub formula : OneFormula
  pub proof : OneProof
  pub opb : OneComing

comes-once : TextsAreOnce → (wanted : Wanted) (held : Held) (a b : Outcome Task) → ComesTo wanted held a → ComesTo wanted held b → a ≡ b
comes-once texts (Wanted.Search model params mode request outputs) held a b g h =
    then-once (IsFileReadAs held TextFile.Model model) (λ m. comes_to_search mode request params m held) (file-once (IsTextReadAs TextFile.Model) (tree-once TextFile.Model texts.model) model held)
    (λ m. then-once (AreParams held params) (λ p outcome. outcome ≡ search_outcome mode request m p) (params-once texts.params params held) (λ p x y e f. e ∙ sym f))
    a b g h
comes-once texts (Wanted.Opb opb conflicts) held a b g h =
    then-once (IsReadBy IsOpbTextReadAs held opb) (is_opb_task conflicts) (file-once IsOpbTextReadAs (opb-once texts.opb) opb held)
    (λ content x y e f. e ∙ sym f) a b g h
comes-once texts (Wanted.Verify model params mode solution) held a b g h =
    then-once (IsFileReadAs held TextFile.Model model) (λ m. comes_to_verify mode params solution m held) (file-once (IsTextReadAs TextFile.Model) (tree-once TextFile.Model texts.model) model held)
    (λ m. then-once (AreParams held params) (λ p. comes_to_judge mode solution m p held) (params-once texts.params params held)
    (λ p. then-once (IsFileReadAs held TextFile.Solution solution) (λ s outcome. outcome ≡ verify_outcome mode m p s) (file-once (IsTextReadAs TextFile.Solution) (tree-once TextFile.Solution texts.solution) solution held)
    (λ s x y e f. e ∙ sym f)))
    a b g h
comes-once texts (Wanted.Check formula proof workers) held a b g h =
    then-once (IsReadBy IsFormulaReadAs held formula) (λ clauses. comes_to_check proof clauses held) (file-once IsFormulaReadAs (formula-once texts.formula) formula held)
    (λ clauses. then-once (IsReadBy IsProofReadAs held proof) (λ lines outcome. outcome ≡ Ok (to_check clauses lines)) (file-once IsProofReadAs (proof-once texts.proof) proof held)
    (λ lines x y e f. e ∙ sym f))
    a b g h
comes-once texts (Wanted.Generate number conflicts eprime param) held a b g h =
    then-once (IsTextReadAs TextFile.Model generated_model) (λ m. comes_to_parameters number conflicts m) (tree-once TextFile.Model texts.model generated_model)
    (λ m. then-once (IsTextReadAs TextFile.Params (generated_params number)) (λ p outcome. outcome ≡ search_outcome Mode.Relational (Request.Generated number conflicts) m p)
    (tree-once TextFile.Params texts.params (generated_params number)) (λ p x y e f. e ∙ sym f))
    a b g h

-- words want one thing alone
abbrev pub WantOne : List (List ℕ) → Type 0
WantOne words = (a b : Wanted) → Want words a → Want words b → a ≡ b

pub want-once : OneJob → (words : List (List ℕ)) (a b : Wanted) → Want words a → Want words b → a ≡ b
want-once one words a b g h =
    sym g.2 ∙ ap wanted_of (one words g.0 h.0 g.1 h.1) ∙ h.2

-- the words show one thing alone
pub shown-once : OneJob → TextsAreOnce → (words : List (List ℕ)) (held : Held) (a b : Outcome Task) → Show words held a → Show words held b → a ≡ b
shown-once one texts words held a b g h =
    elim g [
      | inl none ↦ elim h [
        | inl none-too ↦ none.1 ∙ sym none-too.1
        | inr some ↦ absurd (none.0 some.0 some.1)
      ]
      | inr some ↦ elim h [
        | inl none ↦ absurd (none.0 some.0 some.1)
        | inr other ↦
            let P : Wanted → Type 0 = λ w. ComesTo w held a in
            comes-once texts other.0 held a b (subst P (want-once one words some.0 other.0 some.1 other.1) some.2) other.2
      ]
    ]

-- ---- what stands is said

abbrev pub ShownOnce : List (List ℕ) → Type 0
ShownOnce words = (held : Held) (a b : Outcome Task) → Show words held a → Show words held b → a ≡ b

asked-not-refused : (words : List (List ℕ)) → ShownOnce words → (held : Held) (task : Task) (r : Refusal) → Ask words held task → Refuse words held r → ⊥
asked-not-refused words once held task r ask refuse =
    let e = once held (Ok task) (Err refuse.0) ask refuse.1 in absurd cc

abbrev pub Ended : Status → Type 0
Ended s = (s ≡ Status.Memory) ⊎ HasReply s

pub answers-said : (words : List (List ℕ)) (told after : Option Held) (rose : Type 0) (status : Status) (text : List ℕ) (log : LogState) → ShownOnce words → Case words told after rose status text log → ¬ rose → IfSome told (λ held. (task : Task) → Ask words held task → Ended status)
answers-said words None after rose status text log once case calm = tt
answers-said words (Some held) after rose status text log once (no_command s t nothing kept none) calm = λ task ask. absurd (asked-not-refused words once held task Refusal.Usage ask (usage-told words (Some held) none))
answers-said words (Some held) after rose status text log once (answer wanted want ends shown put) calm = λ task ask. inr (ended-status wanted status log ends)
answers-said words (Some held) after rose status text log once (faulty wanted want r s t nothing kept of_text shown) calm = λ task ask. absurd (asked-not-refused words once held task r ask shown)
answers-said words (Some held) after rose status text log once (unread name s t nothing kept failed why) calm = λ task ask.
    elim why [ inl up ↦ absurd (calm up) | inr missing ↦ absurd (asked-not-refused words once held task (Refusal.CannotRead name) ask missing) ]
answers-said words (Some held) after rose status text log once (unwritten name s t sound wanted want logs failed) calm = λ task ask. absurd (calm failed.0)

abbrev pub Refused : Status → List Refusal → Type 0
Refused s refusals = (s ≡ Status.Memory) ⊎ ((r : Refusal) × Contains refusals r × (s ≡ status_of r))

refused-so : (words : List (List ℕ)) → ShownOnce words → (held : Held) (status : Status) (refusals : List Refusal) (r : Refusal) → status ≡ status_of r → Refuse words held r → Show words held (Err refusals) → Refused status refusals
refused-so words once held status refusals r s refuse show =
    let same : refuse.0 ≡ refusals = let e = once held (Err refuse.0) (Err refusals) refuse.1 show in cc in
    let P : List Refusal → Type 0 = λ x. Contains x r in
    inr (r, subst P same refuse.2, s)

answered-not : (words : List (List ℕ)) → ShownOnce words → (held : Held) (status : Status) (text : List ℕ) (log : LogState) (refusals : List Refusal) → ((task : Task) × Ask words held task × Settles task status text log) → Show words held (Err refusals) → ⊥
answered-not words once held status text log refusals shown show =
    let e = once held (Ok shown.0) (Err refusals) shown.1 show in absurd cc

pub refuses-said : (words : List (List ℕ)) (told after : Option Held) (rose : Type 0) (status : Status) (text : List ℕ) (log : LogState) → ShownOnce words → Case words told after rose status text log → ¬ rose → IfSome told (λ held. (refusals : List Refusal) → Show words held (Err refusals) → Refused status refusals)
unfolding status_of
refuses-said words None after rose status text log once case calm = tt
refuses-said words (Some held) after rose status text log once (no_command s t nothing kept none) calm = λ refusals show. refused-so words once held status refusals Refusal.Usage s (usage-told words (Some held) none) show
refuses-said words (Some held) after rose status text log once (answer wanted want ends shown put) calm = λ refusals show. absurd (answered-not words once held status text log refusals shown show)
refuses-said words (Some held) after rose status text log once (faulty wanted want r s t nothing kept of_text shown) calm = λ refusals show. refused-so words once held status refusals r s shown show
refuses-said words (Some held) after rose status text log once (unread name s t nothing kept failed why) calm = λ refusals show.
    elim why [ inl up ↦ absurd (calm up) | inr missing ↦ refused-so words once held status refusals (Refusal.CannotRead name) s missing show ]
refuses-said words (Some held) after rose status text log once (unwritten name s t sound wanted want logs failed) calm = λ refusals show. absurd (calm failed.0)

-- nothing is logged where a refusal stands
pub unlogged-said : (words : List (List ℕ)) (told after : Option Held) (rose : Type 0) (status : Status) (text : List ℕ) (log : LogState) → ShownOnce words → Case words told after rose status text log → IfSome told (λ held. (refusals : List Refusal) → Show words held (Err refusals) → log ≡ empty_log)
unlogged-said words None after rose status text log once case = tt
unlogged-said words (Some held) after rose status text log once (no_command s t nothing kept none) = λ refusals show. nothing
unlogged-said words (Some held) after rose status text log once (answer wanted want ends shown put) = λ refusals show. absurd (answered-not words once held status text log refusals shown show)
unlogged-said words (Some held) after rose status text log once (faulty wanted want r s t nothing kept of_text shown) = λ refusals show. nothing
unlogged-said words (Some held) after rose status text log once (unread name s t nothing kept failed why) = λ refusals show. nothing
unlogged-said words (Some held) after rose status text log once (unwritten name s t sound wanted want logs failed) = λ refusals show. let e = once held (Ok failed.5.0) (Err refusals) failed.5.2 show in absurd cc

-- no file is changed where a refusal stands
pub unwritten-said : (words : List (List ℕ)) (told after : Option Held) (rose : Type 0) (status : Status) (text : List ℕ) (log : LogState) → ShownOnce words → Case words told after rose status text log → IfSome told (λ held. (refusals : List Refusal) → Show words held (Err refusals) → after ≡ told)
unwritten-said words None after rose status text log once case = tt
unwritten-said words (Some held) after rose status text log once (no_command s t nothing kept none) = λ refusals show. kept
unwritten-said words (Some held) after rose status text log once (answer wanted want ends shown put) = λ refusals show. absurd (answered-not words once held status text log refusals shown show)
unwritten-said words (Some held) after rose status text log once (faulty wanted want r s t nothing kept of_text shown) = λ refusals show. kept
unwritten-said words (Some held) after rose status text log once (unread name s t nothing kept failed why) = λ refusals show. kept
unwritten-said words (Some held) after rose status text log once (unwritten name s t sound wanted want logs failed) = λ refusals show. let e = once held (Ok failed.5.0) (Err refusals) failed.5.2 show in absurd cc

pub unwritten-on-want : (words : List (List ℕ)) (told after : Option Held) (rose : Type 0) (log : LogState) → ShownOnce words → HoldOnWant words told after rose log → IfSome told (λ held. (refusals : List Refusal) → Show words held (Err refusals) → after ≡ told)
unwritten-on-want words None after rose log once h = tt
unwritten-on-want words (Some held) after rose log once h = λ refusals show.
    elim h [
      | inl kept ↦ kept
      | inr some ↦ elim some [
        | inl partly ↦ let e = once held (Ok partly.4.0) (Err refusals) partly.4.2 show in absurd cc
        | inr failed ↦ let e = once held (Ok failed.1.5.0) (Err refusals) failed.1.5.2 show in absurd cc
      ]
    ]

pub unlogged-on-want : (words : List (List ℕ)) (told : Option Held) (log : LogState) → ShownOnce words → LogsTask words told log → IfSome told (λ held. (refusals : List Refusal) → Show words held (Err refusals) → log ≡ empty_log)
unlogged-on-want words None log once h = tt
unlogged-on-want words (Some held) log once h = λ refusals show.
    elim h [ inl nothing ↦ nothing | inr asked ↦ let e = once held (Ok asked.3.0) (Err refusals) asked.3.1 show in absurd cc ]

-- ---- what a judgement logs

logs-nothing : (wanted : Wanted) (log : LogState) → IsJudgement wanted → IsLogOf wanted log → log ≡ empty_log
logs-nothing (Wanted.Search m p u request outputs) log judged logs = absurd judged
logs-nothing (Wanted.Opb opb conflicts) log judged logs = absurd judged
logs-nothing (Wanted.Verify m p u s) log judged logs = logs
logs-nothing (Wanted.Check formula proof workers) log judged logs = logs
logs-nothing (Wanted.Generate number conflicts eprime param) log judged logs = absurd judged

judged-logs : (words : List (List ℕ)) (one other : Wanted) (log : LogState) → WantOne words → Want words one → IsLogOf one log → Want words other → IsJudgement other → log ≡ empty_log
judged-logs words one other log once want logs also judged =
    logs-nothing other log judged (subst (λ w. IsLogOf w log) (once one other want also) logs)

-- nothing is logged where something is to be judged
pub judged-said : (words : List (List ℕ)) (told after : Option Held) (rose : Type 0) (status : Status) (text : List ℕ) (log : LogState) → WantOne words → Case words told after rose status text log → (other : Wanted) → Want words other → IsJudgement other → log ≡ empty_log
judged-said words told after rose status text log one (no_command s t nothing kept none) = λ other also judged. nothing
judged-said words told after rose status text log one (answer wanted want ends shown put) = λ other also judged. judged-logs words wanted other log one want (end-logs wanted status log ends) also judged
judged-said words told after rose status text log one (faulty wanted want r s t nothing kept of_text shown) = λ other also judged. nothing
judged-said words told after rose status text log one (unread name s t nothing kept failed why) = λ other also judged. nothing
judged-said words told after rose status text log one (unwritten name s t sound wanted want logs failed) = λ other also judged. judged-logs words wanted other log one want logs also judged

pub judged-on-want : (words : List (List ℕ)) (told : Option Held) (log : LogState) → WantOne words → LogsTask words told log → (other : Wanted) → Want words other → IsJudgement other → log ≡ empty_log
judged-on-want words told log one h = λ other also judged.
    elim h [ inl nothing ↦ nothing | inr asked ↦ judged-logs words asked.0 other log one asked.1 asked.2 also judged ]
