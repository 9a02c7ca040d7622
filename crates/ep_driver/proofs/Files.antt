-- What stands in the files that words name for output.
use Rattle.std.proofs.Common.{◌≡◌, ◌≢◌, ◌⊎◌, ℕ, List, [], ◌∷◌, ◌++◌, Option, Some, None, Ok, Bool, true, false, All, bytes_eq, option_map, if◌then◌else◌, IfSome, inl, inr, refl, sym, ap, subst, ◌∙◌}
use Rattle.std.proofs.lemmas.List.Elements.{All-append, All-cons, All-nil}
use Rattle.std.proofs.lemmas.Slice.Eq.{bytes_eq-Decides}
use Rattle.cnf_core.specs.Events.{LogState}
use Rattle.ep_base.specs.Outside.{Held, with_bytes}
use Rattle.ep_driver.specs.Answers.{Settles}
use Rattle.ep_driver.specs.Commands.{Want}
use Rattle.ep_driver.specs.Outcomes.{Task}
use Rattle.ep_outputs.specs.Outputs.{AreWritten, Content, IsFormulaText, IsStepsText, IsTextOf, Output, a_formula, an_answer, for_texts, named, steps}
use Rattle.ep_driver.specs.Outputs.{HasOutput, HoldsText, outputs_in_order, written_for}
use Rattle.ep_driver.specs.Shown.{comes_to_generate}
use Rattle.ep_driver.specs.Steps.{AnswersNumber}
use Rattle.ep_files.specs.declared.status.Status.{Status}
use Rattle.ep_driver.specs.declared.wanted.Outputs.{Outputs}
use Rattle.ep_driver.specs.declared.wanted.Request.{Request}
use Rattle.ep_driver.specs.declared.wanted.Wanted.{Wanted}
use Rattle.ep_tree.specs.declared.values.Mode.{Mode}
use Rattle.ep_driver.proofs.Once.{WantOne}
use Rattle.ep_driver.proofs.Written.{AllNamed, written-same}

abbrev Other : List ℕ → List ℕ → Type 0
Other name asked = asked ≢ name

just-written : (name text : List ℕ) (held : Held) → with_bytes name text held name ≡ Some text
just-written name text held = ap (λ (b : Bool). if b then Some text else held name) ((bytes_eq-Decides name name).1 refl)

-- a file that is written holds its text then, where no later one has its name
first-holds : (log : LogState) (answer : List ℕ) (o : Output) (rest : List Output) (before after : Option Held) → AllNamed (Other o.name) rest → AreWritten log answer (o ∷ rest) before after → HoldsText after o.name (IsTextOf o.content log answer)
first-holds log answer o rest None after all h =
    let same = written-same (Other o.name) log answer rest None after all h.2 in
    subst (λ (x : Option Held). HoldsText x o.name (IsTextOf o.content log answer)) (sym same) tt
first-holds log answer o rest (Some held) None all h = tt
first-holds log answer o rest (Some held) (Some later) all h =
    let same = written-same (Other o.name) log answer rest (Some (with_bytes o.name h.0 held)) (Some later) all h.2 in
    (h.0, same o.name (λ other. other refl) ∙ just-written o.name h.0 held, h.1)

behind-front : (log : LogState) (answer : List ℕ) (front rest : List Output) (a c : Option Held) → AreWritten log answer (front ++ rest) a c → (b : Option Held) × AreWritten log answer rest b c
behind-front log answer [] rest a c h = (a, h)
behind-front log answer (o ∷ os) rest a c h = behind-front log answer os rest (option_map (with_bytes o.name h.0) a) c h.2

others-named : (content : Content) (output : Option (List ℕ)) (name : List ℕ) → output ≢ Some name → AllNamed (Other name) (named content output)
unfolding named
others-named content None name other = All-nil (λ (x : Output). Other name x.name)
others-named content (Some found) name other =
    All-cons (λ (x : Output). Other name x.name) (record { content = content; name = found }) [] (λ same. other (ap Some same)) (All-nil (λ (x : Output). Other name x.name))

formula-holds : (log : LogState) (answer : List ℕ) (o : Outputs) (name : List ℕ) (before after : Option Held) → o.formula ≡ Some name → o.log ≢ Some name → o.solution ≢ Some name → AreWritten log answer (outputs_in_order o) before after → HoldsText after name (IsFormulaText log)
unfolding outputs_in_order named
formula-holds log answer o name before after is log-other solution-other h =
    let rest : List Output = named steps o.log ++ named an_answer o.solution in
    let W : Option (List ℕ) → Type 0 = λ f. AreWritten log answer (named a_formula f ++ rest) before after in
    let all : AllNamed (Other name) rest = All-append (λ (x : Output). Other name x.name) (named steps o.log) (named an_answer o.solution) (others-named steps o.log name log-other) (others-named an_answer o.solution name solution-other) in
    let mine : W (Some name) = subst W is h in
    first-holds log answer (record { content = a_formula; name = name }) rest before after all mine

log-holds : (log : LogState) (answer : List ℕ) (o : Outputs) (name : List ℕ) (before after : Option Held) → o.log ≡ Some name → o.solution ≢ Some name → AreWritten log answer (outputs_in_order o) before after → HoldsText after name (IsStepsText log)
unfolding outputs_in_order named
log-holds log answer o name before after is solution-other h =
    let rest : List Output = named an_answer o.solution in
    let behind = behind-front log answer (named a_formula o.formula) (named steps o.log ++ rest) before after h in
    let W : Option (List ℕ) → Type 0 = λ f. AreWritten log answer (named steps f ++ rest) behind.0 after in
    let mine : W (Some name) = subst W is behind.1 in
    first-holds log answer (record { content = steps; name = name }) rest behind.0 after (others-named an_answer o.solution name solution-other) mine

abbrev written-of : (words : List (List ℕ)) (wanted : Wanted) (text : List ℕ) (log : LogState) (before after : Option Held) → WantOne words → Want words wanted → HasOutput words text log before after → AreWritten log text (written_for wanted) before after
written-of words wanted text log before after one want h =
    subst (λ (w : Wanted). AreWritten log text (written_for w) before after) (one h.0 wanted h.1 want) h.2

pub formula-stands : (words : List (List ℕ)) (text : List ℕ) (log : LogState) (before after : Option Held) → WantOne words → HasOutput words text log before after → (model : List ℕ) (params : Option (List ℕ)) (mode : Mode) (request : Request) (outputs : Outputs) → Want words (Wanted.Search model params mode request outputs) → (name : List ℕ) → outputs.formula ≡ Some name → outputs.log ≢ Some name → outputs.solution ≢ Some name → HoldsText after name (IsFormulaText log)
unfolding written_for
formula-stands words text log before after one h model params mode request outputs want name is log-other solution-other =
    formula-holds log text outputs name before after is log-other solution-other (written-of words (Wanted.Search model params mode request outputs) text log before after one want h)

pub log-stands : (words : List (List ℕ)) (text : List ℕ) (log : LogState) (before after : Option Held) → WantOne words → HasOutput words text log before after → (model : List ℕ) (params : Option (List ℕ)) (mode : Mode) (request : Request) (outputs : Outputs) → Want words (Wanted.Search model params mode request outputs) → (name : List ℕ) → outputs.log ≡ Some name → outputs.solution ≢ Some name → HoldsText after name (IsStepsText log)
unfolding written_for
log-stands words text log before after one h model params mode request outputs want name is solution-other =
    log-holds log text outputs name before after is solution-other (written-of words (Wanted.Search model params mode request outputs) text log before after one want h)

-- the texts of a number are answered, and written where files are named for them
pub generated-stands : (words : List (List ℕ)) (before after : Option Held) (status : Status) (text : List ℕ) (log : LogState) (Took : List ℕ → Type 0) (number conflicts : ℕ) (eprime param : Option (List ℕ)) → WantOne words
    → Want words (Wanted.Generate number conflicts eprime param) → AnswersNumber number conflicts status text log → HasOutput words text log before after → Took text
    → (task : Task) × (t : List ℕ) × comes_to_generate number conflicts (Ok task) × Settles task status t log × Took t × AreWritten log t (for_texts number eprime param) before after
unfolding written_for
generated-stands words before after status text log Took number conflicts eprime param once want answers put took =
    (answers.0, text, answers.1, answers.2, took, written-of words (Wanted.Generate number conflicts eprime param) text log before after once want put)
