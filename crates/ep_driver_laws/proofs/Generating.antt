-- The texts of a number show a task, and no refusal.
use Rattle.std.proofs.Common.{◌≡◌, ℕ, List, Option, Ok, Err, Result, inl, inr, refl, sym, ap, subst, ◌∙◌}
use Rattle.ep_base.specs.Outside.{Held}
use Rattle.ep_gen.specs.Texts.{generated_model, generated_params}
use Rattle.ep_gen_laws.specs.Instances.{EachNumberGivesInstance, GivesInstance}
use Rattle.ep_print.specs.declared.refusals.Refusal.{Refusal}
use Rattle.ep_print.specs.declared.refusals.TextFile.{TextFile}
use Rattle.ep_tree.specs.Statements.{TextTree}
use Rattle.ep_tree.specs.Texts.{AnswersModel, AnswersParams, TextAnswer, read_as}
use Rattle.ep_tree.specs.declared.values.Mode.{Mode}
use Rattle.ep_driver.specs.Commands.{Want}
use Rattle.ep_driver.specs.Outcomes.{Outcome, Task, and_then, as_outcome, instance_of, search_outcome, searched_task, to_generate, unless_refused}
use Rattle.ep_files.specs.Readings.{tree_or_refusal}
use Rattle.ep_driver.specs.Shown.{ComesTo, Show, comes_to_generate, comes_to_parameters}
use Rattle.ep_driver.specs.declared.wanted.Request.{Request}
use Rattle.ep_driver.specs.declared.wanted.Wanted.{Wanted}
use Rattle.ep_driver_laws.proofs.Checking.{wants_one}
use Rattle.ep_driver_laws.specs.Generated.{NumbersAreNeverRefused}

-- a text has one answer at most
abbrev OneAnswer : (List ℕ → TextAnswer → Type 0) → Type 0
OneAnswer answers = (text : List ℕ) (one other : TextAnswer) → answers text one → answers text other → one ≡ other

-- what is read of the texts is the task of their instance
outcome_is : (number conflicts : ℕ) (g : GivesInstance number) → search_outcome Mode.Relational (Request.Generated number conflicts) g.model g.params ≡ Ok (to_generate number Mode.Relational g.instance conflicts)
unfolding search_outcome unless_refused instance_of as_outcome and_then searched_task
outcome_is number conflicts g = rw (g.model_is_faultless, g.params_are_faultless, g.bound, g.within) refl

module _ (models : OneAnswer AnswersModel) (params : OneAnswer AnswersParams) where
  -- a text that is read as a tree is read as this one, and isn't refused
  read_same : (one other : TextTree) (answer : TextAnswer) (file : TextFile) → answer ≡ read_as one → ◌≡◌ {A = Result TextTree Refusal} (Ok other) (tree_or_refusal file answer) → other ≡ one
  unfolding tree_or_refusal
  read_same one other answer file e h = let same : ◌≡◌ {A = Result TextTree Refusal} (Ok other) (Ok one) = h ∙ ap (tree_or_refusal file) e in cc

  never_stops : (one : TextTree) (refusal : Refusal) (answer : TextAnswer) (file : TextFile) → answer ≡ read_as one → ◌≡◌ {A = Result TextTree Refusal} (Err refusal) (tree_or_refusal file answer) → ⊥
  unfolding tree_or_refusal
  never_stops one refusal answer file e h = let wrong : ◌≡◌ {A = Result TextTree Refusal} (Err refusal) (Ok one) = h ∙ ap (tree_or_refusal file) e in cc

  task_comes : (number conflicts : ℕ) (g : GivesInstance number) → comes_to_generate number conflicts (Ok (to_generate number Mode.Relational g.instance conflicts))
  unfolding tree_or_refusal
  task_comes number conflicts g =
      inl (g.model, (read_as g.model, g.model_is_read, refl), inl (g.params, (read_as g.params, g.params_are_read, refl), sym (outcome_is number conflicts g)))

  parameters_never : (number conflicts : ℕ) (g : GivesInstance number) (refusals : List Refusal) → comes_to_parameters number conflicts g.model (Err refusals) → ⊥
  parameters_never number conflicts g refusals (inl h) =
      let same : h.0 ≡ g.params = read_same g.params h.0 h.1.0 TextFile.Params (params (generated_params number) h.1.0 (read_as g.params) h.1.1 g.params_are_read) h.1.2 in
      let wrong : ◌≡◌ {A = Outcome Task} (Err refusals) (Ok (to_generate number Mode.Relational g.instance conflicts)) =
      h.2 ∙ ap (search_outcome Mode.Relational (Request.Generated number conflicts) g.model) same ∙ outcome_is number conflicts g in
      cc
  parameters_never number conflicts g refusals (inr h) =
      never_stops g.params h.0 h.1.0 TextFile.Params (params (generated_params number) h.1.0 (read_as g.params) h.1.1 g.params_are_read) h.1.2

  never_comes : (number conflicts : ℕ) (g : GivesInstance number) (refusals : List Refusal) → comes_to_generate number conflicts (Err refusals) → ⊥
  never_comes number conflicts g refusals (inl h) =
      let same : h.0 ≡ g.model = read_same g.model h.0 h.1.0 TextFile.Model (models generated_model h.1.0 (read_as g.model) h.1.1 g.model_is_read) h.1.2 in
      parameters_never number conflicts g refusals (subst (λ (m : TextTree). comes_to_parameters number conflicts m (Err refusals)) same h.2)
  never_comes number conflicts g refusals (inr h) =
      never_stops g.model h.0 h.1.0 TextFile.Model (models generated_model h.1.0 (read_as g.model) h.1.1 g.model_is_read) h.1.2

  never_shown : (words : List (List ℕ)) (number conflicts : ℕ) (eprime param : Option (List ℕ)) → Want words (Wanted.Generate number conflicts eprime param) → GivesInstance number → (held : Held) (refusals : List Refusal) → Show words held (Err refusals) → ⊥
  never_shown words number conflicts eprime param want g held refusals (inl none) = none.0 (Wanted.Generate number conflicts eprime param) want
  never_shown words number conflicts eprime param want g held refusals (inr is) =
      let wanted : is.0 ≡ Wanted.Generate number conflicts eprime param = wants_one words is.0 (Wanted.Generate number conflicts eprime param) is.1 want in
      never_comes number conflicts g refusals (subst (λ (w : Wanted). ComesTo w held (Err refusals)) wanted is.2)

  pub never_refused : EachNumberGivesInstance → NumbersAreNeverRefused
  never_refused gives words number conflicts eprime param want =
      let g : GivesInstance number = gives number in
      record {
        instance = g.instance;
        asked = λ held. inr (Wanted.Generate number conflicts eprime param, want, task_comes number conflicts g);
        never_refused = λ held refusal h. never_shown words number conflicts eprime param want g held h.0 h.1;
      }
