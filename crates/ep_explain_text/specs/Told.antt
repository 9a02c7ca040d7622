-- What is told of an instance that is to be explained.
use Rattle.std.specs.Prelude.{◌≡◌, ℕ}
use Rattle.cnf_core.specs.Events.{LogState}
use Rattle.ep_explain.specs.Tried.{IsLogOfAttempt, IsRightExplanation, ends_spent}
use Rattle.ep_explain.specs.declared.explaining.Explained.{Explained}
use Rattle.ep_explain_text.specs.ExplanationTexts.{explanation_text}
use Rattle.ep_explain_text.specs.declared.telling.Told.{Told}
use Rattle.ep_tree.specs.Binding.{Instance}
use Rattle.ep_tree.specs.declared.values.Mode.{Mode}

-- What is told is the text of something that is right, and says whether the conflicts were spent; the log is that of an attempt, and shows
-- that they were, if so.
pub record IsTold (mode : Mode) (i : Instance) (conflicts : ℕ) (log : LogState) (told : Told) : Type 0 where
  pub said : Explained
  pub right : IsRightExplanation mode i conflicts log said
  pub logged : IsLogOfAttempt mode i conflicts log
  pub ends : told.is_open ≡ ends_spent said
  pub text_is : told.text.items ≡ explanation_text conflicts said
