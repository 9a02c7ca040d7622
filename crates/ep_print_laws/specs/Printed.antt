-- Printed models, spelled and read again.
use Rattle.std.specs.Prelude.{◌≡◌, ℕ, ◌≤◌, List, length}
use Rattle.ep_print.specs.Models.{model_text}
use Rattle.ep_tree.specs.Placeless.{SameButPlaces}
use Rattle.ep_tree.specs.Reading.{MOST_HEIGHT}
use Rattle.ep_tree.specs.StatementSpelling.{SpellsModel}
use Rattle.ep_tree.specs.Statements.{TextTree, text_height}
use Rattle.ep_tree.specs.Texts.{AnswersModel, IsSpellable, MOST_BYTES, SpellsText, read_as}

-- A text spells a model again: as a tree that is the same, places aside, and as high.
pub record SpellsAgain (model : TextTree) (text : List ℕ) : Type 0 where
  pub again : TextTree
  pub spelled : SpellsText SpellsModel again text
  pub same : SameButPlaces again model
  pub high : text_height again ≡ text_height model

-- where some text spells a model, its printed text spells it again
abbrev pub PrintedModelSpellsAgain : Type 0
PrintedModelSpellsAgain = (model : TextTree) → IsSpellable model → SpellsAgain model (model_text model)

-- within the limits of a text a printed model is read as the same model, places aside
abbrev pub PrintedModelIsReadAgain : Type 0
PrintedModelIsReadAgain =
    (model : TextTree) → IsSpellable model → length (model_text model) ≤ MOST_BYTES → text_height model ≤ MOST_HEIGHT
    → (again : TextTree) × SameButPlaces again model × AnswersModel (model_text model) (read_as again)
