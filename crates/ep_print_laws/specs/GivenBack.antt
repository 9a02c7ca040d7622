-- Printed answers, read as solution texts: they give an instance the assignment back that was printed.
use Rattle.std.specs.Prelude.{◌≡◌, ℕ, ℤ, ◌≤◌, Bool, true, not, ◌&&◌, List, [], ◌∷◌, length, map, IsTrue, false, nat_lt, if◌then◌else◌, Ok, Err}
use Rattle.std.specs.List.{All, list_all, list_any}
use Rattle.ep_base.specs.Runs.{IsAscending}
use Rattle.ep_base.specs.TokenTexts.{is_name, is_word}
use Rattle.ep_base.specs.Reads.{is_too_far}
use Rattle.ep_base.specs.declared.operators.Limit.{Limit}
use Rattle.ep_tree.specs.Binding.{Find, Instance, bind, over_limit}
use Rattle.ep_tree.specs.Closed.{IsClosed}
use Rattle.ep_tree.specs.Faults.{params_faults}
use Rattle.ep_tree.specs.Limits.{MOST_SIZE}
use Rattle.ep_tree.specs.Measures.{met, size_of}
use Rattle.ep_tree.specs.Names.{nothing_known}
use Rattle.ep_tree.specs.Placeless.{SameButPlaces}
use Rattle.ep_tree.specs.Reading.{MOST_HEIGHT}
use Rattle.ep_tree.specs.SolutionTexts.{fits, read_solution}
use Rattle.ep_tree.specs.Solutions.{Assigned, Fits, Found, IsWritten, NamedValue, found_of}
use Rattle.ep_tree.specs.StatementSpelling.{SpellsParams}
use Rattle.ep_tree.specs.Statements.{TextTree, text_height}
use Rattle.ep_tree.specs.Texts.{AnswersParams, IsSpellable, MOST_BYTES, SpellsText, read_as}
use Rattle.ep_tree.specs.Types.{scalar_of}
use Rattle.ep_tree.specs.Values.{ValueTree, ValueTrees, matrix, no_values, single, value_and}
use Rattle.ep_tree.specs.declared.values.Mode.{Mode}
use Rattle.ep_print.specs.Answers.{AnswerTree, answer_text}
use Rattle.ep_print_laws.specs.Answered.{IsInOrder, letting_of, value_expr, values_in}

-- whether a number is within the limit of reach
unfoldable pub is_near : ℤ → Bool
is_near n = not (is_too_far n)

unfoldable mutual
  -- whether each number in a value is within the limit of reach, and each index
  pub is_near_value : ValueTree → Bool
  is_near_value (single n) = is_near n
  is_near_value (matrix indices parts) = list_all is_near indices && are_near_values parts

  -- the same of each part of a matrix
  pub are_near_values : ValueTrees → Bool
  are_near_values no_values = true
  are_near_values (value_and v vs) = is_near_value v && are_near_values vs

-- A value that can be read again: in order, and within the limit of reach.
pub record CanBeRead (g : NamedValue) : Type 0 where
  pub in_order : IsInOrder (scalar_of g.ty) g.value
  pub near : IsTrue (is_near_value g.value)

-- The domain of a decision variable as binding gives it: its index domains ascend, and each number is within the limit
-- of reach.
pub record IsNearDomain (f : Find) : Type 0 where
  pub ascend : All IsAscending f.indices
  pub indices : IsTrue (list_all (list_all is_near) f.indices)
  pub values : IsTrue (list_all is_near f.values)

-- The name of a decision variable is one of the language.
pub record HasName (f : Find) : Type 0 where
  pub name : IsTrue (is_name f.name)
  pub no_word : is_word f.name ≡ false

-- whether more nodes are met in the letting of a value than may be
unfoldable pub is_large : Mode → NamedValue → Bool
is_large mode g = nat_lt MOST_SIZE (size_of (met mode nothing_known (value_expr (scalar_of g.ty) g.value)))

-- A solution text gives an instance these values of its decision variables: it has no fault, and what reading it gives
-- is the assignment that has them, unless the letting of one of the values that were printed is too large.
pub record GivesBack (mode : Mode) (i : Instance) (printed : Assigned) (found : Found) (text : TextTree) : Type 0 where
  pub faultless : params_faults text ≡ []
  pub read : Assigned
  pub same : found_of read ≡ found
  pub answer : read_solution mode i text
      ≡ (if list_any (is_large mode) printed then Err (over_limit Limit.Size ∷ []) else Ok (fits read))

-- The lettings of an answer whose values fit an instance, and can be read again, give the instance the values back, each
-- fitted into its domain.
abbrev pub AnswerGivesValuesBack : Type 0
AnswerGivesValuesBack =
    (mode : Mode) (i : Instance) → IsClosed i
    → (answer : AnswerTree) (found : Found) → Fits i (values_in answer) found → All CanBeRead (values_in answer)
    → (text : TextTree) → SameButPlaces text (map letting_of (values_in answer))
    → GivesBack mode i (values_in answer) found text

-- A solution text gives an instance exactly this assignment: it has no fault, and what reading it gives is the assignment,
-- unless the letting of one of its values is too large.
pub record GivesItselfBack (mode : Mode) (i : Instance) (a : Assigned) (text : TextTree) : Type 0 where
  pub faultless : params_faults text ≡ []
  pub answer : read_solution mode i text
      ≡ (if list_any (is_large mode) a then Err (over_limit Limit.Size ∷ []) else Ok (fits a))

-- the lettings of an answer whose values are written as the instance states them give it this same assignment back
abbrev pub AnswerGivesItselfBack : Type 0
AnswerGivesItselfBack =
    (mode : Mode) (i : Instance) → IsClosed i → All IsNearDomain i.finds
    → (answer : AnswerTree) → IsWritten i (values_in answer)
    → (text : TextTree) → SameButPlaces text (map letting_of (values_in answer))
    → GivesItselfBack mode i (values_in answer) text

-- binding gives decision variables whose domains are near
abbrev pub BoundDomainsAreNear : Type 0
BoundDomainsAreNear =
    (mode : Mode) (model params : TextTree) (i : Instance) → bind mode model params ≡ Ok i → All IsNearDomain i.finds

-- binding gives decision variables with names of the language, where some text spells the model
abbrev pub BoundNamesAreNames : Type 0
BoundNamesAreNames =
    (mode : Mode) (model params : TextTree) (i : Instance) → IsSpellable model → bind mode model params ≡ Ok i
    → All HasName i.finds

-- A text is a solution text that gives an instance exactly this assignment; where it is neither too long nor too high it
-- is read so.
pub record TextGivesBack (mode : Mode) (i : Instance) (a : Assigned) (text : List ℕ) : Type 0 where
  pub tree : TextTree
  pub spelled : SpellsText SpellsParams tree text
  pub gives : GivesItselfBack mode i a tree
  pub within : length text ≤ MOST_BYTES → text_height tree ≤ MOST_HEIGHT → AnswersParams text (read_as tree)

-- The text of an answer gives the instance its assignment back: of an instance that a model which some text spells is
-- bound to, and of an answer whose values are written as the instance states them.
abbrev pub AnswerTextIsReadAgain : Type 0
AnswerTextIsReadAgain =
    (mode : Mode) (model params : TextTree) (i : Instance) → IsSpellable model → bind mode model params ≡ Ok i → IsClosed i
    → (answer : AnswerTree) → IsWritten i (values_in answer)
    → TextGivesBack mode i (values_in answer) (answer_text answer)
