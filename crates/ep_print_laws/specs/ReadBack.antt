-- What the text of an answer may be read as.
use Rattle.std.specs.Prelude.{◌≡◌, Ok}
use Rattle.ep_tree.specs.Binding.{Instance, bind}
use Rattle.ep_tree.specs.Closed.{IsClosed}
use Rattle.ep_tree.specs.Solutions.{Assigned, Fits, Found, IsSolution, IsWritten, a_solution, goal_value, judgement}
use Rattle.ep_tree.specs.Statements.{TextTree}
use Rattle.ep_tree.specs.Texts.{AnswersParams, IsSpellable, TextAnswer, bad_byte, long_number, read_as, syntax_fault, too_high, too_long}
use Rattle.ep_tree.specs.declared.values.Mode.{Mode}
use Rattle.ep_print.specs.Answers.{AnswerTree, answer_text}
use Rattle.ep_print_laws.specs.Answered.{values_in}
use Rattle.ep_print_laws.specs.GivenBack.{GivesItselfBack}

-- what a text is read as gives an instance exactly this assignment, or the text is too long or too high
abbrev pub IsReadBack : Mode → Instance → Assigned → TextAnswer → Type 0
IsReadBack mode i a (read_as tree) = GivesItselfBack mode i a tree
IsReadBack mode i a too_long = Unit {0}
IsReadBack mode i a (too_high place) = Unit {0}
IsReadBack mode i a (bad_byte place) = ⊥
IsReadBack mode i a (long_number place) = ⊥
IsReadBack mode i a (syntax_fault place) = ⊥

-- Whatever the text of an answer is read as, it is read back: of an instance that a model which some text spells is bound
-- to, and of an answer whose values are written as the instance states them.
abbrev pub AnswerIsReadBack : Type 0
AnswerIsReadBack =
    (mode : Mode) (model params : TextTree) (i : Instance) → IsSpellable model → bind mode model params ≡ Ok i → IsClosed i
    → (answer : AnswerTree) → IsWritten i (values_in answer)
    → (said : TextAnswer) → AnswersParams (answer_text answer) said → IsReadBack mode i (values_in answer) said

-- A solution is judged to be one, with the objective's number where one is stated, whatever its values are fitted to.
abbrev pub SolutionIsJudgedOne : Type 0
SolutionIsJudgedOne =
    (mode : Mode) (i : Instance) (a : Assigned) → IsSolution mode i a
    → (found : Found) → Fits i a found → judgement mode i found ≡ a_solution (goal_value mode i found)
