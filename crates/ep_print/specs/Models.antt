-- The texts of models: the language line, and each statement's words on a line of its own, with a space between any two.
use Rattle.std.specs.Prelude.{ℕ, List, ◌++◌, codes}
use Rattle.std.specs.List.{flat_map}
use Rattle.ep_tree.specs.Statements.{StatementTree, TextTree}
use Rattle.ep_print.specs.Answers.{language_line}
use Rattle.ep_print.specs.Joining.{with_between}
use Rattle.ep_print.specs.Words.{statement_words}

-- the line of a statement
unfoldable pub statement_text : StatementTree → List ℕ
statement_text s = with_between (codes " ") (statement_words s) ++ codes "\n"

-- the text of a model
unfoldable pub model_text : TextTree → List ℕ
model_text model = language_line ++ flat_map statement_text model
