-- The texts of answers: the language line, a comment that says what was found, and a letting for each value.
use Rattle.std.specs.Prelude.{ℕ, ℤ, List, ◌++◌, codes, Option, Some, None}
use Rattle.std.specs.Fmt.{decimal, signed_decimal}
use Rattle.std.specs.List.{All, flat_map}
use Rattle.ep_tree.specs.Solutions.{Assigned, NamedValue}
use Rattle.ep_tree.specs.TypedValues.{IsOf}
use Rattle.ep_tree.specs.Views.{assigned}
use Rattle.ep_print.specs.Values.{value_text}
use Rattle.ep_print.specs.declared.answers.Answer.{Answer}
use Rattle.ep_print.specs.declared.answers.Answer.TheVariants.{NoSolution, Optimum, Solution, Unknown}
use Rattle.ep_tree.specs.declared.values.Assignment.{Assignment}

-- an answer over plain values
pub data AnswerTree : Type 0 where
  solution : Assigned → AnswerTree
  optimum : ℤ → Assigned → AnswerTree
  no_solution : AnswerTree
  unknown : ℕ → AnswerTree
  unknown_with : ℕ → ℤ → Assigned → AnswerTree

-- an answer of a spent budget, with or without a solution at hand
unfoldable pub unknown_tree : ℕ → Option (ℤ × Assignment) → AnswerTree
unknown_tree conflicts None = unknown conflicts
unknown_tree conflicts (Some found) = unknown_with conflicts found.0 (assigned found.1)

-- the code's answer, read as a plain one
unfoldable pub answer_tree : Answer → AnswerTree
answer_tree (Solution a) = solution (assigned a)
answer_tree (Optimum goal a) = optimum goal (assigned a)
answer_tree NoSolution = no_solution
answer_tree (Unknown conflicts incumbent) = unknown_tree conflicts incumbent

-- the values of an assignment are of their types
abbrev pub AreTyped : Assigned → Type 0
AreTyped = All (λ g. IsOf g.ty g.value)

-- each value that an answer names is of its type
abbrev pub HasTypedValues : AnswerTree → Type 0
HasTypedValues (solution a) = AreTyped a
HasTypedValues (optimum goal a) = AreTyped a
HasTypedValues no_solution = Unit {0}
HasTypedValues (unknown conflicts) = Unit {0}
HasTypedValues (unknown_with conflicts goal a) = AreTyped a

-- the line with which each text begins
abbrev pub language_line : List ℕ
language_line = codes "language ESSENCE' 1.0\n"

-- a name has a value
unfoldable pub letting_text : NamedValue → List ℕ
letting_text g = codes "letting " ++ (g.name ++ (codes " be " ++ (value_text g.ty g.value ++ codes "\n")))

-- one line for each name, in their order
abbrev pub letting_texts : Assigned → List ℕ
letting_texts = flat_map letting_text

-- the budget was spent after so many conflicts
abbrev pub unknown_text : ℕ → List ℕ
unknown_text conflicts = codes "$ unknown " ++ (decimal conflicts ++ codes " conflicts\n")

-- the text of an answer
unfoldable pub answer_text : AnswerTree → List ℕ
answer_text (solution a) = language_line ++ (codes "$ solution\n" ++ letting_texts a)
answer_text (optimum goal a) =
    language_line ++ (codes "$ optimum " ++ (signed_decimal goal ++ (codes "\n" ++ letting_texts a)))
answer_text no_solution = language_line ++ codes "$ no solution\n"
answer_text (unknown conflicts) = language_line ++ unknown_text conflicts
answer_text (unknown_with conflicts goal a) =
    language_line ++ (unknown_text conflicts
    ++ (codes "$ incumbent " ++ (signed_decimal goal ++ (codes "\n" ++ letting_texts a))))
