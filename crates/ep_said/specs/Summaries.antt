-- The summary of what the texts of a number came to: the number, the order of its square, and what was found, without values.
use Rattle.std.specs.Prelude.{ℕ, List, ◌++◌, codes}
use Rattle.std.specs.Fmt.{decimal, signed_decimal}
use Rattle.ep_gen.specs.Hints.{order_of}
use Rattle.ep_print.specs.Answers.{AnswerTree, no_solution, optimum, solution, unknown, unknown_text, unknown_with}

-- the line of an answer that says what was found
unfoldable pub found_line : AnswerTree → List ℕ
found_line (solution a) = codes "$ solution\n"
found_line (optimum goal a) = codes "$ optimum " ++ (signed_decimal goal ++ codes "\n")
found_line no_solution = codes "$ no solution\n"
found_line (unknown conflicts) = unknown_text conflicts
found_line (unknown_with conflicts goal a) = unknown_text conflicts

-- the summary of a number and an answer
unfoldable pub summary_text : ℕ → AnswerTree → List ℕ
summary_text number answer =
    codes "$ generated " ++ (decimal number
    ++ (codes "\n$ order " ++ (decimal (order_of number) ++ (codes "\n" ++ found_line answer))))
