-- The lines of answers to pseudo-Boolean problems.
use Rattle.std.specs.Prelude.{ℕ, Bool, true, false, List, ◌++◌, codes, Some, None}
use Rattle.std.specs.Fmt.{decimal}
use Rattle.std.specs.List.{flat_map}
use Rattle.opb_answer.specs.Answers.{OpbFound, no_solution, optimum, solution, unknown}
use Rattle.opb_answer.specs.declared.answers.OpbValue.{OpbValue}

-- what stands before the number of a variable with this truth value
abbrev pub before_number : Bool → List ℕ
before_number true = codes " x"
before_number false = codes " -x"

-- the word of a variable with its truth value
abbrev pub value_word : OpbValue → List ℕ
value_word v = before_number v.holds ++ decimal v.var

-- the line of values: a word for each
abbrev pub values_line : List OpbValue → List ℕ
values_line values = codes "v" ++ (flat_map value_word values ++ codes "\n")

-- The lines of an answer: one that says what was found, and for a solution that of its values.
unfoldable pub answer_lines : OpbFound → List ℕ
answer_lines (solution values) = codes "s SATISFIABLE\n" ++ values_line values
answer_lines (optimum values) = codes "s OPTIMUM FOUND\n" ++ values_line values
answer_lines no_solution = codes "s UNSATISFIABLE\n"
answer_lines (unknown None) = codes "s UNKNOWN\n"
answer_lines (unknown (Some values)) = codes "s SATISFIABLE\n" ++ values_line values
