-- The code's problems and answers, without where their lists lie in memory.
use Rattle.std.specs.Prelude.{option_map}
use Rattle.ep_flat.specs.FlatViews.{plain_map}
use Rattle.ep_answer.specs.Answered.{FoundCells, ListingEnd, solution, optimum, no_solution, unknown, complete, stopped, spent}
use Rattle.ep_answer.specs.Problems.{ProblemState}
use Rattle.ep_answer.specs.declared.answers.CellAnswer.{CellAnswer}
use Rattle.ep_answer.specs.declared.answers.CellAnswer.TheVariants as code
use Rattle.ep_answer.specs.declared.answers.End.{End}
use Rattle.ep_answer.specs.declared.answers.End.TheVariants as ends
use Rattle.ep_answer.specs.declared.problem.Problem.{Problem}

-- a problem with plain lists in place of the vectors
abbrev pub plain_problem : Problem → ProblemState
plain_problem p = record {
  layout = p.layout;
  cells = p.cells.items;
  variables = plain_map p.map;
  solver = p.solver;
}

-- an answer with plain lists in place of the vectors
abbrev pub plain_answer : CellAnswer → FoundCells
plain_answer (code.Solution cells) = solution cells.items
plain_answer (code.Optimum number cells) = optimum number cells.items
plain_answer code.NoSolution = no_solution
plain_answer (code.Unknown best) = unknown (option_map (λ one. (one.0, one.1.items)) best)

-- the end of a listing
abbrev pub plain_end : End → ListingEnd
plain_end ends.Complete = complete
plain_end ends.Stopped = stopped
plain_end ends.Spent = spent
