-- What a search adds to a log.
use Rattle.std.specs.Prelude.{◌≡◌, None, Some}
use Rattle.cnf_core.specs.Events.{LogState, givens}
use Rattle.ep_answer.specs.Answered.{FoundCells, Improves, no_solution, optimum, solution, unknown}
use Rattle.ep_answer.specs.Problems.{ProblemState}

-- the givens which say that the objective is better, where a better solution was looked for behind one, and else none
unfoldable pub AddsBounds : ProblemState → FoundCells → LogState → LogState → Type 0
AddsBounds p (solution cells) old new = givens new.events ≡ givens old.events
AddsBounds p (optimum number cells) old new = Improves p old new (optimum number cells)
AddsBounds p no_solution old new = givens new.events ≡ givens old.events
AddsBounds p (unknown None) old new = givens new.events ≡ givens old.events
AddsBounds p (unknown (Some best)) old new = Improves p old new (unknown (Some best))
