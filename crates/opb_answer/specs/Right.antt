-- Which answers are right for a pseudo-Boolean problem.
use Rattle.std.specs.Prelude.{◌≡◌, ℕ, Bool, IsSome, List, map, Some, None}
use Rattle.opb_answer.specs.Answers.{OpbFound, no_solution, optimum, solution, truths_in, unknown}
use Rattle.opb_answer.specs.declared.answers.OpbValue.{OpbValue}
use Rattle.opb_text.specs.Contents.{OpbContent}
use Rattle.opb_text.specs.Solutions.{IsOpbSolution, IsOptimalOpb}
use Rattle.opb_text.specs.Weights.{AreVariablesOf}

-- values are of the variables that stand in a problem, in ascending order, each once
abbrev pub AreOfAllVariables : OpbContent → List OpbValue → Type 0
AreOfAllVariables content values = AreVariablesOf content (map (λ v. v.var) values)

-- values of all variables are a solution
pub record SolvesOpb (content : OpbContent) (values : List OpbValue) : Type 0 where
  pub variables : AreOfAllVariables content values
  pub solution : IsOpbSolution content (truths_in values)

-- values of all variables are an optimal solution
pub record IsOpbOptimum (content : OpbContent) (values : List OpbValue) : Type 0 where
  pub variables : AreOfAllVariables content values
  pub optimal : IsOptimalOpb content (truths_in values)

-- An answer is right: a solution where no objective is stated; an optimal solution where one is; that no assignment is a
-- solution; or that the conflicts were spent, where what is at hand is a solution and an objective is stated.
unfoldable pub IsRightOpb : OpbContent → OpbFound → Type 0
IsRightOpb content (solution values) = (content.objective ≡ None) × SolvesOpb content values
IsRightOpb content (optimum values) = IsSome content.objective × IsOpbOptimum content values
IsRightOpb content no_solution = (truths : ℕ → Bool) → ¬ IsOpbSolution content truths
IsRightOpb content (unknown None) = Unit {0}
IsRightOpb content (unknown (Some values)) = IsSome content.objective × SolvesOpb content values
