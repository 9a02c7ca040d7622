-- Answers to pseudo-Boolean problems.
use Rattle.std.specs.Prelude.{ℕ, Bool, false, ◌==◌, if◌then◌else◌, List, [], ◌∷◌, Option, option_map}
use Rattle.opb_answer.specs.declared.answers.OpbAnswer.{OpbAnswer}
use Rattle.opb_answer.specs.declared.answers.OpbAnswer.TheVariants as code
use Rattle.opb_answer.specs.declared.answers.OpbValue.{OpbValue}

-- A solution where no objective is stated, one with the smallest objective, that there is none, or that the conflicts were
-- spent, with the best solution so far where there is one. A solution is a list of variables with their truth values.
pub data OpbFound : Type 0 where
  solution : List OpbValue → OpbFound
  optimum : List OpbValue → OpbFound
  no_solution : OpbFound
  unknown : Option (List OpbValue) → OpbFound

-- an answer with plain lists in place of the vectors
abbrev pub plain_found : OpbAnswer → OpbFound
plain_found (code.Solution values) = solution values.items
plain_found (code.Optimum values) = optimum values.items
plain_found code.NoSolution = no_solution
plain_found (code.Unknown values) = unknown (option_map (λ vs. vs.items) values)

-- The assignment that a list of values gives: a variable is true where its first value says so, and one without a value is
-- false.
abbrev pub truths_in : List OpbValue → ℕ → Bool
truths_in [] var = false
truths_in (v ∷ values) var = if v.var == var then v.holds else truths_in values var
