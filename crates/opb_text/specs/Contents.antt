-- Pseudo-Boolean problems.
use Rattle.std.specs.Prelude.{ℕ, ℤ, Bool, List, [], ◌++◌, map, Option, unwrap_or}
use Rattle.std.specs.List.{flat_map}
use Rattle.opb_text.specs.declared.content.OpbTerm.{OpbTerm}

-- a constraint: its terms, whether their sum has to be equal to the right side or only at least that, and the right side
pub record OpbConstraint : Type 0 where
  pub terms : List OpbTerm
  pub equal : Bool
  pub right : ℤ

-- a problem: the objective, where one is stated, and the constraints
pub record OpbContent : Type 0 where
  pub objective : Option (List OpbTerm)
  pub rows : List OpbConstraint

-- the terms of the objective, none where none is stated
abbrev pub objective_terms : OpbContent → List OpbTerm
objective_terms content = unwrap_or content.objective []

-- all terms of a problem
abbrev pub all_terms : OpbContent → List OpbTerm
all_terms content = objective_terms content ++ flat_map (λ row. row.terms) content.rows

-- the variables that stand in a problem, as often as they stand there
abbrev pub named_variables : OpbContent → List ℕ
named_variables content = map (λ t. t.var) (all_terms content)
