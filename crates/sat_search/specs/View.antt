-- A solver as its callers see it.
use Rattle.std.specs.Prelude.{ℕ, Bool, true, Option, List}
use Rattle.cnf_core.specs.Literal.{Literal, is_among}

-- the clauses in order, whether a call was refused memory, and the literals that are kept true where the last answer was Sat
pub record SolverView : Type 0 where
  pub clauses : List (List Literal)
  pub broken : Bool
  pub kept : Option (List Literal)

-- the assignment that makes a variable true where its positive literal is among these
abbrev pub value_in : List Literal → ℕ → Bool
value_in trues var = is_among trues (record { var = var; positive = true })
