-- The literals of clauses, as callers see them.
use Rattle.std.specs.Prelude.{ℕ, List}
use Rattle.cnf_core.specs.Literal.{Literal}

-- the literals of each clause by number, room for further clauses, and room for their literals
pub record Rowed : Type 0 where
  pub lists : List (List Literal)
  pub room : ℕ
  pub spare : ℕ
