-- The clauses, as they are stored.
use Rattle.std.specs.Prelude.{ℕ, List, [], slice_index_or}
use Rattle.cnf_core.specs.Literal.{Literal}

-- the clauses by number, room for further ones, and room for their literals
pub record Stored : Type 0 where
  pub lists : List (List Literal)
  pub room : ℕ
  pub spare : ℕ

-- the clause of a number
abbrev pub clause_at : List (List Literal) → ℕ → List Literal
clause_at clauses number = slice_index_or clauses number []
