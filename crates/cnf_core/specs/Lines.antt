-- The lines of a proof, without where they lie in memory.
use Rattle.std.specs.Prelude.{ℕ, ℤ, List}
use Rattle.cnf_core.specs.Literal.{Literal}

-- a line adds a clause under an id, with hints, or deletes ids
pub data ProofLine : Type 0 where
  add : ℕ → List Literal → List ℤ → ProofLine
  delete : List ℕ → ProofLine
