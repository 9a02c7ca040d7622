-- Assignments, and the clauses that they satisfy.
use Rattle.std.specs.Prelude.{◌≡◌, ℕ, ◌≤◌, Bool, List, All, Contains}
use Rattle.cnf_core.specs.Literal.{Literal}

-- a literal is true under an assignment that gives its variable the literal's sign
abbrev pub IsTrueUnder : (ℕ → Bool) → Literal → Type 0
IsTrueUnder s l = s l.var ≡ l.positive

-- a clause is satisfied where one of its literals is true
pub record SatisfiesClause (s : ℕ → Bool) (clause : List Literal) : Type 0 where
  pub literal : Literal
  pub in_clause : Contains clause literal
  pub is_true : IsTrueUnder s literal

-- an assignment satisfies clauses where it satisfies each of them
abbrev pub Satisfies : (ℕ → Bool) → List (List Literal) → Type 0
Satisfies s clauses = All (SatisfiesClause s) clauses

-- two assignments give each variable from 1 up to a number the same value
abbrev pub AgreeUpTo : ℕ → (ℕ → Bool) → (ℕ → Bool) → Type 0
AgreeUpTo most s t = (v : ℕ) → 1 ≤ v → v ≤ most → s v ≡ t v
