-- What is known while the cube variables are looked for.
use Rattle.std.specs.Prelude.{ℕ, ◌<◌, ◌≤◌, ◌⊎◌, min, Option, Some, None, List, All, AllPairs, Contains}
use Rattle.cnf_core.specs.Literal.{Literal}
use Rattle.sat_split.specs.Cubes.{IsNamed}

-- the lesser of a number and the least one so far
abbrev pub least_with_one : Option ℕ → ℕ → Option ℕ
least_with_one None v = Some v
least_with_one (Some least) v = Some (min least v)

-- the least variable over a number that stands in the clauses, or none
abbrev pub IsLeastAbove : ℕ → List (List Literal) → Option ℕ → Type 0
IsLeastAbove above clauses (Some v) = IsNamed clauses v × (above < v) × ((w : ℕ) → IsNamed clauses w → above < w → v ≤ w)
IsLeastAbove above clauses None = (w : ℕ) → IsNamed clauses w → above < w → ⊥

-- these are the variables up to a number that stand in the clauses, ascending
pub record AreNamedUpTo (clauses : List (List Literal)) (above : ℕ) (vars : List ℕ) : Type 0 where
  pub ascending : AllPairs ◌<◌ vars
  pub named : All (IsNamed clauses) vars
  pub within : All (λ w. w ≤ above) vars
  pub others : (v : ℕ) → IsNamed clauses v → Contains vars v ⊎ (above < v)
