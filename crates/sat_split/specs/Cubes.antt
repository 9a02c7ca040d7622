-- Cubes of a formula: the ways to give its lowest variables values.
use Rattle.std.specs.Prelude.{◌≡◌, ℕ, ◌<◌, ◌≤◌, ◌/◌, ◌%◌, ◌==◌, ◌⊎◌, Bool, List, [], ◌∷◌, ◌++◌, length, map, All, AllPairs, Contains}
use Rattle.cnf_core.specs.Literal.{Literal, negation}
use Rattle.cnf_core.specs.Clauses.{IsTrueUnder}
use Rattle.cnf_core.specs.Events.{LogEvent, LogState, given}

-- a variable stands in one of the clauses
pub record IsNamed (clauses : List (List Literal)) (var : ℕ) : Type 0 where
  pub clause : List Literal
  pub literal : Literal
  pub is_there : Contains clauses clause
  pub in_clause : Contains clause literal
  pub names : literal.var ≡ var

-- The cube variables are the lowest variables that stand in the clauses: so many, or all of them where they are fewer.
pub record AreCubeVariables (most : ℕ) (clauses : List (List Literal)) (vars : List ℕ) : Type 0 where
  pub ascending : AllPairs ◌<◌ vars
  pub named : All (IsNamed clauses) vars
  pub at_most : length vars ≤ most
  pub lowest : (v : ℕ) → IsNamed clauses v → Contains vars v ⊎ ((length vars ≡ most) × All (λ w. w < v) vars)

-- The literals of a cube: its number's last bit says whether the first variable is true, and its other bits say the same of the others.
abbrev pub cube_literals : ℕ → List ℕ → List Literal
cube_literals cube [] = []
cube_literals cube (v ∷ vars) = record { var = v; positive = cube % 2 == 1 } ∷ cube_literals (cube / 2) vars

-- an assignment lies in a cube where it makes each of the cube's literals true
abbrev pub LiesInCube : List Literal → (ℕ → Bool) → Type 0
LiesInCube literals s = All (IsTrueUnder s) literals

-- each literal of the clause is false in the cube
abbrev pub IsFalseIn : List Literal → List Literal → Type 0
IsFalseIn literals clause = All (λ l. Contains literals (negation l)) clause

-- clauses as givens
abbrev pub all_given : List (List Literal) → List LogEvent
all_given clauses = map given clauses

-- a literal as a clause
abbrev pub unit_of : Literal → List Literal
unit_of l = l ∷ []

-- the log that a cube's search begins with: the formula's clauses, and the cube's literals as clauses, all of them given
abbrev pub cube_log : List (List Literal) → List Literal → LogState
cube_log clauses literals = record { events = all_given clauses ++ all_given (map unit_of literals); notes = []; base = 0 }
