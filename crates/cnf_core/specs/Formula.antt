-- Formulas, and what it means that one keeps the assignments of another.
use Rattle.std.specs.Prelude.{ℕ, ◌≤◌, ◌↔◌, Bool, List, All}
use Rattle.cnf_core.specs.Literal.{Literal, VariablesUpTo}
use Rattle.cnf_core.specs.Clauses.{Satisfies, AgreeUpTo}

-- clauses over the variables 1 to vars, and whether the formula was begun empty, so that it can be given further variables
pub record Cnf : Type 0 where
  pub vars : ℕ
  pub clauses : List (List Literal)
  pub from_new : Bool

-- each clause names only variables of the formula
abbrev pub NamesItsVariables : Cnf → Type 0
NamesItsVariables f = All (VariablesUpTo f.vars) f.clauses

-- an assignment that satisfies the formula, with the values of s for the variables up to most
pub record Extends (most : ℕ) (s : ℕ → Bool) (f : Cnf) : Type 0 where
  pub values : ℕ → Bool
  pub agrees : AgreeUpTo most s values
  pub satisfies : Satisfies values f.clauses

-- An assignment that satisfies the old formula extends to one of the new formula exactly where the condition holds of it,
-- and what satisfies the new formula satisfies the old one.
pub record Keeps (old new : Cnf) (condition : (ℕ → Bool) → Type 0) : Type 0 where
  pub variables : old.vars ≤ new.vars
  pub extension : (s : ℕ → Bool) → Satisfies s old.clauses → (Extends old.vars s new) ↔ (condition s)
  pub restriction : (s : ℕ → Bool) → Satisfies s new.clauses → Satisfies s old.clauses

-- the condition depends on the variables from 1 up to this number alone
abbrev pub SpeaksOf : ℕ → ((ℕ → Bool) → Type 0) → Type 0
SpeaksOf most condition = (s t : ℕ → Bool) → AgreeUpTo most s t → condition s → condition t
