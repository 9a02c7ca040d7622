-- Steps of a log: which are valid, which are new, and which unit propagation doesn't give.
use Rattle.std.specs.Prelude.{◌≡◌, ◌≢◌, ℕ, ◌⊎◌, IsTrue, List, [], All, Contains, map, slice_index_or, ◌<◌, length}
use Rattle.cnf_core.specs.Literal.{Literal, negation}
use Rattle.cnf_core.specs.Events.{LogEvent, EachStep, HintsAreThere, clauses_of, givens}
use Rattle.cnf_core.specs.Reading.{is_shown_by}

-- the clauses of the events at these positions
abbrev pub clauses_at : List LogEvent → List ℕ → List (List Literal)
clauses_at events hints = map (λ h. slice_index_or (clauses_of events) h []) hints

-- a step is valid where its hints are positions of earlier events, and the clauses there show it
pub record IsValidStep (earlier : List LogEvent) (clause : List Literal) (hints : List ℕ) : Type 0 where
  pub hints_are_there : HintsAreThere earlier hints
  pub shown : IsTrue (is_shown_by clause (clauses_at earlier hints))

-- a log is valid where each of its steps is, over the events before it
abbrev pub IsValidLog : List LogEvent → Type 0
IsValidLog events = EachStep IsValidStep [] events

-- a variable stands in a given
pub record StandsInGiven (events : List LogEvent) (var : ℕ) : Type 0 where
  pub clause : List Literal
  pub literal : Literal
  pub is_given : Contains (givens events) clause
  pub in_clause : Contains clause literal
  pub names : literal.var ≡ var

-- no literal stands together with its negation
abbrev pub IsConsistent : List Literal → Type 0
IsConsistent literals = (l : Literal) → Contains literals l → Contains literals (negation l) → ⊥

-- a clause includes all literals of another
abbrev pub Includes : List Literal → List Literal → Type 0
Includes clause other = All (Contains clause) other

-- A step is new where it holds no literal together with its negation, each of its variables stands in an earlier given, and
-- it includes all literals of no earlier event.
pub record IsNewStep (earlier : List LogEvent) (clause : List Literal) : Type 0 where
  pub consistent : IsConsistent clause
  pub variables : All (λ l. StandsInGiven earlier l.var) clause
  pub not_included : All (λ other. Includes clause other → ⊥) (clauses_of earlier)

-- a clause has a literal among those that are true
abbrev pub HasTrueLiteral : List Literal → List Literal → Type 0
HasTrueLiteral trues clause = (l : Literal) × Contains clause l × Contains trues l

-- a clause has two literals whose negations aren't true
pub record HasTwoNotFalse (trues clause : List Literal) : Type 0 where
  pub one : Literal
  pub other : Literal
  pub two : one ≢ other
  pub one_in : Contains clause one
  pub other_in : Contains clause other
  pub one_not_false : Contains trues (negation one) → ⊥
  pub other_not_false : Contains trues (negation other) → ⊥

-- The literals that are true hold none together with its negation, and unit propagation from them is at its end: each clause
-- has a true literal, or two that aren't false.
pub record IsAtEnd (trues : List Literal) (clauses : List (List Literal)) : Type 0 where
  pub consistent : IsConsistent trues
  pub settled : All (λ clause. HasTrueLiteral trues clause ⊎ HasTwoNotFalse trues clause) clauses

-- all literals of the clause but this one are false, and this one is unassigned
pub record IsLastOf (trues clause : List Literal) (last : Literal) : Type 0 where
  pub in_clause : Contains clause last
  pub others : (l : Literal) → Contains clause l → l ≢ last → Contains trues (negation l)
  pub not_true : Contains trues last → ⊥
  pub not_false : Contains trues (negation last) → ⊥

-- A step is effective where it is new and where, with all its literals but one false, unit propagation on the earlier events
-- comes to an end that neither is a conflict nor gives the remaining literal.
pub record IsEffectiveStep (earlier : List LogEvent) (clause : List Literal) : Type 0 where
  pub new : IsNewStep earlier clause
  pub trues : List Literal
  pub last : Literal
  pub is_last : IsLastOf trues clause last
  pub at_end : IsAtEnd trues (clauses_of earlier)

-- these are literals of a clause, none of them the one that is last
abbrev pub AreOtherLiterals : List Literal → Literal → List Literal → Type 0
AreOtherLiterals clause last others = All (λ l. Contains clause l × (l ≢ last)) others

-- each step with a literal is new
abbrev pub NonEmptyStepsAreNew : List LogEvent → Type 0
NonEmptyStepsAreNew events = EachStep (λ earlier clause hints. 0 < length clause → IsNewStep earlier clause) [] events

-- each step with a literal is effective
abbrev pub NonEmptyStepsAreEffective : List LogEvent → Type 0
NonEmptyStepsAreEffective events = EachStep (λ earlier clause hints. 0 < length clause → IsEffectiveStep earlier clause) [] events

-- each variable of a given is among these
abbrev pub GivensNameOnly : List ℕ → List LogEvent → Type 0
GivensNameOnly vars events = All (λ clause. All (λ l. Contains vars l.var) clause) (givens events)
