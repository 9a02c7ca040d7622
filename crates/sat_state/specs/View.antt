-- A state as its callers see it.
use Rattle.std.specs.Prelude.{◌≡◌, ◌≢◌, ℕ, ◌≤◌, Bool, List, All, Contains}
use Rattle.cnf_core.specs.Literal.{Literal, negation, VariablesUpTo}
use Rattle.cnf_core.specs.Steps.{IsAtEnd}
use Rattle.sat_state.specs.Trail.{Entry, literals}
use Rattle.sat_state.specs.Guards.{IsTrueBy}

-- the clauses by number, the greatest variable that is known, the trail, and whether propagation is known to be at its end
pub record StateView : Type 0 where
  pub clauses : List (List Literal)
  pub vars : ℕ
  pub trail : List Entry
  pub seen : Bool

-- No clause is falsified, and none is unit and unsatisfied: each has a true literal, or two that aren't false. No literal is
-- true together with its negation.
abbrev pub IsPropagated : StateView → Type 0
IsPropagated state = IsAtEnd (literals state.trail) state.clauses

-- the variables up to the new number are the least that hold those up to the old one and the clause's
pub record BringsIn (old : ℕ) (clause : List Literal) (new : ℕ) : Type 0 where
  pub keeps : old ≤ new
  pub knows : VariablesUpTo new clause
  pub least : (most : ℕ) → old ≤ most → VariablesUpTo most clause → new ≤ most

-- two different literals of a clause
pub record AreTwoOf (clause : List Literal) (one other : Literal) : Type 0 where
  pub one_in : Contains clause one
  pub other_in : Contains clause other
  pub two : one ≢ other

-- where the literal is false, the other is true by an entry of no higher level
abbrev pub IsGuarded : List Entry → Literal → Literal → Type 0
IsGuarded trail l other = All (λ e. e.literal ≡ negation l → IsTrueBy trail other e.level) trail
