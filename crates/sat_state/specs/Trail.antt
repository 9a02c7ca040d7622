-- The trail: which literals were made true, in which order, at which level and why.
use Rattle.std.specs.List.{find}
use Rattle.std.specs.Prelude.{◌≡◌, ◌≢◌, ℕ, ◌+◌, ◌<◌, ◌==◌, Bool, true, false, Option, Some, None, is_none, IsNone, IsSome, if◌then◌else◌, List, [], ◌∷◌, ◌++◌, length, map, take, count_by, slice_index_or, All, Contains}
use Rattle.cnf_core.specs.Literal.{Literal, negation, is_among}
use Rattle.cnf_core.specs.Clauses.{Satisfies, IsTrueUnder}
use Rattle.cnf_core.specs.Steps.{IsAtEnd}

-- a literal that was made true, the level at which it was, and the number of the clause that gave it, or None for a decision
pub record Entry : Type 0 where
  pub literal : Literal
  pub level : ℕ
  pub reason : Option ℕ

-- the literals of a trail in the order in which they were made true
abbrev pub literals : List Entry → List Literal
literals trail = map (λ e. e.literal) trail

-- the level of a trail: how many decisions it has
abbrev pub level_of : List Entry → ℕ
level_of trail = count_by (λ e. is_none e.reason) trail

-- the value of a variable where these literals are true
abbrev pub trail_value : List Literal → ℕ → Option Bool
trail_value trues var =
    if is_among trues (record { var = var; positive = true }) then Some true
    else (if is_among trues (record { var = var; positive = false }) then Some false else None)

-- each literal of the clause is false
abbrev pub IsFalsified : List Literal → List Literal → Type 0
IsFalsified trues clause = All (λ l. Contains trues (negation l)) clause

-- the clause holds the literal, and its other literals are false
pub record Gives (trues clause : List Literal) (literal : Literal) : Type 0 where
  pub in_clause : Contains clause literal
  pub others_false : (l : Literal) → Contains clause l → l ≢ literal → Contains trues (negation l)

-- a clause of this number gave the literal, or it was decided where propagation was at its end
abbrev pub HasReason : List (List Literal) → List Literal → Literal → Option ℕ → Type 0
HasReason clauses trues literal None = IsAtEnd trues clauses
HasReason clauses trues literal (Some number) = (number < length clauses) × Gives trues (slice_index_or clauses number []) literal

-- An entry stands on those before it: its variable had no value, its level is the number of decisions up to it, and it has
-- its reason in what was true before.
pub record StandsOn (clauses : List (List Literal)) (before : List Entry) (entry : Entry) : Type 0 where
  pub free : trail_value (literals before) entry.literal.var ≡ None
  pub level : entry.level ≡ level_of (before ++ entry ∷ [])
  pub reason : HasReason clauses (literals before) entry.literal entry.reason

-- each entry of the trail stands on those before it
abbrev pub IsGrounded : List (List Literal) → List Entry → Type 0
IsGrounded clauses trail = (k : ℕ) (d : Entry) → k < length trail → StandsOn clauses (take k trail) (slice_index_or trail k d)

-- the entry of a variable
abbrev pub entry_of : List Entry → ℕ → Option Entry
entry_of trail var = find (λ e. e.literal.var == var) trail

-- the level of the next entry: a decision, which has no reason, opens one
abbrev pub next_level : List Entry → Option ℕ → ℕ
next_level trail reason = level_of trail + (if is_none reason then 1 else 0)

-- this is the number of a falsified clause
pub record NamesFalsified (clauses : List (List Literal)) (trail : List Entry) (number : ℕ) : Type 0 where
  pub there : number < length clauses
  pub falsified : IsFalsified (literals trail) (slice_index_or clauses number [])

-- an entry is forced at a level where it has a clause for its reason and is of that level
pub record IsForcedAt (level : ℕ) (entry : Entry) : Type 0 where
  pub has_clause : IsSome entry.reason
  pub at_level : entry.level ≡ level

-- two different literals of the clause aren't false by an entry of a level below that of the trail
pub record IsOpenBelow (trail : List Entry) (clause : List Literal) : Type 0 where
  pub one : Literal
  pub other : Literal
  pub two : one ≢ other
  pub one_in : Contains clause one
  pub other_in : Contains clause other
  pub one_not_false_below : All (λ e. e.level < level_of trail → e.literal ≢ negation one) trail
  pub other_not_false_below : All (λ e. e.level < level_of trail → e.literal ≢ negation other) trail

-- each assignment that satisfies the clauses and makes the decisions true makes each literal of the trail true
abbrev pub FollowsFromDecisions : List (List Literal) → List Entry → Type 0
FollowsFromDecisions clauses trail =
    (s : ℕ → Bool) → Satisfies s clauses → All (λ e. IsNone e.reason → IsTrueUnder s e.literal) trail → All (λ e. IsTrueUnder s e.literal) trail
