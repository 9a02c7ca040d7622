-- What a falsified clause is traced to.
use Rattle.std.specs.Prelude.{◌≡◌, ◌≢◌, ◌⊎◌, ℕ, ◌+◌, ◌<◌, ◌≤◌, Bool, true, false, IsSome, None, List, [], length, map, take, reverse, count_by, slice_index_or, All, Contains}
use Rattle.std.specs.List.{AllByRecursion}
use Rattle.cnf_core.specs.Literal.{Literal, negation, IsOrdered}
use Rattle.cnf_core.specs.declared.lit.TheConstants.{MOST_VARIABLE}
use Rattle.cnf_core.specs.Reading.{reading_succeeds}
use Rattle.cnf_core.specs.Steps.{IsLastOf, IsAtEnd}
use Rattle.sat_state.specs.Trail.{Entry, literals, trail_value}
use Rattle.sat_state.specs.View.{StateView}

-- the variables of these literals go from 1 to the number
abbrev pub AreInRange : ℕ → List Literal → Type 0
AreInRange vars clause = All (λ l. (1 ≤ l.var) × (l.var ≤ vars)) clause

-- the variables of a state go from 1 to the number
pub record IsKnown (vars : ℕ) (state : StateView) : Type 0 where
  pub vars_are : vars ≡ state.vars
  pub most : vars ≤ MOST_VARIABLE
  pub names : All (AreInRange vars) state.clauses

-- each variable from 1 to the number has a value
abbrev pub AllHaveValues : ℕ → List Entry → Type 0
AllHaveValues vars trail = (v : ℕ) → 1 ≤ v → v ≤ vars → IsSome (trail_value (literals trail) v)

-- a variable that had a value has one
abbrev pub KeepsValues : List Entry → List Entry → Type 0
KeepsValues old new = (v : ℕ) → IsSome (trail_value (literals old) v) → IsSome (trail_value (literals new) v)

-- whether a variable is marked
abbrev pub is_marked : List Bool → ℕ → Bool
is_marked marks var = slice_index_or marks var false

-- the variable of a literal of the clause
pub record IsNamedIn (clause : List Literal) (var : ℕ) : Type 0 where
  pub literal : Literal
  pub in_clause : Contains clause literal
  pub names : literal.var ≡ var

-- the variables of the clause are marked, and no others but those that were
pub record MarksClause (old new : List Bool) (clause : List Literal) : Type 0 where
  pub marked : (l : Literal) → Contains clause l → is_marked new l.var ≡ true
  pub keeps : (v : ℕ) → is_marked old v ≡ true → is_marked new v ≡ true
  pub only : (v : ℕ) → is_marked new v ≡ true → (is_marked old v ≡ true) ⊎ IsNamedIn clause v

-- the literal at this place of a trail is a decision: propagation was at its end, and its variable had no value
pub record IsDecisionAt (clauses : List (List Literal)) (trail : List Literal) (place : ℕ) : Type 0 where
  pub there : place < length trail
  pub at_end : IsAtEnd (take place trail) clauses
  pub free : (d : Literal) → trail_value (take place trail) (slice_index_or trail place d).var ≡ None

-- no literal of the trail between these places is marked
abbrev pub IsUnmarkedBetween : List Literal → List Bool → ℕ → ℕ → Type 0
IsUnmarkedBetween trail marks low high = (k : ℕ) (d : Literal) → low ≤ k → k < high → is_marked marks (slice_index_or trail k d).var ≡ false

-- The one marked literal of the last level stands at this place. The decision of the level stands there or below.
pub record IsCut (clauses : List (List Literal)) (trail : List Literal) (marks : List Bool) (place decision : ℕ) : Type 0 where
  pub order : decision ≤ place
  pub there : place < length trail
  pub at_end : IsAtEnd (take decision trail) clauses
  pub free : (d : Literal) → trail_value (take decision trail) (slice_index_or trail place d).var ≡ None
  pub marked : (d : Literal) → is_marked marks (slice_index_or trail place d).var ≡ true
  pub alone : IsUnmarkedBetween trail marks decision place

-- the new list has the literals of the old one, and else only negations of these
pub record KeepsMore (trues old new : List Literal) : Type 0 where
  pub stays : (l : Literal) → Contains old l → Contains new l
  pub only : (l : Literal) → Contains new l → Contains old l ⊎ Contains trues (negation l)

-- the clauses of these numbers in order
abbrev pub clauses_of_numbers : List (List Literal) → List ℕ → List (List Literal)
clauses_of_numbers clauses numbers = map (λ n. slice_index_or clauses n []) numbers

-- a variable stands in one of the clauses
pub record StandsIn (clauses : List (List Literal)) (var : ℕ) : Type 0 where
  pub clause : List Literal
  pub literal : Literal
  pub is_there : Contains clauses clause
  pub in_clause : Contains clause literal
  pub names : literal.var ≡ var

-- each literal of a list is false where these are true
abbrev pub AreFalse : List Literal → List Literal → Type 0
AreFalse trues kept = (l : Literal) → Contains kept l → Contains trues (negation l)

-- the marked ones of the first literals of a trail are true
abbrev pub AreTrueWhereMarked : List Literal → List Literal → List Bool → ℕ → Type 0
AreTrueWhereMarked trues trail marks upto = (l : Literal) → Contains (take upto trail) l → is_marked marks l.var ≡ true → Contains trues l

-- Reading the clauses of the hints, the last first, comes to a conflict wherever the kept literals are false and those of the
-- first literals of the trail that are marked are true. Each marked variable stands in a clause.
pub record IsTraced (clauses : List (List Literal)) (trail : List Literal) (marks : List Bool) (kept : List Literal) (hints : List ℕ) (upto : ℕ) : Type 0 where
  pub reading : (trues : List Literal) → AreFalse trues kept → AreTrueWhereMarked trues trail marks upto → reading_succeeds trues (clauses_of_numbers clauses (reverse hints)) ≡ true
  pub marked : (v : ℕ) → is_marked marks v ≡ true → StandsIn clauses v
  pub kept_named : (l : Literal) → Contains kept l → StandsIn clauses l.var
  pub hints_there : All (λ h. h < length clauses) hints
  pub ordered : AllByRecursion IsOrdered (clauses_of_numbers clauses (reverse hints))

-- there is an end of propagation at which all of these literals but one are false, and that one has no value
pub record HasLast (clauses : List (List Literal)) (lits : List Literal) : Type 0 where
  pub trues : List Literal
  pub last : Literal
  pub is_last : IsLastOf trues lits last
  pub at_end : IsAtEnd trues clauses

-- The clauses of the hints in order show the clause of these literals. They are variables of the clauses, and where there are
-- any, propagation doesn't give the clause.
pub record IsExplained (clauses : List (List Literal)) (lits : List Literal) (hints : List ℕ) : Type 0 where
  pub shown : (trues : List Literal) → AreFalse trues lits → reading_succeeds trues (clauses_of_numbers clauses hints) ≡ true
  pub hints_there : All (λ h. h < length clauses) hints
  pub named : All (λ l. StandsIn clauses l.var) lits
  pub last : (lits ≡ []) ⊎ HasLast clauses lits

-- how many of the first literals of a trail are marked
abbrev pub count_marked : List Literal → List Bool → ℕ → ℕ
count_marked trail marks upto = count_by (λ l. is_marked marks l.var) (take upto trail)

-- of a trail's first literals at most as many more are marked as one number is greater than another
abbrev pub CountsMarks : List Literal → List Bool → List Bool → ℕ → ℕ → Type 0
CountsMarks trail old new before now = (upto : ℕ) → upto ≤ length trail → count_marked trail new upto + before ≤ count_marked trail old upto + now

-- the literal is false where these are true, and its variable is marked
pub record IsMarkedFalse (trues : List Literal) (marks : List Bool) (l : Literal) : Type 0 where
  pub is_false : Contains trues (negation l)
  pub marked : is_marked marks l.var ≡ true

-- the new list has the literals of the old one and the negations of the marked ones of these, and no other
pub record KeepsMarked (trues : List Literal) (marks : List Bool) (old new : List Literal) : Type 0 where
  pub stays : (l : Literal) → Contains old l → Contains new l
  pub only : (l : Literal) → Contains new l → Contains old l ⊎ IsMarkedFalse trues marks l
  pub each : (l : Literal) → Contains trues l → is_marked marks l.var ≡ true → Contains new (negation l)

-- each entry of this variable is of the level or a higher one
abbrev pub IsFrom : List Entry → ℕ → ℕ → Type 0
IsFrom trail level var = All (λ e. e.literal.var ≡ var → level ≤ e.level) trail

-- two different literals of the clause are of the level or a higher one, as far as they have values
pub record HasTwoFrom (trail : List Entry) (level : ℕ) (clause : List Literal) : Type 0 where
  pub one : Literal
  pub other : Literal
  pub two : one ≢ other
  pub one_in : Contains clause one
  pub other_in : Contains clause other
  pub one_from : IsFrom trail level one.var
  pub other_from : IsFrom trail level other.var
