-- The clauses with their watched literals, and the trail, together.
use Rattle.std.specs.Prelude.{Bool, true, if◌then◌else◌, ◌≡◌, ◌≢◌, ℕ, ◌+◌, ◌*◌, ◌/◌, ◌<◌, ◌≤◌, ◌==◌, List, length, take, drop, count_by, slice_index_or, None, All, Contains, ◌⊎◌}
use Rattle.std.specs.List.{list_any}
use Rattle.cnf_core.specs.Literal.{Literal, negation, code_of, IsClause, VariablesUpTo}
use Rattle.sat_state.specs.Trail.{Entry, literals, level_of, IsGrounded}
use Rattle.cnf_core.specs.Steps.{HasTrueLiteral}
use Rattle.sat_state.specs.Stored.{clause_at}
use Rattle.sat_state.specs.Watching.{no_lit, lit_at, far_at, listed_at, IsInSomeList}
use Rattle.sat_state.specs.Watched.{Watched}
use Rattle.sat_state.specs.Guards.{AreWatched}
use Rattle.sat_state.specs.declared.parts.Queue.{Queue}
use Rattle.sat_state.specs.declared.parts.Parts.{Parts}

-- the place of the trail from which on the near or the far lists are left
abbrev pub place_in_queue : Queue → Bool → ℕ
place_in_queue queue far = if far then queue.far else queue.head

-- how far the lists of an entry were walked
abbrev pub heads_of : Queue → List Bool → ℕ → ℕ
heads_of queue fars e = place_in_queue queue (far_at fars e)

-- whether a literal of the clause has this code
abbrev pub has_code : List Literal → ℕ → Bool
has_code clause code = list_any (λ l. code_of l == code) clause

-- how many clauses have the literal of a code
abbrev pub uses : List (List Literal) → ℕ → ℕ
uses clauses code = count_by (λ clause. has_code clause code) clauses

-- an entry with some literal of its clause, which has two where that is said
pub record IsOfClause (clauses : List (List Literal)) (lits : List Literal) (watch : Watched) : Type 0 where
  pub there : watch.entry < length lits
  pub two : watch.pair ≡ true → length (clause_at clauses (watch.entry / 2)) ≡ 2
  pub in_clause : Contains (clause_at clauses (watch.entry / 2)) watch.blocker

-- Each entry stands on those before it, what is left of the trail to look at is of its level, and the clauses are watched. The
-- variables are known. What stands in a list has some literal of its clause beside it, and there is room in the list of a literal for all
-- clauses that have it.
pub record AreJoined (p : Parts) : Type 0 where
  pub grounded : IsGrounded p.clauses.lists p.assigned.trail
  pub watched : AreWatched p.clauses.lists p.watches.lits p.assigned.trail p.queue.checked (heads_of p.queue p.watches.fars)
  pub checked_in : p.queue.checked ≤ length p.clauses.lists
  pub head_in : (far : Bool) → place_in_queue p.queue far ≤ length p.assigned.trail
  pub present : (far : Bool) → All (λ e. e.level ≡ level_of p.assigned.trail) (drop (place_in_queue p.queue far) p.assigned.trail)
  pub fars : length p.watches.fars ≡ length p.watches.lits
  pub lists : 2 * p.assigned.vars + 2 ≤ p.watches.lists
  pub blockers : (w : Watched) → IsInSomeList p.watches.stands w → IsOfClause p.clauses.lists p.watches.lits w
  pub rooms : (code : ℕ) → uses p.clauses.lists code ≤ (listed_at p.watches.stands code).room
  pub in_range : All (VariablesUpTo p.assigned.vars) p.clauses.lists
  pub clauses : All IsClause p.clauses.lists

-- the same clauses and variables, and a trail that goes on at its level
pub record GoesOn (old new : Parts) : Type 0 where
  pub joined : AreJoined new
  pub clauses : new.clauses.lists ≡ old.clauses.lists
  pub vars : new.assigned.vars ≡ old.assigned.vars
  pub front : take (length old.assigned.trail) new.assigned.trail ≡ old.assigned.trail
  pub level : level_of new.assigned.trail ≡ level_of old.assigned.trail

-- nothing is left to look at
pub record IsAllSeen (p : Parts) : Type 0 where
  pub checked : p.queue.checked ≡ length p.clauses.lists
  pub head : (far : Bool) → place_in_queue p.queue far ≡ length p.assigned.trail

abbrev pub some_entry : Entry
some_entry = record { literal = no_lit; level = 0; reason = None }

-- the entry stands in the list that is walked
pub record IsInWalk (p : Parts) (e : ℕ) : Type 0 where
  pub there : e < length p.watches.lits
  pub literal : lit_at p.watches.lits e ≡ p.watches.walked
  pub tier : far_at p.watches.fars e ≡ p.watches.walks_far

-- the list of the literal is walked that the next entry of the trail makes false: each clause that was looked at has a true literal
pub record IsWalking (p : Parts) : Type 0 where
  pub checked : p.queue.checked ≡ length p.clauses.lists
  pub more : place_in_queue p.queue p.watches.walks_far < length p.assigned.trail
  pub some : 1 ≤ p.watches.walked.var
  pub walked : (slice_index_or p.assigned.trail (place_in_queue p.queue p.watches.walks_far) some_entry).literal ≡ negation p.watches.walked
  pub satisfied : (e : ℕ) → IsInWalk p e → Contains p.watches.waiting e ⊎ HasTrueLiteral (literals p.assigned.trail) (clause_at p.clauses.lists (e / 2))

-- the literal isn't false by an entry of a level below the trail's
abbrev pub IsNotLow : List Entry → Literal → Type 0
IsNotLow trail l = All (λ e. e.level < level_of trail → e.literal ≢ negation l) trail

-- a literal of these, of another code than this one, isn't false by an entry of a level below the trail's
pub record HasHigh (trail : List Entry) (clause : List Literal) (skipped : ℕ) : Type 0 where
  pub literal : Literal
  pub in_clause : Contains clause literal
  pub other : code_of literal ≢ skipped
  pub high : IsNotLow trail literal
