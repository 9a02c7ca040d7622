-- Watched literals against the trail.
use Rattle.std.specs.Prelude.{◌≡◌, ◌≢◌, ℕ, ◌*◌, ◌/◌, ◌<◌, ◌≤◌, Bool, List, length, take, All, Contains}
use Rattle.cnf_core.specs.Literal.{Literal, negation, is_among}
use Rattle.sat_state.specs.Trail.{Entry, literals, level_of}
use Rattle.sat_state.specs.Stored.{clause_at}
use Rattle.sat_state.specs.Watching.{lit_at}

-- whether a literal is false where these literals are true
abbrev pub is_false : List Literal → Literal → Bool
is_false trues l = is_among trues (negation l)

-- the literal is true by an entry of at most this level
pub record IsTrueBy (trail : List Entry) (l : Literal) (level : ℕ) : Type 0 where
  pub entry : Entry
  pub there : Contains trail entry
  pub names : entry.literal ≡ l
  pub low : entry.level ≤ level

-- a literal of the clause is true by an entry of at most this level
pub record HasTrueBy (trail : List Entry) (clause : List Literal) (level : ℕ) : Type 0 where
  pub literal : Literal
  pub in_clause : Contains clause literal
  pub is_true : IsTrueBy trail literal level

-- where a literal is false by one of the first entries, one of the clause is true by an entry of no higher level
abbrev pub Guards : List Entry → ℕ → Literal → List Literal → Type 0
Guards trail head l clause = All (λ e. e.literal ≡ negation l → HasTrueBy trail clause e.level) (take head trail)

-- all literals of a clause but one are false
abbrev pub AreOthersFalse : List Literal → List Literal → Literal → Type 0
AreOthersFalse trues clause other = (l : Literal) → Contains clause l → l ≢ other → Contains trues (negation l)

-- where a literal is false by one of the first entries, that one is of the trail's level, and all literals but another are false
abbrev pub IsFresh : List Entry → ℕ → List Literal → Literal → Literal → Type 0
IsFresh trail head clause l other =
    All (λ e. e.literal ≡ negation l → (e.level ≡ level_of trail) × AreOthersFalse (literals trail) clause other) (take head trail)

-- two entries are those of one clause
pub record ArePartners (entry other : ℕ) : Type 0 where
  pub clause : entry / 2 ≡ other / 2
  pub apart : entry ≢ other

-- a literal of a clause, and not the other one that it watches
pub record IsPair (clause : List Literal) (l other : Literal) : Type 0 where
  pub in_clause : Contains clause l
  pub two : l ≢ other

-- there is a later clause with no literal that this one hasn't
pub record HasLater (clauses : List (List Literal)) (c : ℕ) : Type 0 where
  pub later : ℕ
  pub behind : c < later
  pub there : later < length clauses
  pub within : (l : Literal) → Contains (clause_at clauses later) l → Contains (clause_at clauses c) l

-- Each clause of two or more literals watches two of them, or none where a later clause has no other literals; a watched literal of a
-- clause that was looked at is guarded by the clause, and one of another clause is fresh, as far as the lists of its entry were walked. A
-- shorter clause that was looked at is true without decisions.
pub record AreWatched (clauses : List (List Literal)) (lits : List Literal) (trail : List Entry) (checked : ℕ) (heads : ℕ → ℕ) : Type 0 where
  pub entries : length lits ≡ 2 * length clauses
  pub long : (e : ℕ) → e < length lits → 1 ≤ (lit_at lits e).var → 2 ≤ length (clause_at clauses (e / 2))
  pub both : (e f : ℕ) → ArePartners e f → e < length lits → 1 ≤ (lit_at lits e).var → 1 ≤ (lit_at lits f).var
  pub pairs : (e f : ℕ) → ArePartners e f → e < length lits → 1 ≤ (lit_at lits e).var → IsPair (clause_at clauses (e / 2)) (lit_at lits e) (lit_at lits f)
  pub guarded : (e : ℕ) → e / 2 < checked → 1 ≤ (lit_at lits e).var → Guards trail (heads e) (lit_at lits e) (clause_at clauses (e / 2))
  pub fresh : (e f : ℕ) → ArePartners e f → e < length lits → checked ≤ e / 2 → 1 ≤ (lit_at lits e).var → IsFresh trail (heads e) (clause_at clauses (e / 2)) (lit_at lits e) (lit_at lits f)
  pub out : (c : ℕ) → c < length clauses → 2 ≤ length (clause_at clauses c) → (lit_at lits (2 * c)).var ≡ 0 → HasLater clauses c
  pub short : (c : ℕ) → c < checked → length (clause_at clauses c) < 2 → (0 < length (clause_at clauses c)) × All (λ l. IsTrueBy trail l 0) (clause_at clauses c)
  pub unchecked : (c : ℕ) → c < length clauses → checked ≤ c → length (clause_at clauses c) < 2 → level_of trail ≡ 0
