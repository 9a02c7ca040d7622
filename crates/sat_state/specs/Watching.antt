-- The literals that clauses watch, apart from the clauses.
use Rattle.std.specs.Prelude.{◌≡◌, ◌<◌, ◌==◌, ℕ, Bool, true, false, List, [], ◌∷◌, length, drop, count_by, slice_index_or, Contains}
use Rattle.cnf_core.specs.Literal.{Literal, code_of}
use Rattle.sat_state.specs.Listed.{Listed}
use Rattle.sat_state.specs.Watched.{Watched}

-- the literal that stands for none
abbrev pub no_lit : Literal
no_lit = record { var = 0; positive = true }

-- Two entries for each clause, each with a literal or with none, and whether it stands in the far part of the list of its literal; the
-- lists by the codes of literals, and how many these are; room for further entries; and the part of a list that is walked, with its entries
-- that weren't looked at.
pub record Watching : Type 0 where
  pub lits : List Literal
  pub fars : List Bool
  pub stands : List Listed
  pub lists : ℕ
  pub room : ℕ
  pub walked : Literal
  pub walks_far : Bool
  pub waiting : List ℕ

-- the literal of an entry
abbrev pub lit_at : List Literal → ℕ → Literal
lit_at lits entry = slice_index_or lits entry no_lit

-- whether an entry stands in the far part of its list
abbrev pub far_at : List Bool → ℕ → Bool
far_at fars entry = slice_index_or fars entry false

-- the list of a code, which is empty where there is none
abbrev pub listed_at : List Listed → ℕ → Listed
listed_at stands code = slice_index_or stands code (record { watches = []; nears = 0; room = 0 })

-- it stands in one of the lists
pub record IsInSomeList (stands : List Listed) (watch : Watched) : Type 0 where
  pub code : ℕ
  pub there : Contains (listed_at stands code).watches watch

-- how many entries are of the literal of a code
abbrev pub links : List Literal → ℕ → ℕ
links lits code = count_by (λ l. code_of l == code) lits

-- the watch is the next of those that weren't looked at
pub record IsNext (w : Watching) (watch : Watched) : Type 0 where
  pub first : w.waiting ≡ watch.entry ∷ drop 1 w.waiting
  pub there : watch.entry < length w.lits
  pub walked : lit_at w.lits watch.entry ≡ w.walked
  pub stands : IsInSomeList w.stands watch

-- the entry is that of the next watch
pub record IsNextEntry (w : Watching) (entry : ℕ) : Type 0 where
  pub pair : Bool
  pub blocker : Literal
  pub next : IsNext w (record { entry = entry; pair = pair; blocker = blocker })
