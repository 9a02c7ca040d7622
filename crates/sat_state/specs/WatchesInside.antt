-- How watched literals are kept: a list for each literal.
use Rattle.std.specs.Prelude.{◌≡◌, ◌<◌, ◌≤◌, ◌+◌, ◌-◌, ◌*◌, ◌/◌, ◌%◌, ◌^◌, ◌==◌, ℕ, Bool, false, nat_lt, if◌then◌else◌, List, [], ◌∷◌, map, length, count_by, slice_index_or, vec_capacity}
use Rattle.std.proofs.Common.{zero, suc}
use Rattle.cnf_core.specs.Literal.{Literal}
use Rattle.sat_state.specs.Listed.{Listed}
use Rattle.sat_state.specs.Watching.{Watching, no_lit, listed_at}
use Rattle.sat_state.specs.Watched.{Watched}
use Rattle.sat_state.specs.declared.watches.Watches.TheInside.{Inside}

-- the literal of a code
abbrev pub literal_at : ℕ → Literal
literal_at code = record { var = code / 2; positive = code % 2 == 0 }

-- the name of a part of a list: twice the literal's code, and one more for the far part
abbrev pub name_of : ℕ → Bool → ℕ
name_of code far = 2 * code + (if far then 1 else 0)

-- the literal of a part
abbrev pub literal_named : ℕ → Literal
literal_named name = literal_at (name / 2)

-- whether a part is a far one
abbrev pub is_far_name : ℕ → Bool
is_far_name name = name % 2 == 1

abbrev pub no_watch : Watched
no_watch = record { entry = 0; pair = false; blocker = no_lit }

-- what stands at a place of a list
abbrev pub watch_in : Listed → ℕ → Watched
watch_in list place = slice_index_or list.watches place no_watch

-- at a place of the list of a code there is an entry whose name is that of its part
pub record IsHeld (names : List ℕ) (code : ℕ) (list : Listed) (place : ℕ) : Type 0 where
  pub there : (watch_in list place).entry < length names
  pub some : 2 ≤ code
  pub named : slice_index_or names (watch_in list place).entry 0 ≡ 2 * code + (if nat_lt place list.nears then 0 else 1)

-- where an entry stands in a list
pub record IsPlaced (list : Listed) (entry : ℕ) : Type 0 where
  pub place : ℕ
  pub there : place < length list.watches
  pub is : (watch_in list place).entry ≡ entry

-- the list of a code has each entry with a name of its parts, in that part, once, and no other
pub record IsListOf (names : List ℕ) (code : ℕ) (list : Listed) : Type 0 where
  pub held : (place : ℕ) → place < length list.watches → IsHeld names code list place
  pub once : (place other : ℕ) → place < length list.watches → other < length list.watches → (watch_in list place).entry ≡ (watch_in list other).entry → place ≡ other
  pub complete : (entry : ℕ) → entry < length names → slice_index_or names entry 0 / 2 ≡ code → 2 ≤ code → IsPlaced list entry
  pub total : 2 ≤ code → length list.watches ≡ count_by (λ name. name / 2 == code) names

-- each list is that of its code, and the numbers fit their words
pub record AreListsByCode (names : List ℕ) (lists : List Listed) : Type 0 where
  pub few : length names + 1 < 2 ^ 31
  pub few_lists : 2 * length lists < 2 ^ 32
  pub each : (code : ℕ) → IsListOf names code (listed_at lists code)

-- where a part of a list begins, and where it ends
abbrev pub begin_of : Listed → Bool → ℕ
begin_of list far = if far then list.nears else 0

abbrev pub end_of : Listed → Bool → ℕ
end_of list far = if far then length list.watches else list.nears

-- of a part so many are left, the first ones
pub record Walks (lists : List Listed) (walked low left : ℕ) : Type 0 where
  pub known : walked / 2 < length lists
  pub begins : low ≡ begin_of (listed_at lists (walked / 2)) (is_far_name walked)
  pub within : low + left ≤ end_of (listed_at lists (walked / 2)) (is_far_name walked)
  pub whole : low + left ≤ length (listed_at lists (walked / 2)).watches

-- so many entries from a place on, the last one first
abbrev pub entries_from : List Watched → ℕ → ℕ → List ℕ
entries_from watches low zero = []
entries_from watches low (suc n) = (slice_index_or watches (low + n) no_watch).entry ∷ entries_from watches low n

abbrev pub seen_watches : Inside → Watching
seen_watches a = record {
  lits = map literal_named a.names.items;
  fars = map is_far_name a.names.items;
  stands = a.lists.items;
  lists = length a.lists.items;
  room = vec_capacity a.names - length a.names.items;
  walked = literal_named a.walked;
  walks_far = is_far_name a.walked;
  waiting = entries_from (listed_at a.lists.items (a.walked / 2)).watches a.low a.left;
}

pub record AreWatches (a : Inside) : Type 0 where
  pub listed : AreListsByCode a.names.items a.lists.items
  pub walk : 0 < a.left → Walks a.lists.items a.walked a.low a.left
