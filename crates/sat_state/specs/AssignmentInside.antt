-- How the values of the variables are kept: a table by variable beside the literals in order.
use Rattle.std.specs.Prelude.{◌≡◌, ℕ, ◌-◌, ◌^◌, ◌<◌, ◌≤◌, Option, None, is_some, List, length, map, take, count_by, slice_index_or, All, vec_capacity}
use Rattle.std.specs.Option.{option_map_or}
use Rattle.cnf_core.specs.Literal.{Literal}
use Rattle.sat_state.specs.declared.assignment.Assignment.TheInside.{Inside}
use Rattle.sat_state.specs.Trail.{Entry, level_of, trail_value}
use Rattle.sat_state.specs.Assigned.{TrailState, Origin}

-- what the table has for a variable
abbrev pub slot_of : List (Option Origin) → ℕ → Option Origin
slot_of slots var = slice_index_or slots var None

-- the entry of a literal, with level and reason from the table
abbrev pub entry_at : List (Option Origin) → Literal → Entry
entry_at slots l = record {
  literal = l;
  level = option_map_or (λ s. s.level) (slot_of slots l.var) 0;
  reason = option_map_or (λ s. s.reason) (slot_of slots l.var) None;
}

-- the trail that the literals and the table make
abbrev pub entries : List (Option Origin) → List Literal → List Entry
entries slots trues = map (entry_at slots) trues

-- the table has each variable that has a value, of which 0 is none, each literal of the trail is of another variable, and there is room for all;
-- levels fit their words
pub record IsTable (slots : List (Option Origin)) (trues : List Literal) (level capacity : ℕ) : Type 0 where
  pub some : 0 < length slots
  pub zero : slot_of slots 0 ≡ None
  pub room : length slots ≤ capacity
  pub few : length slots < 2 ^ 32 - 1
  pub values : (v : ℕ) → v < length slots → is_some (slot_of slots v) ≡ is_some (trail_value trues v)
  pub apart : (k : ℕ) (d : Literal) → k < length trues → trail_value (take k trues) (slice_index_or trues k d).var ≡ None
  pub in_range : All (λ l. l.var < length slots) trues
  pub count : count_by is_some slots ≡ length trues
  pub levels : level ≡ level_of (entries slots trues)

abbrev pub seen : Inside → TrailState
seen a = record { vars = length a.slots.items - 1; trail = entries a.slots.items a.trail.items }

abbrev pub IsAssignment : Inside → Type 0
IsAssignment a = IsTable a.slots.items a.trail.items a.level (vec_capacity a.trail)
