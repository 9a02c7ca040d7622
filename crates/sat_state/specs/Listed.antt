-- The clauses that watch a literal, as callers see them.
use Rattle.std.specs.Prelude.{◌≡◌, ◌≢◌, ℕ, ◌+◌, ◌<◌, Bool, nat_lt, if◌then◌else◌, List, length, slice_index_or}
use Rattle.sat_state.specs.Watched.{Watched}

-- what stands in the list, how many of these are near, which come first, and for how many there is room
pub record Listed : Type 0 where
  pub watches : List Watched
  pub nears : ℕ
  pub room : ℕ

-- a list is the rest of another without the watch at a place, in whatever order, but near ones are near
pub record IsWithout (whole rest : Listed) (place : ℕ) (far : Bool) : Type 0 where
  pub from : ℕ → ℕ
  pub to : ℕ → ℕ
  pub there : place < length whole.watches
  pub size : length whole.watches ≡ length rest.watches + 1
  pub nears : whole.nears ≡ rest.nears + (if far then 0 else 1)
  pub within : (k : ℕ) → k < length rest.watches → from k < length whole.watches
  pub other : (k : ℕ) → k < length rest.watches → from k ≢ place
  pub side : (k : ℕ) → k < length rest.watches → nat_lt (from k) whole.nears ≡ nat_lt k rest.nears
  pub same : (k : ℕ) (d : Watched) → k < length rest.watches → slice_index_or rest.watches k d ≡ slice_index_or whole.watches (from k) d
  pub back : (k : ℕ) → k < length whole.watches → k ≢ place → (to k < length rest.watches) × (from (to k) ≡ k)
  pub again : (k : ℕ) → k < length rest.watches → to (from k) ≡ k
