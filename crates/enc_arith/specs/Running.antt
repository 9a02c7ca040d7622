-- Runs of numbers: those from one place of a list to another.
use Rattle.std.specs.Prelude.{◌≡◌, ◌⊎◌, ℕ, zero, suc, ◌+◌, ◌-◌, ◌≤◌, ◌<◌, ℤ, pos, List, Option, None, Some, slice_index_or}
use Rattle.enc_atoms.specs.declared.atoms.Atom.{Atom}
use Rattle.enc_arith.specs.Elements.{or_outside}
use Rattle.enc_arith.specs.Saying.{or_is_not}

-- a number stands in a list from one place on, and before another
pub record StandsFrom (ns : List ℤ) (start end : ℕ) (n : ℤ) : Type 0 where
  pub place : ℕ
  pub from_start : start ≤ place
  pub before_end : place < end
  pub is : n ≡ slice_index_or ns place (pos 0)

-- the number before a place, if there is one
unfoldable pub number_before : List ℤ → ℕ → Option ℤ
number_before ns zero = None
number_before ns (suc k) = Some (slice_index_or ns k (pos 0))

-- Some atoms, and that a variable with these numbers has none of those from one place to another: it isn't the one that there is, or it
-- isn't above the number before them and at most the last of them.
abbrev pub AreOutside : List Atom → ℕ → List ℤ → ℕ → ℕ → List Atom → Type 0
AreOutside when x ns start end atoms =
    ((end ≡ start + 1) × (atoms ≡ or_is_not when x (slice_index_or ns start (pos 0))))
    ⊎ (atoms ≡ or_outside when x (number_before ns start) (slice_index_or ns (end - 1) (pos 0)))
