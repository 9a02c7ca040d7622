-- The numbers that a table has.
use Rattle.std.specs.Prelude.{ℕ, nat_eq, nat_lt, if◌then◌else◌, Bool, false, length, slice_index_or}
use Rattle.std.specs.HashSet.{contains}
use Rattle.log_check.specs.declared.signs.Table.{Table}

-- whether it has a number: small ones have a place of their own
abbrev pub has : Table → ℕ → Bool
has t n =
    if nat_lt n (length t.small.items) then slice_index_or t.small.items n false else contains nat_eq t.large n
