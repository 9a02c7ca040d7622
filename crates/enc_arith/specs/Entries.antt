-- The code's entries of keys, without where their lists lie in memory.
use Rattle.std.specs.Prelude.{ℕ, ℤ, ◌<◌, List}
use Rattle.std.specs.List.{All}
use Rattle.enc_arith.specs.declared.elements.Entry.{Entry}

-- what is left of a key, as a plain list, with its part
abbrev pub plain_entry : Entry → List ℤ × ℕ
plain_entry entry = (entry.key.now, entry.part)

-- the parts are of so many variables
abbrev pub HaveParts : ℕ → List (List ℤ × ℕ) → Type 0
HaveParts count entries = All (λ entry. entry.1 < count) entries
