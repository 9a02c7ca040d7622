-- Which fronts of some bytes are symbols.
use Rattle.std.specs.Prelude.{ℕ, Bool, ◌&&◌, List, length, take, drop, nat_le}
use Rattle.ep_base.specs.TokenTexts.{is_symbol}

-- whether the first n bytes are a symbol where the others follow it
unfoldable pub begins_with_symbol_of : ℕ → List ℕ → Bool
begins_with_symbol_of n bytes = nat_le n (length bytes) && is_symbol (take n bytes) (drop n bytes)
