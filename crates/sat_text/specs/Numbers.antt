-- Numbers as words spell them.
use Rattle.std.specs.Prelude.{ℕ, ℤ, pos, Bool, ◌&&◌, ◌==◌, nat_le, nat_lt, neg_ℤ, if◌then◌else◌, List, [], ◌∷◌, length, Option, Some, None}
use Rattle.std.specs.List.{list_all}
use Rattle.std.specs.Char.{is_ascii_digit}
use Rattle.std.specs.Str.Parse.{digits_value}
use Rattle.std.specs.Option.{option_map}

-- one to eighteen digits
abbrev pub are_digits : List ℕ → Bool
are_digits word =
    list_all is_ascii_digit word && (nat_lt 0 (length word) && nat_le (length word) 18)

-- the number that one to eighteen digits spell
abbrev pub natural_of : List ℕ → Option ℕ
natural_of word = if are_digits word then Some (digits_value 10 word) else None

-- The whole number that a word spells: digits, with a `-` before them or none.
abbrev pub whole_of : List ℕ → Option ℤ
whole_of [] = None
whole_of (b ∷ word) =
    if b == 45 then option_map (λ n. neg_ℤ (pos n)) (natural_of word)
    else option_map (λ n. pos n) (natural_of (b ∷ word))
