-- Numbers and literals as words spell them.
use Rattle.std.specs.Prelude.{ℕ, ℤ, pos, Bool, true, false, ◌==◌, nat_lt, neg_ℤ, if◌then◌else◌, List, [], ◌∷◌, Option, Some, None, option_map}
use Rattle.sat_text.specs.Numbers.{natural_of}

-- The whole number that a word spells: one to eighteen digits, with a `+` or a `-` before them or none.
abbrev pub signed_number_of : List ℕ → Option ℤ
signed_number_of [] = None
signed_number_of (b ∷ word) =
    if b == 43 then option_map (λ n. pos n) (natural_of word)
    else if b == 45 then option_map (λ n. neg_ℤ (pos n)) (natural_of word)
    else option_map (λ n. pos n) (natural_of (b ∷ word))

-- a number of at least 1
abbrev pub at_least_one : Option ℕ → Option ℕ
at_least_one None = None
at_least_one (Some n) = if nat_lt 0 n then Some n else None

-- The variable that a word spells: an `x`, and one to eighteen digits, whose number is its number and at least 1.
abbrev pub variable_of : List ℕ → Option ℕ
variable_of [] = None
variable_of (b ∷ digits) = if b == 120 then at_least_one (natural_of digits) else None

-- The literal that a word spells: whether it is negated, which a `~` says, and its variable.
abbrev pub opb_literal_of : List ℕ → Option (Bool × ℕ)
opb_literal_of [] = None
opb_literal_of (b ∷ word) =
    if b == 126 then option_map (λ var. (true, var)) (variable_of word)
    else option_map (λ var. (false, var)) (variable_of (b ∷ word))
