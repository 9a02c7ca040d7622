-- What assignments give a variable, each of its values.
use Rattle.std.proofs.Common.{◌≡◌, ℕ, Bool, pos, negsuc, nat_eq, nat_le, [], ◌∷◌, refl}
use Rattle.std.specs.Prelude.{map, ◌||◌}
use Rattle.ep_base.specs.Numbers.{has_number}
use Rattle.ep_base.specs.Reads.{first_or_zero, same_bool}
use Rattle.enc_var.specs.declared.known.Known.TheVariants as known
use Rattle.enc_var.specs.Decoding.{VariableLiterals, decoded, among_first, eq_of, known_holds, le_of, literal_holds, no, literal_of_note, place_literal, values_below, values_up_to, yes}

-- the values -1, 2, 3 and 5, over the variables from 7 on: 7 to 9 say "at least 2, 3, 5", and 10 and 11 "it is 2, 3"
abbrev four : VariableLiterals
four = record { domain = negsuc 0 ∷ pos 2 ∷ pos 3 ∷ pos 5 ∷ []; first = 7 }

-- the assignments of the four values
abbrev least : ℕ → Bool
least v = nat_le v 6

abbrev second : ℕ → Bool
second v = nat_eq v 7 || nat_eq v 10

abbrev third : ℕ → Bool
third v = nat_eq v 7 || (nat_eq v 8 || nat_eq v 11)

abbrev greatest : ℕ → Bool
greatest v = nat_eq v 7 || (nat_eq v 8 || nat_eq v 9)

decodings : map (λ s. decoded s four) (least ∷ second ∷ third ∷ greatest ∷ [])
    ≡ negsuc 0 ∷ pos 2 ∷ pos 3 ∷ pos 5 ∷ []
unfolding decoded known_holds literal_holds eq_of literal_of_note place_literal values_below has_number first_or_zero same_bool
decodings = refl

-- a variable without a value is at most nothing and nothing, and the literal of a single value is the first
abbrev empty : VariableLiterals
empty = record { domain = []; first = 4 }

abbrev single : VariableLiterals
single = record { domain = pos 8 ∷ []; first = 4 }

edges : le_of empty (pos 0) ∷ eq_of empty (pos 0) ∷ le_of single (pos 7) ∷ le_of single (pos 8) ∷ [] ≡ known.False ∷ known.False ∷ known.False ∷ known.True ∷ []
unfolding le_of eq_of among_first literal_of_note place_literal values_below values_up_to has_number
edges = refl

notes : literal_of_note single (pos 8) ∷ map (literal_of_note four) (negsuc 0 ∷ pos 2 ∷ pos 3 ∷ pos 5 ∷ []) ≡ yes 4 ∷ no 7 ∷ yes 10 ∷ yes 11 ∷ yes 9 ∷ []
unfolding literal_of_note place_literal values_below
notes = refl
