-- Assignments under which a variable's literals mean what they say, and assignments under which they don't.
use Rattle.std.proofs.Common.{◌≡◌, ℕ, ℤ, Bool, false, pos, negsuc, suc, zero, nat_eq, [], ◌∷◌, refl, arith, sym}
use Rattle.std.specs.Prelude.{◌||◌, int_le}
use Rattle.std.specs.List.{Contains}
use Rattle.std.specs.Ordering.{int_eq}
use Rattle.std.proofs.lemmas.Bool.{false≢true}
use Rattle.std.proofs.lemmas.Int.{ints}
use Rattle.std.proofs.lemmas.Cmp.{int_eq_equiv}
use Rattle.std.proofs.lemmas.Map.Views.{list_any-from_Contains}
use Rattle.ep_base.specs.Numbers.{has_number}
use Rattle.ep_base.specs.Reads.{first_or_zero, same_bool}
use Rattle.enc_var.specs.Decoding.{Means, VariableLiterals, decoded, among_first, eq_of, known_holds, le_of, literal_holds, literal_of_note, place_literal, values_below, values_up_to}

-- the values -1, 2, 3 and 5, over the variables from 7 on: 7 to 9 say "at least 2, 3, 5", and 10 and 11 "it is 2, 3"
abbrev four : VariableLiterals
four = record { domain = negsuc 0 ∷ pos 2 ∷ pos 3 ∷ pos 5 ∷ []; first = 7 }

-- under which 7 to 9 are true: it is at least 2, 3 and 5, and neither 2 nor 3
abbrev five : ℕ → Bool
five v = nat_eq v 7 || (nat_eq v 8 || nat_eq v 9)

-- where it is said to be at most a number, 5 is
five_at_most : (v : ℤ) → known_holds five (le_of four v) ≡ int_le (pos 5) v
unfolding known_holds literal_holds le_of among_first values_up_to same_bool
five_at_most (negsuc (suc n)) = grind (arith, ints)
five_at_most (negsuc zero) = refl
five_at_most (pos zero) = refl
five_at_most (pos (suc zero)) = refl
five_at_most (pos (suc (suc zero))) = refl
five_at_most (pos (suc (suc (suc zero)))) = refl
five_at_most (pos (suc (suc (suc (suc zero))))) = refl
five_at_most (pos (suc (suc (suc (suc (suc n)))))) = grind (arith, ints)

-- where it is said to be a number, that is 5
five_equal : (v : ℤ) → known_holds five (eq_of four v) ≡ int_eq (pos 5) v
unfolding known_holds literal_holds eq_of literal_of_note place_literal values_below has_number same_bool
five_equal (negsuc (suc n)) = grind (arith, ints)
five_equal (negsuc zero) = refl
five_equal (pos zero) = refl
five_equal (pos (suc zero)) = refl
five_equal (pos (suc (suc zero))) = refl
five_equal (pos (suc (suc (suc zero)))) = refl
five_equal (pos (suc (suc (suc (suc zero))))) = refl
five_equal (pos (suc (suc (suc (suc (suc zero)))))) = refl
five_equal (pos (suc (suc (suc (suc (suc (suc n))))))) = grind (arith, ints)

-- 4 is none of the values
no_four : Contains four.domain (pos 4) → ⊥
no_four found = false≢true (list_any-from_Contains int_eq_equiv (pos 4) four.domain found)

-- of the values' notes that of 5 alone is true
five_noted : (v : ℤ) → Contains four.domain v → literal_holds five (literal_of_note four v) ≡ int_eq (pos 5) v
unfolding literal_holds literal_of_note place_literal values_below same_bool
five_noted (negsuc (suc n)) found = grind (arith, ints)
five_noted (negsuc zero) found = refl
five_noted (pos zero) found = refl
five_noted (pos (suc zero)) found = refl
five_noted (pos (suc (suc zero))) found = refl
five_noted (pos (suc (suc (suc zero)))) found = refl
five_noted (pos (suc (suc (suc (suc zero))))) found = absurd (no_four found)
five_noted (pos (suc (suc (suc (suc (suc zero)))))) found = refl
five_noted (pos (suc (suc (suc (suc (suc (suc n))))))) found = grind (arith, ints)

-- the variable is 5
five_is : decoded five four ≡ pos 5
unfolding decoded known_holds literal_holds eq_of literal_of_note place_literal values_below has_number first_or_zero same_bool
five_is = refl

-- and its literals mean that
five_means : Means five four
unfolding decoded known_holds literal_holds eq_of literal_of_note place_literal values_below has_number first_or_zero same_bool
five_means = record {
  among = (3, omega arith, refl);
  at_most = five_at_most;
  equal = five_equal;
  noted = five_noted;
}

-- under which 7 and 9 are true and 8 isn't: it is at least 2 and 5, and not at least 3
abbrev with_gap : ℕ → Bool
with_gap v = nat_eq v 7 || nat_eq v 9

-- the variable is 5 again
gap_is : decoded with_gap four ≡ pos 5
unfolding decoded known_holds literal_holds eq_of literal_of_note place_literal values_below has_number first_or_zero same_bool
gap_is = refl

-- but it is said to be at most 2, so its literals don't mean that
gap_is_refused : Means with_gap four → ⊥
unfolding decoded known_holds literal_holds le_of among_first values_up_to eq_of literal_of_note place_literal values_below has_number first_or_zero same_bool
gap_is_refused m = false≢true (sym (m.at_most (pos 2)))

-- under which 10 alone is true: it is 2, and not at least 2
abbrev both : ℕ → Bool
both v = nat_eq v 10

-- the variable is -1, the first value that is said
both_is : decoded both four ≡ negsuc 0
unfolding decoded known_holds literal_holds eq_of literal_of_note place_literal values_below has_number first_or_zero same_bool
both_is = refl

-- but it is said to be 2 as well, so its literals don't mean that
both_is_refused : Means both four → ⊥
unfolding decoded known_holds literal_holds eq_of literal_of_note place_literal values_below has_number first_or_zero same_bool
both_is_refused m = false≢true (sym (m.equal (pos 2)))

-- under which 7 alone is true: it is at least 2, less than 3, and not 2
abbrev none : ℕ → Bool
none v = nat_eq v 7

-- no value is said, so that 0 is given
none_is : decoded none four ≡ pos 0
unfolding decoded known_holds literal_holds eq_of literal_of_note place_literal values_below has_number first_or_zero same_bool
none_is = refl

-- but 0 is none of the values, so the literals mean nothing
none_is_refused : Means none four → ⊥
unfolding decoded known_holds literal_holds eq_of literal_of_note place_literal values_below has_number first_or_zero same_bool
none_is_refused m = false≢true (list_any-from_Contains int_eq_equiv (pos 0) four.domain m.among)

-- the single value 8, with the variable 4, which has to be true
abbrev single : VariableLiterals
single = record { domain = pos 8 ∷ []; first = 4 }

-- where the variable 4 is false, its note says otherwise
single_is_refused : Means (λ v. false) single → ⊥
unfolding decoded known_holds literal_holds eq_of literal_of_note place_literal values_below has_number first_or_zero same_bool
single_is_refused m = false≢true (m.noted (pos 8) (0, omega arith, refl))

-- no assignment means a value of a variable without one
abbrev empty : VariableLiterals
empty = record { domain = []; first = 4 }

-- no assignment gives it a value
empty_is_refused : (s : ℕ → Bool) → Means s empty → ⊥
empty_is_refused s m = omega (arith, m.among.1)
