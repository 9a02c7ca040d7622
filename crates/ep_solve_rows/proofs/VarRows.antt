-- What is known of small variables, what assignments give them, and how cells are named, as the checker computes it.
use Rattle.std.proofs.Common.{◌≡◌, pos, negsuc, true, false, nat_le, [], ◌∷◌, refl}
use Rattle.std.specs.Fmt.{digits}
use Rattle.std.specs.Prelude.{codes, map}
use Rattle.ep_base.specs.Numbers.{has_number}
use Rattle.ep_base.specs.Reads.{first_or_zero, same_bool}
use Rattle.enc_var.specs.Decoding.{VariableLiterals, among_first, decoded, eq_of, known_holds, le_of, literal_holds, no, literal_of_note, place_literal, values_below, values_up_to, yes}
use Rattle.enc_var.specs.Notes.{cell_text, indices_text, joined_numbers}
use Rattle.enc_var.specs.declared.known.Known.TheVariants as known

-- the values -1, 2, 3 and 5, over the variables from 7 on: 7 to 9 say "at least 2, 3, 5", and 10 and 11 "it is 2, 3"
abbrev four : VariableLiterals
four = record { domain = negsuc 0 ∷ pos 2 ∷ pos 3 ∷ pos 5 ∷ []; first = 7 }

abbrev two : VariableLiterals
two = record { domain = pos 0 ∷ pos 1 ∷ []; first = 3 }

abbrev one : VariableLiterals
one = record { domain = pos 4 ∷ []; first = 3 }

at_most : map (le_of four) (negsuc 1 ∷ negsuc 0 ∷ pos 2 ∷ pos 4 ∷ pos 5 ∷ pos 9 ∷ []) ≡ known.False ∷ known.Is (no 7) ∷ known.Is (no 8) ∷ known.Is (no 9) ∷ known.True ∷ known.True ∷ []
unfolding le_of among_first values_up_to
at_most = refl

equal : map (eq_of four) (negsuc 0 ∷ pos 0 ∷ pos 2 ∷ pos 3 ∷ pos 5 ∷ []) ≡ known.Is (no 7) ∷ known.False ∷ known.Is (yes 10) ∷ known.Is (yes 11) ∷ known.Is (yes 9) ∷ []
unfolding eq_of literal_of_note place_literal values_below has_number
equal = refl

of_two_and_one : eq_of two (pos 0) ∷ eq_of two (pos 1) ∷ le_of two (pos 0) ∷ eq_of one (pos 4) ∷ eq_of one (pos 5) ∷ le_of one (pos 4) ∷ le_of one (pos 3) ∷ []
    ≡ known.Is (no 3) ∷ known.Is (yes 3) ∷ known.Is (no 3) ∷ known.True ∷ known.False ∷ known.True ∷ known.False ∷ []
unfolding eq_of le_of among_first literal_of_note place_literal values_below values_up_to has_number
of_two_and_one = refl

decodings : decoded (λ v. nat_le v 6) four ∷ decoded (λ v. nat_le v 9) four ∷ decoded (λ v. nat_le v 3) two ∷ decoded (λ v. false) two ∷ decoded (λ v. false) one ∷ decoded (λ v. true) (record { domain = []; first = 1 }) ∷ []
    ≡ negsuc 0 ∷ pos 5 ∷ pos 1 ∷ pos 0 ∷ pos 4 ∷ pos 0 ∷ []
unfolding decoded known_holds literal_holds eq_of literal_of_note place_literal values_below has_number first_or_zero same_bool
decodings = refl

names : cell_text (record { name = codes "x"; indices = []; truth = false; values = [] }) ∷ cell_text (record { name = codes "q"; indices = pos 1 ∷ negsuc 1 ∷ []; truth = false; values = [] }) ∷ []
    ≡ codes "x" ∷ codes "q[1,-2]" ∷ []
unfolding cell_text indices_text joined_numbers digits
names = refl
