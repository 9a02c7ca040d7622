-- Which numbers are too far from 0.
use Rattle.ep_eval.proofs.Words.{◌≡◌, [], ◌∷◌, ℤ, pos, negsuc, true, false, refl, arith, ℕ, SFits, w64, of_z, to_z, nat_eq, sym, ap, subst, ◌∙◌, one_answer, int_eq, Decides-int_eq, is_one, Some, int_lt, nat_abs, list_any, number_in, single, is_far_value, ints, to_z-of_z, absolute_of, is_too_far}

same_number : (m n : ℕ) → nat_eq m n ≡ true → m ≡ n
same_number m n h = grind arith

-- a word stands for true where it is 1
pub is_one_word : (n : ℤ) → SFits w64 n → nat_eq (of_z w64 n) 1 ≡ is_one n
unfolding is_one
is_one_word n h =
    one_answer {P = n ≡ pos 1} (nat_eq (of_z w64 n) 1) (int_eq n (pos 1))
    (λ e. sym (to_z-of_z w64 n h) ∙ ap (to_z w64) (same_number (of_z w64 n) 1 e), λ e. subst (λ x. nat_eq (of_z w64 x) 1 ≡ true) (sym e) refl)
    (Decides-int_eq n (pos 1))

-- a number alone is too far where it is
pub far_single : (n : ℤ) → is_too_far n ≡ true → is_far_value (Some (single n)) ≡ true
unfolding number_in
far_single n h = ap (λ b. list_any (λ x. x) (b ∷ [])) h
