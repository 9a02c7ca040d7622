-- The text of the parameters is read as lettings of the order and of the hints.
use Rattle.std.proofs.Common.{◌≡◌, ℕ, zero, suc, ◌+◌, ◌^◌, ◌≤◌, Bool, true, false, List, [], ◌∷◌, length, map, codes, ℤ, pos, negsuc, refl, arith, int_le, ◌||◌}
use Rattle.std.specs.Prelude.{nat_lt}
use Rattle.std.specs.List.{list_all}
use Rattle.std.proofs.lemmas.Bool.{and_from, and_parts, false≢true}
use Rattle.std.proofs.lemmas.Bool.Decides.{nat_tests}
use Rattle.std.proofs.lemmas.Int.{ints}
use Rattle.ep_base.specs.Runs.{counting}
use Rattle.ep_base.specs.TokenTexts.{is_word}
use Rattle.ep_tree.specs.Values.{as_parts, list_value, single}
use Rattle.ep_tree.specs.declared.values.Scalar.{Scalar}
use Rattle.ep_tree.specs.declared.values.ValueType.{ValueType}
use Rattle.ep_print.specs.Answers.{letting_texts}
use Rattle.ep_print_laws.specs.Answered.{CanBeWritten, SpellsLettings, are_short_values, has_few_digits, is_short_value, letting_of}
use Rattle.ep_gen.specs.Hints.{order_of, square_rows, square_value}
use Rattle.ep_gen.specs.Texts.{generated_params, params_of}
use Rattle.ep_gen_laws.proofs.Fitting.{RowsPass}
use Rattle.ep_gen_laws.proofs.LettingsSpelled.{AllWritten, lettings_lexed, with_lettings}
use Rattle.ep_gen_laws.proofs.Passing.{up_to}

-- ---- numbers of few digits

few_digits : (m : ℕ) → m ≤ 100 → nat_lt m (10 ^ 18) ≡ true
few_digits m le = grind (arith, nat_tests)

pub either_one : (b : Bool) → (b || false) ≡ true → b ≡ true
either_one true e = refl
either_one false e = e

passing_few : (n : ℕ) (x : ℤ) → n ≤ 50 → up_to n x ≡ true → has_few_digits x ≡ true
unfolding has_few_digits
passing_few n (pos m) le h =
    let at : int_le (pos m) (pos n) ≡ true = (and_parts (int_le (pos 0) (pos m)) (int_le (pos m) (pos n)) (either_one _ h)).1 in
    few_digits m (omega (arith, ints, at, le))
passing_few n (negsuc m) le h = absurd (false≢true h)

row_few : (n : ℕ) (row : List ℤ) → n ≤ 50 → list_all (up_to n) row ≡ true → are_short_values (as_parts (map (λ x. single x) row)) ≡ true
unfolding are_short_values is_short_value as_parts
row_few n [] le pass = refl
row_few n (x ∷ row) le pass =
    let both = and_parts (up_to n x) (list_all (up_to n) row) pass in
    and_from _ _ (passing_few n x le both.0) (row_few n row le both.1)

-- the indices of a square
counting_few : (k first : ℕ) → first + k ≤ 100 → list_all has_few_digits (counting (pos first) k) ≡ true
unfolding counting has_few_digits
counting_few zero first le = refl
counting_few (suc k) first le = and_from _ _ (few_digits first (omega (arith, le))) (counting_few k (first + 1) (omega (arith, le)))

rows_few : (n : ℕ) (rows : List (List ℤ)) → n ≤ 50 → RowsPass (up_to n) n rows → are_short_values (as_parts (map (λ row. list_value row) rows)) ≡ true
unfolding are_short_values is_short_value as_parts list_value
rows_few n [] le pass = refl
rows_few n (row ∷ rows) le pass =
    let long = pass.1 in
    and_from _ _ (and_from _ _ (counting_few (length row) 1 (omega (arith, le, long))) (row_few n row le pass.0)) (rows_few n rows le pass.2)

square_few : (n : ℕ) (rows : List (List ℤ)) → n ≤ 50 → RowsPass (up_to n) n rows → is_short_value (square_value n rows) ≡ true
unfolding is_short_value square_value
square_few n rows le pass = and_from _ _ (counting_few n 1 (omega (arith, le))) (rows_few n rows le pass)

-- ---- the text

order_written : (n : ℕ) → n ≤ 50 → CanBeWritten (record { name = codes "n"; ty = ValueType.Int; value = single (pos n) })
unfolding is_word is_short_value has_few_digits
order_written n le = record { name = refl; no_word = refl; short = few_digits n (omega (arith, le)) }

hints_written : (n : ℕ) (rows : List (List ℤ)) → n ≤ 50 → RowsPass (up_to n) n rows → CanBeWritten (record { name = codes "hint"; ty = ValueType.Matrix 2 Scalar.Int; value = square_value n rows })
unfolding is_word
hints_written n rows le pass = record { name = refl; no_word = refl; short = square_few n rows le pass }

-- the text of the parameters spells their lettings
pub params_spelled : (number : ℕ) → order_of number ≤ 50 → RowsPass (up_to (order_of number)) (order_of number) (square_rows number (order_of number))
    → SpellsLettings (map letting_of (params_of number)) (generated_params number)
params_spelled number le pass =
    let can : AllWritten (params_of number) = (order_written (order_of number) le, (hints_written (order_of number) (square_rows number (order_of number)) le pass, tt)) in
    with_lettings (params_of number) (letting_texts (params_of number)) can (lettings_lexed (params_of number) can)
