-- The hints of a number lie between 0 and its order.
use Rattle.std.proofs.Common.{◌≡◌, ℕ, ◌+◌, ◌-◌, ◌*◌, ◌/◌, ◌%◌, ◌<◌, ◌≤◌, Bool, true, false, cond, ◌&&◌, ◌||◌, List, [], ◌∷◌, length, map, ℤ, pos, refl, ap, arith, int_le, mod-lt}
use Rattle.std.specs.Prelude.{◌==◌}
use Rattle.std.specs.List.{list_all, range_with_len}
use Rattle.std.proofs.lemmas.Bool.{and_from}
use Rattle.std.proofs.lemmas.Int.{ints}
use Rattle.std.proofs.lemmas.List.FromFn.{length-map-range_with_len}
use Rattle.ep_gen.specs.Hints.{hint_of, nth_number, row_of, square_rows}
use Rattle.ep_gen_laws.proofs.Fitting.{RowsPass}

-- whether a number lies between 0 and another one, as a domain's test says it
abbrev pub up_to : ℕ → ℤ → Bool
up_to n x = int_le (pos 0) x && int_le x (pos n) || false

least : (m : ℕ) → int_le (pos 0) (pos m) ≡ true
least m = grind (arith, ints)

most : (m n : ℕ) → m ≤ n → int_le (pos m) (pos n) ≡ true
most m n le = grind (arith, ints)

number_passes : (n m : ℕ) → m ≤ n → up_to n (pos m) ≡ true
number_passes n m le = ap (λ b. b || false) (and_from (int_le (pos 0) (pos m)) (int_le (pos m) (pos n)) (least m) (most m n le))

either_passes : (b : Bool) (n m : ℕ) → m ≤ n → up_to n (cond b (pos m) (pos 0)) ≡ true
either_passes true n m le = number_passes n m le
either_passes false n m le = number_passes n 0 (omega arith)

hint_passes : (n i j s : ℕ) → 0 < n → up_to n (hint_of n i j s) ≡ true
unfolding hint_of
hint_passes n i j s some =
    let small : (i + j) % n < n = mod-lt (i + j) some in
    either_passes ((s / 65536) % 3 == 0) n ((i + j) % n + 1) (omega (arith, small))

each_passes : (p : ℤ → Bool) (f : ℕ → ℤ) (js : List ℕ) → ((j : ℕ) → p (f j) ≡ true) → list_all p (map f js) ≡ true
each_passes p f [] all = refl
each_passes p f (j ∷ js) all = and_from _ _ (all j) (each_passes p f js all)

rows_pass : (number n : ℕ) (is : List ℕ) → 0 < n → RowsPass (up_to n) n (map (λ i. row_of number n ((i - 1) * n) i) is)
unfolding row_of
rows_pass number n [] some = tt
rows_pass number n (i ∷ is) some = (
  each_passes (up_to n) (λ j. hint_of n i j (nth_number number ((i - 1) * n + j))) (range_with_len 1 n) (λ j. hint_passes n i j (nth_number number ((i - 1) * n + j)) some),
  length-map-range_with_len (λ j. hint_of n i j (nth_number number ((i - 1) * n + j))) 1 n,
  rows_pass number n is some,
)

pub hints_pass : (number n : ℕ) → 0 < n → RowsPass (up_to n) n (square_rows number n)
unfolding square_rows
hints_pass number n some = rows_pass number n (range_with_len 1 n) some

pub hints_count : (number n : ℕ) → length (square_rows number n) ≡ n
unfolding square_rows
hints_count number n = length-map-range_with_len (λ i. row_of number n ((i - 1) * n) i) 1 n
