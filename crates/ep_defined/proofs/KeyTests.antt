-- Where a pick has a value: the indices are one of the keys of the parts that are there.
use Rattle.std.proofs.Common.{◌≡◌, ℕ, suc, ◌+◌, ℤ, Bool, true, false, ◌&&◌, ◌||◌, cond, List, [], ◌∷◌, length, Option, Some, None, refl, sym, ap, ◌∙◌, arith, nat_lt, slice_get, take, ◌==◌, if◌then◌else◌}
use Rattle.std.specs.Prelude.{filter, is_some, map, option_and_then, unwrap_or}
use Rattle.std.specs.Cmp.{second_so}
use Rattle.std.specs.List.{Contains, list_all, list_any, position_or_len}
use Rattle.std.specs.Ordering.{int_eq}
use Rattle.std.proofs.lemmas.Bool.{false≢true}
use Rattle.std.proofs.lemmas.Bool.Decides.{Decides-eqb, nat_tests}
use Rattle.std.proofs.lemmas.List.{length-map}
use Rattle.ep_base.specs.Numbers.{is_row_of, of_bool, same_numbers}
use Rattle.ep_base.specs.Reads.{first_or_zero, picked, safe_picked}
use Rattle.ep_defined.specs.Growing.{IsNodeAt}
use Rattle.ep_defined.specs.Translations.{only_if}
use Rattle.ep_defined.proofs.Parts.{there, values_there}
use Rattle.ep_ground.proofs.SameParts.{values_same}
use Rattle.ep_defined.proofs.Standing.{Follows}
use Rattle.ep_ground.specs.Nodes.{GroundNode, table}
use Rattle.ep_ground.specs.Terms.{node_value, truth}

-- whether some indices are one of the first so many keys
abbrev pub key_there : ℕ → List (List ℤ) → List ℤ → Bool
key_there parts keys indices = list_any (λ key. same_numbers key indices) (take parts keys)

abbrev at_place : List ℤ → ℕ → ℕ → Bool
at_place xs q n = is_some (option_and_then (slice_get xs) (cond (nat_lt q n) (Some q) None))

below_more : (q n : ℕ) → nat_lt (1 + q) (suc n) ≡ nat_lt q n
below_more q n = grind (arith, nat_tests)

one_plus : (n : ℕ) → 1 + n ≡ suc n
one_plus n = omega arith

none_at : (q n : ℕ) → at_place [] q n ≡ false
none_at q n = by (nat_lt q n)
  where
    by : (b : Bool) → is_some (option_and_then (slice_get {X = ℤ} []) (cond b (Some q) None)) ≡ false
    by true = refl
    by false = refl

place_more : (x : ℤ) (xs : List ℤ) (q n : ℕ) → at_place (x ∷ xs) (1 + q) (suc n) ≡ at_place xs q n
place_more x xs q n = (λ i. is_some (option_and_then (slice_get (x ∷ xs)) (cond (below_more q n i) (Some (one_plus q i)) None))) ∙ by (nat_lt q n)
  where
    by : (b : Bool) → is_some (option_and_then (slice_get (x ∷ xs)) (cond b (Some (suc q)) None)) ≡ is_some (option_and_then (slice_get xs) (cond b (Some q) None))
    by true = refl
    by false = refl

first_place : (x : ℤ) (xs : List ℤ) (n : ℕ) → at_place (x ∷ xs) 0 (suc n) ≡ true
first_place x xs n = let e : nat_lt 0 (suc n) ≡ true = grind (arith, nat_tests) in ap (λ b. is_some (option_and_then (slice_get (x ∷ xs)) (cond b (Some 0) None))) e

place_there : (xs : List ℤ) (p : List ℤ → Bool) (ks : List (List ℤ)) → at_place xs (position_or_len p ks) (length ks) ≡ list_any p (take (length xs) ks)
place_there [] p ks = none_at (position_or_len p ks) (length ks)
place_there (x ∷ xs) p [] = refl
place_there (x ∷ xs) p (k ∷ ks) = by (p k) refl (place_there xs p ks)
  where
    by : (b : Bool) → p k ≡ b → at_place xs (position_or_len p ks) (length ks) ≡ list_any p (take (length xs) ks) → at_place (x ∷ xs) (position_or_len p (k ∷ ks)) (length (k ∷ ks)) ≡ list_any p (k ∷ take (length xs) ks)
    by true s h = rw s (first_place x xs (length ks))
    by false s h = rw s (place_more x xs (position_or_len p ks) (length ks) ∙ h)

if_some : (o : Option ℤ) (d : ℤ) → o ≡ only_if (is_some o) (unwrap_or o d)
if_some None d = refl
if_some (Some x) d = refl

pub picked_if : (xs : List ℤ) (keys : List (List ℤ)) (indices : List ℤ) → picked xs keys indices ≡ only_if (key_there (length xs) keys indices) (safe_picked xs keys indices)
unfolding picked safe_picked
picked_if xs keys indices =
    if_some (picked xs keys indices) (first_or_zero xs)
    ∙ ap (λ b. only_if b (safe_picked xs keys indices)) (place_there xs (λ key. same_numbers key indices) keys)

same_length : (xs ys : List ℤ) → same_numbers xs ys ≡ true → length xs ≡ length ys
unfolding same_numbers
same_length [] [] e = refl
same_length [] (y ∷ ys) e = absurd (false≢true e)
same_length (x ∷ xs) [] e = absurd (false≢true e)
same_length (x ∷ xs) (y ∷ ys) e = ap suc (same_length xs ys (second_so (int_eq x y) (same_numbers xs ys) e))

other_length : (xs ys : List ℤ) → (length xs == length ys) ≡ false → same_numbers xs ys ≡ false
other_length xs ys e = by (same_numbers xs ys) refl
  where
    by : (b : Bool) → same_numbers xs ys ≡ b → same_numbers xs ys ≡ false
    by true s = absurd (false≢true (sym e ∙ (Decides-eqb (length xs) (length ys)).1 (same_length xs ys s)))
    by false s = s

rows_all : (m : ℕ) (ks : List (List ℤ)) → list_all (λ row. length row == m) (filter (λ key. length key == m) ks) ≡ true
rows_all m [] = refl
rows_all m (k ∷ ks) = by (length k == m) refl (rows_all m ks)
  where
    by : (b : Bool) → (length k == m) ≡ b → list_all (λ row. length row == m) (filter (λ key. length key == m) ks) ≡ true → list_all (λ row. length row == m) (cond b (k ∷ filter (λ key. length key == m) ks) (filter (λ key. length key == m) ks)) ≡ true
    by true s h = (λ i. s i && list_all (λ row. length row == m) (filter (λ key. length key == m) ks)) ∙ h
    by false s h = h

rows_any : (xs : List ℤ) (ks : List (List ℤ)) → list_any (λ row. same_numbers row xs) (filter (λ key. length key == length xs) ks) ≡ list_any (λ key. same_numbers key xs) ks
rows_any xs [] = refl
rows_any xs (k ∷ ks) = by (length k == length xs) refl (rows_any xs ks)
  where
    by : (b : Bool) → (length k == length xs) ≡ b → list_any (λ row. same_numbers row xs) (filter (λ key. length key == length xs) ks) ≡ list_any (λ key. same_numbers key xs) ks → list_any (λ row. same_numbers row xs) (cond b (k ∷ filter (λ key. length key == length xs) ks) (filter (λ key. length key == length xs) ks)) ≡ (same_numbers k xs || list_any (λ key. same_numbers key xs) ks)
    by true s h = ap (λ b. same_numbers k xs || b) h
    by false s h = h ∙ ap (λ b. b || list_any (λ key. same_numbers key xs) ks) (sym (other_length k xs s))

row_there : (xs : List ℤ) (ks : List (List ℤ)) → is_row_of (filter (λ key. length key == length xs) ks) xs ≡ Some (list_any (λ key. same_numbers key xs) ks)
unfolding is_row_of
row_there xs ks =
    ap (λ b. if b then Some (list_any (λ row. same_numbers row xs) (filter (λ key. length key == length xs) ks)) else None) (rows_all (length xs) ks)
    ∙ ap (λ b. Some b) (rows_any xs ks)

-- a table of the keys tells whether the indices are one of them
pub keys_tested : (nodes : List GroundNode) (values : List ℤ) (w : ℕ → Option ℤ) → Follows nodes values w → (n : ℕ → ℤ) (f : ℕ → ℕ) (parts : ℕ) (keys : List (List ℤ)) (indices : List ℕ) → ((p : ℕ) → Contains indices p → Some (n p) ≡ w (f p))
    → (own : ℕ) → IsNodeAt nodes own (table (map f indices) (filter (λ key. length key == length indices) (take parts keys))) → w own ≡ Some (of_bool (key_there parts keys (map n indices)))
unfolding node_value truth
keys_tested nodes values w follows n f parts keys indices same own is =
    let rows = λ (m : ℕ). filter (λ key. length key == m) (take parts keys) in
    follows own (table (map f indices) (rows (length indices))) is
    ∙ ap (λ o. truth (option_and_then (is_row_of (rows (length indices))) o)) (sym (values_same (there n) w f indices same) ∙ values_there n indices)
    ∙ ap (λ m. truth (is_row_of (rows m) (map n indices))) (sym (length-map indices n))
    ∙ ap truth (row_there (map n indices) (take parts keys))
