-- The least and the greatest number of runs, and how many numbers they have.
use Rattle.std.proofs.Common.{◌≡◌, ℕ, zero, suc, ℤ, pos, negsuc, ◌+ℤ◌, ◌-ℤ◌, ◌≤ℤ◌, ◌+◌, ◌<◌, ◌≤◌, List, [], ◌∷◌, ◌++◌, length, drop, get_or, refl, sym, ap, subst, ◌∙◌, arith}
use Rattle.std.specs.Prelude.{fold, All}
use Rattle.std.specs.Int.{int_max, int_min}
use Rattle.std.proofs.lemmas.Int.{ints}
use Rattle.std.proofs.lemmas.List.{at_drop_all, at_drop_more}
use Rattle.std.proofs.lemmas.List.Elements.{All-head, All-tail}
use Rattle.ep_base.specs.Intervals.{from_to, greatest_or_zero, least_or_zero, spanned}
use Rattle.ep_base.specs.Numbers.{greatest_of, least_of}
use Rattle.ep_base.specs.Runs.{counting, numbers, numbers_in, or_zero}
use Rattle.ep_base.specs.declared.run_lists.Run.{Run}
use Rattle.ep_base.specs.RunEnds.{greatest_from, least_from}

-- a run has a number
abbrev pub IsFilled : Run → Type 0
IsFilled run = run.lo ≤ℤ run.hi

fold_append : (f : ℤ → ℤ → ℤ) (a : ℤ) (xs ys : List ℤ) → fold f a (xs ++ ys) ≡ fold f (fold f a xs) ys
fold_append f a [] ys = refl
fold_append f a (x ∷ xs) ys = fold_append f (f a x) xs ys

pub or_zero_is : (z : ℤ) (n : ℕ) → z ≡ pos n → or_zero z ≡ n
or_zero_is (pos m) n e = ap or_zero e
or_zero_is (negsuc m) n e = ap or_zero e

less_first : (b l : ℤ) → b ≤ℤ l → int_min b l ≡ b
less_first b l h = grind (arith, ints)

less_more : (b l : ℤ) → b ≤ℤ l → b ≤ℤ (l +ℤ pos 1)
less_more b l h = omega (arith, ints, h)

min_counting : (b l : ℤ) (n : ℕ) → b ≤ℤ l → fold int_min b (counting l n) ≡ b
unfolding counting
min_counting b l zero h = refl
min_counting b l (suc n) h =
    ap (λ x. fold int_min x (counting (l +ℤ pos 1) n)) (less_first b l h) ∙ min_counting b (l +ℤ pos 1) n (less_more b l h)

min_below : (a l : ℤ) → int_min a l ≤ℤ (l +ℤ pos 1)
min_below a l = grind (arith, ints)

min_some : (a l : ℤ) (n : ℕ) → fold int_min a (counting l (suc n)) ≡ int_min a l
unfolding counting
min_some a l n = min_counting (int_min a l) (l +ℤ pos 1) n (min_below a l)

max_alone : (b l : ℤ) → int_max b l ≡ int_max b (l +ℤ pos 0)
max_alone b l = grind (arith, ints)

max_next : (b l : ℤ) (n : ℕ) → int_max (int_max b l) ((l +ℤ pos 1) +ℤ pos n) ≡ int_max b (l +ℤ pos (suc n))
max_next b l n = grind (arith, ints)

max_some : (b l : ℤ) (n : ℕ) → fold int_max b (counting l (suc n)) ≡ int_max b (l +ℤ pos n)
unfolding counting
max_some b l zero = max_alone b l
max_some b l (suc n) = max_some (int_max b l) (l +ℤ pos 1) n ∙ max_next b l n

-- how far a run goes from its first number on
filled_length : (run : Run) → IsFilled run → (n : ℕ) × (run.hi ≡ run.lo +ℤ pos n)
filled_length run h = from (run.hi -ℤ run.lo) refl
  where
    from : (z : ℤ) → (run.hi -ℤ run.lo) ≡ z → (n : ℕ) × (run.hi ≡ run.lo +ℤ pos n)
    from (pos n) e = (n, omega (arith, ints, e))
    from (negsuc n) e = absurd (omega (arith, ints, e, h))

run_counted : (run : Run) (n : ℕ) → run.hi ≡ run.lo +ℤ pos n → numbers_in run ≡ counting run.lo (suc n)
unfolding numbers_in
run_counted run n e = ap (counting run.lo) (or_zero_is ((run.hi +ℤ pos 1) -ℤ run.lo) (suc n) (omega (arith, ints, e)))

run_min : (a : ℤ) (run : Run) → IsFilled run → fold int_min a (numbers_in run) ≡ int_min a run.lo
run_min a run h =
    let f = filled_length run h in ap (fold int_min a) (run_counted run f.0 f.1) ∙ min_some a run.lo f.0

run_max : (a : ℤ) (run : Run) → IsFilled run → fold int_max a (numbers_in run) ≡ int_max a run.hi
run_max a run h =
    let f = filled_length run h in
    ap (fold int_max a) (run_counted run f.0 f.1) ∙ max_some a run.lo f.0 ∙ ap (int_max a) (sym f.1)

runs_min : (a : ℤ) (runs : List Run) → All IsFilled runs → fold int_min a (numbers runs) ≡ least_from a runs
unfolding numbers
runs_min a [] h = refl
runs_min a (run ∷ runs) h =
    fold_append int_min a (numbers_in run) (numbers runs)
    ∙ ap (λ x. fold int_min x (numbers runs)) (run_min a run (All-head IsFilled run runs h)) ∙ runs_min (int_min a run.lo) runs (All-tail IsFilled run runs h)

runs_max : (a : ℤ) (runs : List Run) → All IsFilled runs → fold int_max a (numbers runs) ≡ greatest_from a runs
unfolding numbers
runs_max a [] h = refl
runs_max a (run ∷ runs) h =
    fold_append int_max a (numbers_in run) (numbers runs)
    ∙ ap (λ x. fold int_max x (numbers runs)) (run_max a run (All-head IsFilled run runs h)) ∙ runs_max (int_max a run.hi) runs (All-tail IsFilled run runs h)

same_least : (x : ℤ) (xs : List ℤ) → least_or_zero (x ∷ xs) ≡ fold int_min x (x ∷ xs)
unfolding least_or_zero least_of
same_least x xs = ap (λ y. fold int_min y xs) (twice x)
  where
    twice : (y : ℤ) → y ≡ int_min y y
    twice y = grind (arith, ints)

-- the greatest of some numbers is no less than the first of them
same_greatest : (x : ℤ) (xs : List ℤ) → greatest_or_zero (x ∷ xs) ≡ fold int_max x (x ∷ xs)
unfolding greatest_or_zero greatest_of
same_greatest x xs = ap (λ y. fold int_max y xs) (twice x)
  where
    twice : (y : ℤ) → y ≡ int_max y y
    twice y = grind (arith, ints)

first_numbers : (run : Run) (runs : List Run) (n : ℕ) → run.hi ≡ run.lo +ℤ pos n → numbers (run ∷ runs) ≡ run.lo ∷ (counting (run.lo +ℤ pos 1) n ++ numbers runs)
unfolding numbers counting
first_numbers run runs n e = ap (λ xs. xs ++ numbers runs) (run_counted run n e)

-- the least number of runs, the first of which is begun with
pub least_is : (run : Run) (runs : List Run) → All IsFilled (run ∷ runs) → least_or_zero (numbers (run ∷ runs)) ≡ least_from run.lo (run ∷ runs)
least_is run runs h =
    let f = filled_length run (All-head IsFilled run runs h) in
    let rest : List ℤ = counting (run.lo +ℤ pos 1) f.0 ++ numbers runs in
    ap least_or_zero (first_numbers run runs f.0 f.1) ∙ same_least run.lo rest
    ∙ ap (fold int_min run.lo) (sym (first_numbers run runs f.0 f.1)) ∙ runs_min run.lo (run ∷ runs) h

last_above : (a b c : ℤ) → a ≤ℤ c → int_max (int_max a b) c ≡ int_max (int_max c b) c
last_above a b c h = grind (arith, ints)

-- beginning with the last number of the first run in place of its first number changes nothing
begun_higher : (run : Run) (runs : List Run) → IsFilled run → greatest_from run.lo (run ∷ runs) ≡ greatest_from run.hi (run ∷ runs)
begun_higher run runs h = ap (λ x. greatest_from x runs) (both run.lo run.hi h)
  where
    both : (a b : ℤ) → a ≤ℤ b → int_max a b ≡ int_max b b
    both a b k = grind (arith, ints)

pub greatest_is : (run : Run) (runs : List Run) → All IsFilled (run ∷ runs) → greatest_or_zero (numbers (run ∷ runs)) ≡ greatest_from run.hi (run ∷ runs)
greatest_is run runs h =
    let f = filled_length run (All-head IsFilled run runs h) in
    let rest : List ℤ = counting (run.lo +ℤ pos 1) f.0 ++ numbers runs in
    ap greatest_or_zero (first_numbers run runs f.0 f.1) ∙ same_greatest run.lo rest
    ∙ ap (fold int_max run.lo) (sym (first_numbers run runs f.0 f.1)) ∙ runs_max run.lo (run ∷ runs) h
    ∙ begun_higher run runs (All-head IsFilled run runs h)

-- ---- loops

pub least_more : (xs : List Run) (k : ℕ) (x d : Run) (a next whole : ℤ) → k < length xs → x ≡ get_or xs k d → next ≡ int_min a x.lo
    → least_from a (drop k xs) ≡ whole → least_from next (drop (k + 1) xs) ≡ whole
least_more xs k x d a next whole h same is w =
    ap (λ b. least_from b (drop (k + 1) xs)) (is ∙ ap (λ y. int_min a y.lo) same) ∙ sym (at_drop_more (least_from a) xs k d h) ∙ w

pub greatest_more : (xs : List Run) (k : ℕ) (x d : Run) (a next whole : ℤ) → k < length xs → x ≡ get_or xs k d → next ≡ int_max a x.hi
    → greatest_from a (drop k xs) ≡ whole → greatest_from next (drop (k + 1) xs) ≡ whole
greatest_more xs k x d a next whole h same is w =
    ap (λ b. greatest_from b (drop (k + 1) xs)) (is ∙ ap (λ y. int_max a y.hi) same) ∙ sym (at_drop_more (greatest_from a) xs k d h) ∙ w

pub least_all : (xs : List Run) (k : ℕ) (a : ℤ) → length xs ≤ k → least_from a (drop k xs) ≡ a
least_all xs k a h = at_drop_all (least_from a) xs k h

pub greatest_all : (xs : List Run) (k : ℕ) (a : ℤ) → length xs ≤ k → greatest_from a (drop k xs) ≡ a
greatest_all xs k a h = at_drop_all (greatest_from a) xs k h

-- ---- a set

pub spanned_is : (runs : List Run) (f : Run) (rest : List Run) (set : List ℤ) (a b : ℤ) → runs ≡ f ∷ rest → All IsFilled runs → numbers runs ≡ set
    → a ≡ least_from f.lo runs → b ≡ greatest_from f.hi runs → from_to a b ≡ spanned set
unfolding spanned
spanned_is runs f rest set a b cut filled same low high =
    let all : All IsFilled (f ∷ rest) = subst (All IsFilled) cut filled in
    let one : a ≡ least_or_zero set =
    low ∙ ap (least_from f.lo) cut ∙ sym (least_is f rest all) ∙ ap (λ rs. least_or_zero (numbers rs)) (sym cut) ∙ ap least_or_zero same in
    let other : b ≡ greatest_or_zero set =
    high ∙ ap (greatest_from f.hi) cut ∙ sym (greatest_is f rest all) ∙ ap (λ rs. greatest_or_zero (numbers rs)) (sym cut) ∙ ap greatest_or_zero same in
    ap (λ x. from_to x b) one ∙ ap (from_to (least_or_zero set)) other

pub spanned_none : (runs : List Run) (set : List ℤ) → length runs ≡ 0 → numbers runs ≡ set → from_to (pos 0) (pos 0) ≡ spanned set
unfolding spanned least_or_zero greatest_or_zero least_of greatest_of numbers
spanned_none [] set h same = ap spanned same
spanned_none (r ∷ rs) set h same = absurd (omega (arith, h))
