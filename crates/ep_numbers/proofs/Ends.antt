-- Which numbers are too far from 0, and the ends of intervals.
use Rattle.std.proofs.Common.{◌≡◌, ◌∙◌, ℕ, zero, suc, ◌+◌, ◌<◌, ◌≤◌, ℤ, pos, negsuc, ◌+ℤ◌, ◌≤ℤ◌, List, [], ◌∷◌, length, drop, get_or, true, false, refl, sym, ap, subst, arith, SFits, w64}
use Rattle.std.specs.Prelude.{◌||◌, Option, Some, None, Bool, IsSome, if◌then◌else◌, fold, int_lt, map, nat_abs, neg_ℤ}
use Rattle.std.specs.Int.{int_max, int_min}
use Rattle.std.specs.List.{All}
use Rattle.std.proofs.lemmas.Int.{ints}
use Rattle.std.proofs.lemmas.List.{at_drop_all, at_drop_more}
use Rattle.std.proofs.lemmas.List.Elements.{All-cons, All-head, All-nil, All-tail}
use Rattle.ep_base.specs.Intervals.{Interval, IsWithinReach, farthest_end, from_to, greatest_or_zero, has_zero, highs, least_or_zero, lows, nth_power_interval, only, spanned}
use Rattle.ep_base.specs.Numbers.{absolute_of, greatest_of, least_of, nth_power, sum_of}
use Rattle.ep_base.specs.Reads.{IsWithinNumbers, is_too_far}

pub far_above : (n : ℤ) → int_lt (pos 1099511627776) n ≡ true → int_lt (pos 1099511627776) n ≡ is_too_far n
unfolding is_too_far absolute_of
far_above (pos n) h = refl
far_above (negsuc n) h = absurd cc

pub far_below : (n : ℤ) → int_lt (pos 1099511627776) n ≡ false → int_lt n (negsuc 1099511627775) ≡ is_too_far n
unfolding is_too_far absolute_of
far_below (pos n) h = grind (arith, ints)
far_below (negsuc n) h = grind (arith, ints)

-- a number that is near is a word
pub near_fits : (n : ℤ) → is_too_far n ≡ false → SFits w64 n
unfolding is_too_far absolute_of
near_fits (pos n) h = grind (arith, ints)
near_fits (negsuc n) h = grind (arith, ints)

-- a number is within reach where it isn't too far
pub within_near : (n : ℤ) → IsWithinNumbers n → is_too_far n ≡ false
unfolding is_too_far absolute_of
within_near (pos n) h = grind (arith, ints)
within_near (negsuc n) h = grind (arith, ints)

pub near_within : (n : ℤ) → is_too_far n ≡ false → IsWithinNumbers n
unfolding is_too_far absolute_of
near_within (pos n) h = (grind (arith, ints), grind (arith, ints))
near_within (negsuc n) h = (grind (arith, ints), grind (arith, ints))

-- what isn't told, though each number within reach is, is too far
pub untold_far : (o : Option ℤ) (n : ℤ) → (IsWithinNumbers n → IsSome o) → o ≡ None → is_too_far n ≡ true
untold_far (Some x) n told h = absurd cc
untold_far None n told h = by (is_too_far n) refl
  where
    by : (b : Bool) → is_too_far n ≡ b → is_too_far n ≡ true
    by true e = e
    by false e = absurd (let some = told (near_within n e) in cc)

pub absolute_is : (n : ℤ) → pos (nat_abs n) ≡ absolute_of n
unfolding absolute_of
absolute_is (pos n) = refl
absolute_is (negsuc n) = refl

-- ---- loops that fold

pub begun : {A : Type 0} (f : ℤ → A → ℤ) (a b : ℤ) (xs : List A) → a ≡ b → fold f a xs ≡ fold f b xs
begun f a b xs e = ap (λ x. fold f x xs) e

pub fold_more : {A : Type 0} (f : ℤ → A → ℤ) (xs : List A) (k : ℕ) (x d : A) (a next whole : ℤ) → k < length xs → x ≡ get_or xs k d → next ≡ f a x
    → fold f a (drop k xs) ≡ whole → fold f next (drop (k + 1) xs) ≡ whole
fold_more f xs k x d a next whole h same is w =
    ap (λ b. fold f b (drop (k + 1) xs)) (is ∙ ap (f a) same) ∙ sym (at_drop_more (fold f a) xs k d h) ∙ w

pub fold_all : {A : Type 0} (f : ℤ → A → ℤ) (xs : List A) (k : ℕ) (a : ℤ) → length xs ≤ k → fold f a (drop k xs) ≡ a
fold_all f xs k a h = at_drop_all (fold f a) xs k h

low_folds : (f : ℤ → ℤ → ℤ) (g : ℕ → Interval) (a : ℤ) (ts : List ℕ) → fold (λ b t. f b (g t).low) a ts ≡ fold f a (lows (map g ts))
low_folds f g a [] = refl
low_folds f g a (t ∷ ts) = low_folds f g (f a (g t).low) ts

high_folds : (f : ℤ → ℤ → ℤ) (g : ℕ → Interval) (a : ℤ) (ts : List ℕ) → fold (λ b t. f b (g t).high) a ts ≡ fold f a (highs (map g ts))
high_folds f g a [] = refl
high_folds f g a (t ∷ ts) = high_folds f g (f a (g t).high) ts

-- the least of the lower ends of the intervals of terms, which is begun with that of the first
pub least_low : (g : ℕ → Interval) (ts : List ℕ) (t : ℕ) (rest : List ℕ) (a x : ℤ) → ts ≡ t ∷ rest → a ≡ (g t).low → x ≡ fold (λ b u. int_min b (g u).low) a rest → x ≡ least_or_zero (lows (map g ts))
unfolding least_or_zero least_of
least_low g ts t rest a x cut first is =
    is ∙ ap (λ b. fold (λ c u. int_min c (g u).low) b rest) first ∙ low_folds int_min g (g t).low rest ∙ ap (λ us. least_or_zero (lows (map g us))) (sym cut)

pub greatest_low : (g : ℕ → Interval) (ts : List ℕ) (t : ℕ) (rest : List ℕ) (a x : ℤ) → ts ≡ t ∷ rest → a ≡ (g t).low → x ≡ fold (λ b u. int_max b (g u).low) a rest → x ≡ greatest_or_zero (lows (map g ts))
unfolding greatest_or_zero greatest_of
greatest_low g ts t rest a x cut first is =
    is ∙ ap (λ b. fold (λ c u. int_max c (g u).low) b rest) first ∙ low_folds int_max g (g t).low rest ∙ ap (λ us. greatest_or_zero (lows (map g us))) (sym cut)

pub least_high : (g : ℕ → Interval) (ts : List ℕ) (t : ℕ) (rest : List ℕ) (a x : ℤ) → ts ≡ t ∷ rest → a ≡ (g t).high → x ≡ fold (λ b u. int_min b (g u).high) a rest → x ≡ least_or_zero (highs (map g ts))
unfolding least_or_zero least_of
least_high g ts t rest a x cut first is =
    is ∙ ap (λ b. fold (λ c u. int_min c (g u).high) b rest) first ∙ high_folds int_min g (g t).high rest ∙ ap (λ us. least_or_zero (highs (map g us))) (sym cut)

pub greatest_high : (g : ℕ → Interval) (ts : List ℕ) (t : ℕ) (rest : List ℕ) (a x : ℤ) → ts ≡ t ∷ rest → a ≡ (g t).high → x ≡ fold (λ b u. int_max b (g u).high) a rest → x ≡ greatest_or_zero (highs (map g ts))
unfolding greatest_or_zero greatest_of
greatest_high g ts t rest a x cut first is =
    is ∙ ap (λ b. fold (λ c u. int_max c (g u).high) b rest) first ∙ high_folds int_max g (g t).high rest ∙ ap (λ us. greatest_or_zero (highs (map g us))) (sym cut)

pub least_none : (xs : List ℕ) (g : ℕ → Interval) → length xs ≡ 0 → (pos 0 ≡ least_or_zero (lows (map g xs))) × (pos 0 ≡ least_or_zero (highs (map g xs)))
unfolding least_or_zero least_of
least_none [] g h = (refl, refl)
least_none (x ∷ xs) g h = absurd (omega (arith, h))

pub greatest_none : (xs : List ℕ) (g : ℕ → Interval) → length xs ≡ 0 → (pos 0 ≡ greatest_or_zero (lows (map g xs))) × (pos 0 ≡ greatest_or_zero (highs (map g xs)))
unfolding greatest_or_zero greatest_of
greatest_none [] g h = (refl, refl)
greatest_none (x ∷ xs) g h = absurd (omega (arith, h))

-- ---- sums

pub low_parts : {A : Type 0} (g : A → Interval) (a : ℤ) (xs : List A) → fold (λ b x. b +ℤ (g x).low) a xs ≡ a +ℤ sum_of (lows (map g xs))
unfolding sum_of
low_parts g a [] = omega (arith, ints)
low_parts g a (x ∷ xs) = low_parts g (a +ℤ (g x).low) xs ∙ omega (arith, ints)

pub high_parts : {A : Type 0} (g : A → Interval) (a : ℤ) (xs : List A) → fold (λ b x. b +ℤ (g x).high) a xs ≡ a +ℤ sum_of (highs (map g xs))
unfolding sum_of
high_parts g a [] = omega (arith, ints)
high_parts g a (x ∷ xs) = high_parts g (a +ℤ (g x).high) xs ∙ omega (arith, ints)

pub powered : (i : Interval) (n : ℕ) → 1 ≤ n → spanned (nth_power i.low n ∷ nth_power i.high n ∷ (if has_zero i then pos 0 ∷ [] else [])) ≡ nth_power_interval i n
unfolding nth_power_interval
powered i zero h = absurd (omega (arith, h))
powered i (suc n) h = refl

pub power_zero : (i : Interval) (n : ℕ) → n ≡ 0 → only (pos 1) ≡ nth_power_interval i n
unfolding nth_power_interval
power_zero i zero h = refl
power_zero i (suc n) h = absurd (omega (arith, h))

-- ---- the least and the greatest

pub up : (a b c : ℤ) → a ≤ℤ b → b ≤ℤ c → a ≤ℤ c
up a b c h k = omega (arith, ints, h, k)

pub min_left : (x y : ℤ) → int_min x y ≤ℤ x
min_left x y = grind (arith, ints)

pub min_right : (x y : ℤ) → int_min x y ≤ℤ y
min_right x y = grind (arith, ints)

pub max_left : (x y : ℤ) → x ≤ℤ int_max x y
max_left x y = grind (arith, ints)

pub max_right : (x y : ℤ) → y ≤ℤ int_max x y
max_right x y = grind (arith, ints)

pub itself : (x : ℤ) → x ≤ℤ x
itself x = omega (arith, ints)

pub min_start : (a : ℤ) (xs : List ℤ) → fold int_min a xs ≤ℤ a
min_start a [] = itself a
min_start a (x ∷ xs) = up (fold int_min (int_min a x) xs) (int_min a x) a (min_start (int_min a x) xs) (min_left a x)

pub max_start : (a : ℤ) (xs : List ℤ) → a ≤ℤ fold int_max a xs
max_start a [] = itself a
max_start a (x ∷ xs) = up a (int_max a x) (fold int_max (int_max a x) xs) (max_left a x) (max_start (int_max a x) xs)

pub within_from : (a b : ℤ) (xs : List ℤ) → neg_ℤ (pos 1099511627776) ≤ℤ fold int_min a xs → fold int_max b xs ≤ℤ pos 1099511627776 → All IsWithinNumbers xs
within_from a b [] h k = All-nil IsWithinNumbers
within_from a b (x ∷ xs) h k =
    let low : fold int_min (int_min a x) xs ≤ℤ x = up (fold int_min (int_min a x) xs) (int_min a x) x (min_start (int_min a x) xs) (min_right a x) in
    let high : x ≤ℤ fold int_max (int_max b x) xs = up x (int_max b x) (fold int_max (int_max b x) xs) (max_right b x) (max_start (int_max b x) xs) in
    All-cons IsWithinNumbers x xs
    (up (neg_ℤ (pos 1099511627776)) (fold int_min (int_min a x) xs) x h low, up x (fold int_max (int_max b x) xs) (pos 1099511627776) high k)
    (within_from (int_min a x) (int_max b x) xs h k)

-- each of some numbers is near where the least and the greatest of them are
pub near_all : (values : List ℤ) (i : Interval) → i ≡ spanned values → IsWithinReach i → All IsWithinNumbers values
unfolding spanned least_or_zero greatest_or_zero least_of greatest_of
near_all [] i e h = All-nil IsWithinNumbers
near_all (x ∷ xs) i e h =
    let k : IsWithinReach (from_to (fold int_min x xs) (fold int_max x xs)) = subst IsWithinReach e h in
    All-cons IsWithinNumbers x xs
    (up (neg_ℤ (pos 1099511627776)) (fold int_min x xs) x k.low.0 (min_start x xs), up x (fold int_max x xs) (pos 1099511627776) (max_start x xs) k.high.1)
    (within_from x x xs k.low.0 k.high.1)

-- ---- ends of near numbers

pub min_in : (l h a : ℤ) (xs : List ℤ) → (l ≤ℤ a) × (a ≤ℤ h) → All (λ x. (l ≤ℤ x) × (x ≤ℤ h)) xs → (l ≤ℤ fold int_min a xs) × (fold int_min a xs ≤ℤ h)
min_in l h a [] k all = k
min_in l h a (x ∷ xs) k all =
    let m = All-head (λ y. (l ≤ℤ y) × (y ≤ℤ h)) x xs all in
    min_in l h (int_min a x) xs (low k.0 m.0, high k.1 m.1) (All-tail (λ y. (l ≤ℤ y) × (y ≤ℤ h)) x xs all)
  where
    low : l ≤ℤ a → l ≤ℤ x → l ≤ℤ int_min a x
    low p q = grind (arith, ints, p, q)

    high : a ≤ℤ h → x ≤ℤ h → int_min a x ≤ℤ h
    high p q = grind (arith, ints, p, q)

pub max_in : (l h a : ℤ) (xs : List ℤ) → (l ≤ℤ a) × (a ≤ℤ h) → All (λ x. (l ≤ℤ x) × (x ≤ℤ h)) xs → (l ≤ℤ fold int_max a xs) × (fold int_max a xs ≤ℤ h)
max_in l h a [] k all = k
max_in l h a (x ∷ xs) k all =
    let m = All-head (λ y. (l ≤ℤ y) × (y ≤ℤ h)) x xs all in
    max_in l h (int_max a x) xs (low k.0 m.0, high k.1 m.1) (All-tail (λ y. (l ≤ℤ y) × (y ≤ℤ h)) x xs all)
  where
    low : l ≤ℤ a → l ≤ℤ x → l ≤ℤ int_max a x
    low p q = grind (arith, ints, p, q)

    high : a ≤ℤ h → x ≤ℤ h → int_max a x ≤ℤ h
    high p q = grind (arith, ints, p, q)

pub near_span : (values : List ℤ) (i : Interval) → i ≡ spanned values → All IsWithinNumbers values → IsWithinReach i
unfolding spanned least_or_zero greatest_or_zero least_of greatest_of
near_span [] i e h = subst IsWithinReach (sym e) (record { low = (omega (arith, ints), omega (arith, ints)); high = (omega (arith, ints), omega (arith, ints)) })
near_span (x ∷ xs) i e h =
    let first = All-head IsWithinNumbers x xs h in
    let rest = All-tail IsWithinNumbers x xs h in
    subst IsWithinReach (sym e)
    (record {
      low = min_in (neg_ℤ (pos 1099511627776)) (pos 1099511627776) x xs first rest;
      high = max_in (neg_ℤ (pos 1099511627776)) (pos 1099511627776) x xs first rest;
    })

-- the powers of both ends are near where their interval is
pub ends_near : (i : Interval) (n : ℕ) → 1 ≤ n → IsWithinReach (nth_power_interval i n) → IsWithinNumbers (nth_power i.low n) × IsWithinNumbers (nth_power i.high n)
unfolding nth_power_interval
ends_near i zero h w = absurd (omega (arith, h))
ends_near i (suc n) h w =
    let zeros : List ℤ = if has_zero i then pos 0 ∷ [] else [] in
    let rest : List ℤ = nth_power i.high (suc n) ∷ zeros in
    let xs : List ℤ = nth_power i.low (suc n) ∷ rest in
    let all = near_all xs (spanned xs) refl w in
    (All-head IsWithinNumbers (nth_power i.low (suc n)) rest all, All-head IsWithinNumbers (nth_power i.high (suc n)) zeros (All-tail IsWithinNumbers (nth_power i.low (suc n)) rest all))

-- ---- intervals that reach too far

-- an interval reaches too far where one of its ends does
pub far_ends : (a b : ℤ) → is_too_far (farthest_end (from_to a b)) ≡ (is_too_far a || is_too_far b)
unfolding is_too_far farthest_end absolute_of
far_ends (pos m) (pos n) = grind (arith, ints)
far_ends (pos m) (negsuc n) = grind (arith, ints)
far_ends (negsuc m) (pos n) = grind (arith, ints)
far_ends (negsuc m) (negsuc n) = grind (arith, ints)

pub reach_near : (i : Interval) → IsWithinReach i → is_too_far (farthest_end i) ≡ false
reach_near i h = far_ends i.low i.high ∙ ap (λ b. b || is_too_far i.high) (within_near i.low h.low) ∙ within_near i.high h.high

near_reach : (i : Interval) → is_too_far (farthest_end i) ≡ false → IsWithinReach i
near_reach i h = record { low = near_within i.low (first (is_too_far i.low) (is_too_far i.high) either); high = near_within i.high (second (is_too_far i.low) (is_too_far i.high) either) }
  where
    either : (is_too_far i.low || is_too_far i.high) ≡ false
    either = sym (far_ends i.low i.high) ∙ h

    first : (a b : Bool) → (a || b) ≡ false → a ≡ false
    first false b k = refl
    first true b k = k

    second : (a b : Bool) → (a || b) ≡ false → b ≡ false
    second false b k = k
    second true b k = absurd cc

-- an interval of which nothing is told, though each within reach is, reaches too far
pub untold_reach : {A : Type 0} (o : Option A) (i : Interval) → (IsWithinReach i → IsSome o) → o ≡ None → is_too_far (farthest_end i) ≡ true
untold_reach (Some x) i told h = absurd cc
untold_reach None i told h = by (is_too_far (farthest_end i)) refl
  where
    by : (b : Bool) → is_too_far (farthest_end i) ≡ b → is_too_far (farthest_end i) ≡ true
    by true e = e
    by false e = absurd (let some = told (near_reach i e) in cc)
