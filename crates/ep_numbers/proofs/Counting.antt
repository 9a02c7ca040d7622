-- How many numbers runs have, and the numbers of one run, one by one.
use Rattle.std.proofs.Common.{◌≡◌, ℕ, zero, suc, ◌+◌, ◌<◌, ℤ, pos, negsuc, ◌+ℤ◌, ◌-ℤ◌, ◌≤ℤ◌, ◌<ℤ◌, List, [], ◌∷◌, ◌++◌, length, get_or, take, refl, sym, ap, ◌∙◌, append_assoc, add-one, arith, true, false, SFits, w64, of_z, to_z}
use Rattle.std.specs.Prelude.{int_lt, nat_abs}
use Rattle.std.specs.Int.{w128}
use Rattle.std.proofs.lemmas.Int.{ints, to_z-of_z}
use Rattle.std.proofs.lemmas.List.{take_more}
use Rattle.ep_base.proofs.RunEnds.{or_zero_is}
use Rattle.ep_base.specs.declared.run_lists.Run.{Run}
use Rattle.ep_base.specs.Runs.{counting, numbers, numbers_in, or_zero}

pub numbers-append : (xs ys : List Run) → numbers (xs ++ ys) ≡ numbers xs ++ numbers ys
unfolding numbers
numbers-append [] ys = refl
numbers-append (x ∷ xs) ys = ap (λ rest. numbers_in x ++ rest) (numbers-append xs ys) ∙ sym (append_assoc (numbers_in x) (numbers xs) (numbers ys))

pub length-counting : (first : ℤ) (n : ℕ) → length (counting first n) ≡ n
unfolding counting
length-counting first zero = refl
length-counting first (suc n) = ap suc (length-counting (first +ℤ pos 1) n)

pub no_more : {A : Type 0} (xs : List A) → xs ++ [] ≡ xs
no_more [] = refl
no_more (x ∷ xs) = ap (λ rest. x ∷ rest) (no_more xs)

-- the numbers of one run more
pub numbers_more : (runs : List Run) (k : ℕ) (d : Run) → k < length runs → numbers (take (k + 1) runs) ≡ numbers (take k runs) ++ numbers_in (get_or runs k d)
unfolding numbers
numbers_more runs k d lt =
    ap numbers (take_more runs k d lt) ∙ numbers-append (take k runs) (get_or runs k d ∷ [])
    ∙ ap (λ rest. numbers (take k runs) ++ rest) (no_more (numbers_in (get_or runs k d)))

-- how many numbers one run has
pub length_of_run : (run : Run) → length (numbers_in run) ≡ or_zero ((run.hi +ℤ pos 1) -ℤ run.lo)
unfolding numbers_in
length_of_run run = length-counting run.lo (or_zero ((run.hi +ℤ pos 1) -ℤ run.lo))

pub one_more : (z : ℤ) → pos 0 ≤ℤ z → or_zero (z +ℤ pos 1) ≡ suc (or_zero z)
one_more (pos n) h = or_zero_is (pos n +ℤ pos 1) (suc n) (omega (arith, ints))
one_more (negsuc n) h = absurd (omega (arith, ints))

-- the numbers from one on that isn't the last
pub counting_step : (lo hi : ℤ) → lo <ℤ hi → counting lo (or_zero ((hi +ℤ pos 1) -ℤ lo)) ≡ lo ∷ counting (lo +ℤ pos 1) (or_zero ((hi +ℤ pos 1) -ℤ (lo +ℤ pos 1)))
unfolding counting
counting_step lo hi lt =
    let z : ℤ = (hi +ℤ pos 1) -ℤ (lo +ℤ pos 1) in
    let e : ((hi +ℤ pos 1) -ℤ lo) ≡ z +ℤ pos 1 = omega (arith, ints) in
    ap (λ w. counting lo (or_zero w)) e ∙ ap (counting lo) (one_more z (omega (arith, ints)))

-- the first number alone, where it is the last
pub counting_first : (lo hi : ℤ) → lo ≤ℤ hi → hi ≤ℤ lo → counting lo (or_zero ((hi +ℤ pos 1) -ℤ lo)) ≡ lo ∷ []
unfolding counting
counting_first lo hi low high =
    let e : ((hi +ℤ pos 1) -ℤ lo) ≡ pos 1 = omega (arith, ints) in
    ap (λ w. counting lo (or_zero w)) e

-- the last number alone
pub counting_last : (lo hi : ℤ) → lo ≤ℤ hi → hi ≤ℤ lo → counting lo (or_zero ((hi +ℤ pos 1) -ℤ lo)) ≡ hi ∷ []
counting_last lo hi low high =
    let same : lo ≡ hi = omega (arith, ints) in
    counting_first lo hi low high ∙ ap (λ x. x ∷ []) same

-- one number more at the end
pub counting_from : (a : ℤ) (n : ℕ) → counting a (suc n) ≡ counting a n ++ (a +ℤ pos n) ∷ []
unfolding counting
counting_from a zero = ap (λ x. x ∷ []) (omega (arith, ints))
counting_from a (suc n) = ap (λ xs. a ∷ xs) (counting_from (a +ℤ pos 1) n ∙ ap (λ x. counting (a +ℤ pos 1) n ++ x ∷ []) (omega (arith, ints)))

-- one index more
pub counting_more : (n : ℕ) → counting (pos 1) (n + 1) ≡ counting (pos 1) n ++ (pos (n + 1)) ∷ []
counting_more n = rw (add-one n) (counting_from (pos 1) n ∙ ap (λ x. counting (pos 1) n ++ x ∷ []) (omega (arith, ints)))

-- a number below 0 counts nothing
pub none_below : (z : ℤ) → int_lt z (pos 0) ≡ true → or_zero z ≡ 0
none_below (pos n) h = grind arith
none_below (negsuc n) h = refl

-- any other number counts itself
pub itself_above : (z : ℤ) → int_lt z (pos 0) ≡ false → nat_abs z ≡ or_zero z
itself_above (pos n) h = refl
itself_above (negsuc n) h = absurd cc

-- the length of a run in words that are wide enough
pub wide_length : (hi lo a b : ℤ) → SFits w64 hi → SFits w64 lo → a ≡ to_z w64 (of_z w64 hi) → b ≡ to_z w64 (of_z w64 lo)
    → to_z w128 (of_z w128 (to_z w128 (of_z w128 (to_z w128 (of_z w128 a) +ℤ pos 1)) -ℤ to_z w128 (of_z w128 b))) ≡ ((hi +ℤ pos 1) -ℤ lo)
wide_length hi lo a b h k p q =
    let first : to_z w128 (of_z w128 a) ≡ hi =
    ap (λ x. to_z w128 (of_z w128 x)) (p ∙ to_z-of_z w64 hi h) ∙ to_z-of_z w128 hi (omega (arith, ints, h)) in
    let second : to_z w128 (of_z w128 b) ≡ lo =
    ap (λ x. to_z w128 (of_z w128 x)) (q ∙ to_z-of_z w64 lo k) ∙ to_z-of_z w128 lo (omega (arith, ints, k)) in
    let more : to_z w128 (of_z w128 (to_z w128 (of_z w128 a) +ℤ pos 1)) ≡ (hi +ℤ pos 1) =
    ap (λ x. to_z w128 (of_z w128 (x +ℤ pos 1))) first ∙ to_z-of_z w128 (hi +ℤ pos 1) (omega (arith, ints, h)) in
    ap (λ x. to_z w128 (of_z w128 (x -ℤ to_z w128 (of_z w128 b)))) more
    ∙ ap (λ x. to_z w128 (of_z w128 ((hi +ℤ pos 1) -ℤ x))) second
    ∙ to_z-of_z w128 ((hi +ℤ pos 1) -ℤ lo) (omega (arith, ints, h, k))
