-- Powers: how often a number has to be multiplied by itself, and when one stays too far from 0.
use Rattle.std.proofs.Common.{◌≡◌, ℕ, suc, zero, ◌+◌, ◌*◌, ◌-◌, ◌%◌, ◌≤◌, ◌<◌, ℤ, pos, negsuc, ◌*ℤ◌, ◌≤ℤ◌, true, false, refl, sym, ap, subst, ◌∙◌, arith, add-one, FitsSigned, SFits, w64, lit<}
use Rattle.std.specs.Prelude.{int_lt, neg_ℤ, unsigned_abs}
use Rattle.std.specs.Int.{w128}
use Rattle.std.proofs.lemmas.Int.{ints, fits_signed_mul, unsigned_abs-mul}
use Rattle.ep_base.specs.Numbers.{absolute_of, nth_power}
use Rattle.ep_base.specs.Reads.{IsWithinNumbers, is_too_far}

-- a near number times a word
pub near_abs : (n : ℤ) → is_too_far n ≡ false → unsigned_abs n ≤ 1099511627776
unfolding is_too_far absolute_of
near_abs (pos n) h = grind (arith, ints)
near_abs (negsuc n) h = grind (arith, ints)

pub word_abs : (n : ℤ) → SFits w64 n → unsigned_abs n ≤ 9223372036854775808
word_abs (pos n) h = omega (arith, ints)
word_abs (negsuc n) h = omega (arith, ints)

pub times_fits : (a b : ℤ) → is_too_far a ≡ false → SFits w64 b → FitsSigned w128 (a *ℤ b)
times_fits a b h k = fits_signed_mul w128 a b 1099511627776 9223372036854775808 (near_abs a h) (word_abs b k) (lit< tt)

pub near_one : is_too_far (pos 1) ≡ false
unfolding is_too_far absolute_of
near_one = refl

pub power_none : (x : ℤ) → pos 1 ≡ nth_power x 0
unfolding nth_power
power_none x = refl

pub power_more : (x : ℤ) (n : ℕ) → (nth_power x n *ℤ x) ≡ nth_power x (n + 1)
unfolding nth_power
power_more x n = rw (add-one n) refl

-- ---- how far a number is from 0

pub far_abs : (n : ℤ) → is_too_far n ≡ true → 1099511627776 < unsigned_abs n
unfolding is_too_far absolute_of
far_abs (pos n) h = grind (arith, ints)
far_abs (negsuc n) h = grind (arith, ints)

pub abs_far : (n : ℤ) → 1099511627776 < unsigned_abs n → is_too_far n ≡ true
unfolding is_too_far absolute_of
abs_far (pos n) h = grind (arith, ints)
abs_far (negsuc n) h = grind (arith, ints)

pub abs_in : (n : ℤ) (m : ℕ) → unsigned_abs n ≤ m → (neg_ℤ (pos m) ≤ℤ n) × (n ≤ℤ pos m)
abs_in (pos k) m h = (grind (arith, ints, h), grind (arith, ints, h))
abs_in (negsuc k) m h = (grind (arith, ints, h), grind (arith, ints, h))

pub in_abs : (n : ℤ) (m : ℕ) → neg_ℤ (pos m) ≤ℤ n → n ≤ℤ pos m → unsigned_abs n ≤ m
in_abs (pos k) m h j = grind (arith, ints, h, j)
in_abs (negsuc k) m h j = grind (arith, ints, h, j)

pub word_in : (n : ℤ) → SFits w64 n → (neg_ℤ (pos 9223372036854775808) ≤ℤ n) × (n ≤ℤ pos 9223372036854775808)
word_in n h = (omega (arith, ints), omega (arith, ints))

pub abs_power : (x : ℤ) (n : ℕ) → unsigned_abs (nth_power x (suc n)) ≡ unsigned_abs (nth_power x n) * unsigned_abs x
unfolding nth_power
abs_power x n = unsigned_abs-mul (nth_power x n) x

pub least_one : (a b : ℕ) → 1 ≤ b → a ≤ a * b
least_one a b h = grind arith

abs_grows : (x : ℤ) (n more : ℕ) → 1 ≤ unsigned_abs x → unsigned_abs (nth_power x n) ≤ unsigned_abs (nth_power x (n + more))
abs_grows x n zero h = subst (λ m. unsigned_abs (nth_power x n) ≤ unsigned_abs (nth_power x m)) (same n) (omega arith)
  where
    same : (k : ℕ) → k ≡ k + 0
    same k = omega arith
abs_grows x n (suc more) h =
    subst (λ m. unsigned_abs (nth_power x n) ≤ unsigned_abs (nth_power x m)) (next n more)
    (let a = abs_grows x n more h in let b = abs_power x (n + more) in let d = least_one (unsigned_abs (nth_power x (n + more))) (unsigned_abs x) h in omega (arith, a, b, d))
  where
    next : (k j : ℕ) → suc (k + j) ≡ k + suc j
    next k j = omega arith

times_none : (m : ℤ) → pos 0 ≡ m *ℤ pos 0
times_none m = omega (arith, ints)

grown_back : (x : ℤ) (n whole : ℕ) → 1 ≤ unsigned_abs x → n < whole → IsWithinNumbers (nth_power x whole) → IsWithinNumbers (nth_power x (n + 1))
grown_back x n whole h k w =
    abs_in (nth_power x (n + 1)) 1099511627776
    (let a = in_abs (nth_power x whole) 1099511627776 w.0 w.1 in
    let b = abs_grows x (n + 1) (whole - (n + 1)) h in
    let e : unsigned_abs (nth_power x ((n + 1) + (whole - (n + 1)))) ≡ unsigned_abs (nth_power x whole) = ap (λ m. unsigned_abs (nth_power x m)) (omega (arith, k)) in omega (arith, a, b, e))

-- each lesser power is near where one is
pub power_within : (x : ℤ) (n whole : ℕ) → n < whole → IsWithinNumbers (nth_power x whole) → IsWithinNumbers (nth_power x (n + 1))
unfolding nth_power
power_within (pos zero) n whole k w =
    subst IsWithinNumbers (times_none (nth_power (pos zero) n) ∙ ap (nth_power (pos zero)) (sym (add-one n))) (omega (arith, ints), omega (arith, ints))
power_within (pos (suc x)) n whole k w = grown_back (pos (suc x)) n whole (omega (arith, ints)) k w
power_within (negsuc x) n whole k w = grown_back (negsuc x) n whole (omega (arith, ints)) k w

-- powers of a number near 0 repeat
pub powers_repeat : (x : ℤ) (n : ℕ) → int_lt (pos 1) x ≡ false → int_lt x (negsuc 0) ≡ false → nth_power x (suc (suc (suc n))) ≡ nth_power x (suc n)
unfolding nth_power
powers_repeat (pos zero) n h k = omega (arith, ints)
powers_repeat (pos (suc zero)) n h k = omega (arith, ints)
powers_repeat (pos (suc (suc m))) n h k = absurd (let e : int_lt (pos 1) (pos (suc (suc m))) ≡ false = h in grind (arith, ints))
powers_repeat (negsuc zero) n h k = omega (arith, ints)
powers_repeat (negsuc (suc m)) n h k = absurd (let e : int_lt (negsuc (suc m)) (negsuc 0) ≡ false = k in grind (arith, ints))

pub power_small : (x : ℤ) (n : ℕ) → int_lt (pos 1) x ≡ false → int_lt x (negsuc 0) ≡ false → 2 < n → nth_power x (2 - n % 2) ≡ nth_power x n
power_small x zero h k m = absurd (omega (arith, m))
power_small x (suc zero) h k m = absurd (omega (arith, m))
power_small x (suc (suc zero)) h k m = absurd (omega (arith, m))
power_small x (suc (suc (suc zero))) h k m = sym (powers_repeat x zero h k)
power_small x (suc (suc (suc (suc zero)))) h k m = sym (powers_repeat x (suc zero) h k)
power_small x (suc (suc (suc (suc (suc n))))) h k m =
    ap (nth_power x) (omega arith) ∙ power_small x (suc (suc (suc n))) h k (omega arith) ∙ sym (powers_repeat x (suc (suc n)) h k)
