-- Quotients and remainders.
use Rattle.std.proofs.Common.{◌≡◌, ℕ, zero, suc, ℤ, pos, negsuc, ◌-ℤ◌, ◌*ℤ◌, true, false, refl, ap, arith}
use Rattle.std.specs.Prelude.{Some, None, int_lt, neg_ℤ}
use Rattle.std.specs.Int.{int_div_euclid, int_rem_euclid}
use Rattle.std.proofs.lemmas.Int.{ints}
use Rattle.std.proofs.Math.Nat.{div-add-mod, mod-lt}
use Rattle.ep_base.specs.Numbers.{floor_over, quotient, remainder}

div_is_floor : (x : ℤ) (y : ℕ) → int_div_euclid x (pos (suc y)) ≡ floor_over x (suc y)
unfolding floor_over
div_is_floor (pos a) y = refl
div_is_floor (negsuc a) y = refl

rem_is_left : (x : ℤ) (y : ℕ) → int_rem_euclid x (pos (suc y)) ≡ x -ℤ (pos (suc y) *ℤ floor_over x (suc y))
unfolding floor_over
rem_is_left (pos a) y = omega (arith, ints, div-add-mod a (suc y))
rem_is_left (negsuc a) y = omega (arith, ints, div-add-mod a (suc y), mod-lt a {m = suc y} (omega arith))

pub quotient_positive : (x d : ℤ) → int_lt (pos 0) d ≡ true → Some (int_div_euclid x d) ≡ quotient x d
unfolding quotient
quotient_positive x (pos zero) h = absurd cc
quotient_positive x (pos (suc y)) h = ap Some (div_is_floor x y)
quotient_positive x (negsuc y) h = absurd cc

pub quotient_negative : (x d : ℤ) → int_lt d (pos 0) ≡ true → Some (int_div_euclid (neg_ℤ x) (neg_ℤ d)) ≡ quotient x d
unfolding quotient
quotient_negative x (pos y) h = absurd (let e : int_lt (pos y) (pos 0) ≡ true = h in omega (arith, ints))
quotient_negative x (negsuc y) h = ap Some (div_is_floor (neg_ℤ x) y)

pub quotient_none : (x d : ℤ) → int_lt (pos 0) d ≡ false → int_lt d (pos 0) ≡ false → None ≡ quotient x d
unfolding quotient
quotient_none x (pos zero) h k = refl
quotient_none x (pos (suc y)) h k = absurd (let e : int_lt (pos 0) (pos (suc y)) ≡ false = h in omega (arith, ints))
quotient_none x (negsuc y) h k = absurd (let e : int_lt (negsuc y) (pos 0) ≡ false = k in omega (arith, ints))

pub remainder_positive : (x d : ℤ) → int_lt (pos 0) d ≡ true → Some (int_rem_euclid x d) ≡ remainder x d
unfolding remainder quotient
remainder_positive x (pos zero) h = absurd cc
remainder_positive x (pos (suc y)) h = ap Some (rem_is_left x y)
remainder_positive x (negsuc y) h = absurd cc

turned : (x q r : ℤ) (y : ℕ) → r ≡ neg_ℤ x -ℤ (pos (suc y) *ℤ q) → pos 0 -ℤ r ≡ x -ℤ (negsuc y *ℤ q)
turned x q r y h = omega (arith, ints)

pub remainder_negative : (x d : ℤ) → int_lt d (pos 0) ≡ true → Some (pos 0 -ℤ int_rem_euclid (neg_ℤ x) (neg_ℤ d)) ≡ remainder x d
unfolding remainder quotient
remainder_negative x (pos y) h = absurd (let e : int_lt (pos y) (pos 0) ≡ true = h in omega (arith, ints))
remainder_negative x (negsuc y) h = ap Some (turned x (floor_over (neg_ℤ x) (suc y)) (int_rem_euclid (neg_ℤ x) (pos (suc y))) y (rem_is_left (neg_ℤ x) y))

pub remainder_none : (x d : ℤ) → int_lt (pos 0) d ≡ false → int_lt d (pos 0) ≡ false → None ≡ remainder x d
unfolding remainder quotient
remainder_none x (pos zero) h k = refl
remainder_none x (pos (suc y)) h k = absurd (let e : int_lt (pos 0) (pos (suc y)) ≡ false = h in omega (arith, ints))
remainder_none x (negsuc y) h k = absurd (let e : int_lt (negsuc y) (pos 0) ≡ false = k in omega (arith, ints))

-- 0 less a number
pub negative : (x : ℤ) → pos 0 -ℤ x ≡ neg_ℤ x
negative x = omega (arith, ints)
