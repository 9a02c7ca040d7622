-- The quotient is the floor: what is left lies from 0 to before the divisor.
use Rattle.std.specs.Prelude.{◌≡◌, ℕ, suc, ℤ, pos, negsuc, ◌+ℤ◌, ◌*ℤ◌, ◌≤ℤ◌, ◌<ℤ◌, neg_ℤ, Some}
use Rattle.std.proofs.Common.{arith}
use Rattle.std.proofs.lemmas.Int.{ints}
use Rattle.std.proofs.Math.Nat.{div-add-mod, mod-lt}
use Rattle.ep_base.specs.Numbers.{floor_over, quotient}

pub floor_over-low : (x : ℤ) (y : ℕ) → (pos (suc y) *ℤ floor_over x (suc y)) ≤ℤ x
unfolding floor_over
floor_over-low (pos a) y = omega (arith, ints, div-add-mod a (suc y))
floor_over-low (negsuc a) y = omega (arith, ints, div-add-mod a (suc y), mod-lt a {m = suc y} (omega arith))

pub floor_over-high : (x : ℤ) (y : ℕ) → x <ℤ ((pos (suc y) *ℤ floor_over x (suc y)) +ℤ pos (suc y))
unfolding floor_over
floor_over-high (pos a) y = omega (arith, ints, div-add-mod a (suc y), mod-lt a {m = suc y} (omega arith))
floor_over-high (negsuc a) y = omega (arith, ints, div-add-mod a (suc y))

-- what `Some` holds
some_is : {x y : ℤ} → Some x ≡ Some y → x ≡ y
some_is e = cc

pub quotient-low : (x q : ℤ) (y : ℕ) → quotient x (pos (suc y)) ≡ Some q → (pos (suc y) *ℤ q) ≤ℤ x
unfolding quotient
quotient-low x q y e = rw (← some_is e) (floor_over-low x y)

pub quotient-high : (x q : ℤ) (y : ℕ) → quotient x (pos (suc y)) ≡ Some q → x <ℤ ((pos (suc y) *ℤ q) +ℤ pos (suc y))
unfolding quotient
quotient-high x q y e = rw (← some_is e) (floor_over-high x y)

pub quotient-negative_high : (x q : ℤ) (y : ℕ) → quotient x (negsuc y) ≡ Some q → x ≤ℤ (negsuc y *ℤ q)
unfolding quotient
quotient-negative_high x q y e = rw (← some_is e) (turned x (floor_over (neg_ℤ x) (suc y)) (floor_over-low (neg_ℤ x) y))
  where
    turned : (x q : ℤ) → (pos (suc y) *ℤ q) ≤ℤ neg_ℤ x → x ≤ℤ (negsuc y *ℤ q)
    turned x q h = omega (arith, ints)

pub quotient-negative_low : (x q : ℤ) (y : ℕ) → quotient x (negsuc y) ≡ Some q → ((negsuc y *ℤ q) +ℤ negsuc y) <ℤ x
unfolding quotient
quotient-negative_low x q y e = rw (← some_is e) (turned x (floor_over (neg_ℤ x) (suc y)) (floor_over-high (neg_ℤ x) y))
  where
    turned : (x q : ℤ) → neg_ℤ x <ℤ ((pos (suc y) *ℤ q) +ℤ pos (suc y)) → ((negsuc y *ℤ q) +ℤ negsuc y) <ℤ x
    turned x q h = omega (arith, ints)
