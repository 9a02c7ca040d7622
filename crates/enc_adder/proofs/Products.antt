-- Products of words, and of how far a coefficient is from 0 with a distance.
use Rattle.std.proofs.Common.{◌≡◌, ◌∙◌, ℕ, ◌≤◌, ℤ, pos, negsuc, ◌*ℤ◌, ◌≤ℤ◌, ap, refl, arith, FitsSigned, SFits, w64, lit<}
use Rattle.std.specs.Prelude.{unsigned_abs}
use Rattle.std.specs.Int.{w128}
use Rattle.std.proofs.lemmas.Int.{ints, fits_signed_mul}
use Rattle.ep_numbers.proofs.PowerLaws.{word_abs}
use Rattle.enc_adder.specs.Parts.{IsSizeOfCoefficient}

pub words_fit : (a b : ℤ) → SFits w64 a → SFits w64 b → FitsSigned w128 (a *ℤ b)
words_fit a b h k = fits_signed_mul w128 a b 9223372036854775808 9223372036854775808 (word_abs a h) (word_abs b k) (lit< tt)

within : (n : ℤ) (most : ℕ) → pos 0 ≤ℤ n → n ≤ℤ pos most → unsigned_abs n ≤ most
within (pos n) most low high = omega (arith, ints, high)
within (negsuc n) most low high = absurd (omega (arith, ints, low))

pub size_fits : (size d : ℤ) → IsSizeOfCoefficient size → pos 0 ≤ℤ d → d ≤ℤ pos 18446744073709551615 → FitsSigned w128 (size *ℤ d)
size_fits size d is low high = fits_signed_mul w128 size d 9223372036854775808 18446744073709551615 (within size 9223372036854775808 is.0 is.1) (within d 18446744073709551615 low high) (lit< tt)

pub none_negative : (size d : ℤ) → pos 0 ≤ℤ size → pos 0 ≤ℤ d → pos (unsigned_abs (size *ℤ d)) ≡ size *ℤ d
none_negative (pos m) (pos n) h k = refl
none_negative (pos m) (negsuc n) h k = absurd (omega (arith, ints, k))
none_negative (negsuc m) d h k = absurd (omega (arith, ints, h))

pub product_is : (s x y a l : ℤ) → s ≡ x *ℤ y → x ≡ a → y ≡ l → s ≡ a *ℤ l
product_is s x y a l is is_x is_y = is ∙ ap (λ n. n *ℤ y) is_x ∙ ap (λ n. a *ℤ n) is_y
