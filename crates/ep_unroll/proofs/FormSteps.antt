-- The parts of a node that is taken in are known.
use Rattle.ep_unroll.proofs.Words.{ℕ, zero, suc, ◌<◌, [], ◌∷◌, arith, All}

pub none_known : (n : ℕ) → All (λ part. part < n) []
none_known n k d less = absurd (no_less less)
  where
    no_less : k < 0 → ⊥
    no_less h = omega (arith, h)

pub one_known : (a n : ℕ) → a < n → All (λ part. part < n) (a ∷ [])
one_known a n h zero d less = h
one_known a n h (suc k) d less = absurd (no_less less)
  where
    no_less : suc k < 1 → ⊥
    no_less l = omega (arith, l)

pub two_known : (a b n : ℕ) → a < n → b < n → All (λ part. part < n) (a ∷ b ∷ [])
two_known a b n h h' zero d less = h
two_known a b n h h' (suc zero) d less = h'
two_known a b n h h' (suc (suc k)) d less = absurd (no_less less)
  where
    no_less : suc (suc k) < 2 → ⊥
    no_less l = omega (arith, l)
