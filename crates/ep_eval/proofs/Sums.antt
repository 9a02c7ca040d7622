-- Sums of numbers one after another.
use Rattle.ep_eval.proofs.Words.{◌≡◌, ◌+◌, ◌*◌, ◌≤◌, ◌+ℤ◌, ℕ, ℤ, List, [], ◌∷◌, sym, ap, ◌∙◌, arith, SFits, w64, unsigned_abs, ints, sum_of}

added : (a x r : ℤ) → a +ℤ (x +ℤ r) ≡ (a +ℤ x) +ℤ r
added a x r = omega (arith, ints)

pub sum_step : (total x whole : ℤ) (xs : List ℤ) (more : ℤ) → more ≡ total +ℤ x → whole ≡ total +ℤ sum_of (x ∷ xs) → whole ≡ more +ℤ sum_of xs
unfolding sum_of
sum_step total x whole xs more h k = k ∙ added total x (sum_of xs) ∙ ap (λ y. y +ℤ sum_of xs) (sym h)

pub sum_near : (total x : ℤ) (k : ℕ) (more : ℤ) → more ≡ total +ℤ x → SFits w64 x → unsigned_abs total ≤ 9223372036854775808 * k → unsigned_abs more ≤ 9223372036854775808 * (k + 1)
sum_near total x k more h fits near = omega (arith, ints, h, fits, near)

pub sum_ends : (total whole : ℤ) → whole ≡ total +ℤ sum_of [] → total ≡ whole
unfolding sum_of
sum_ends total whole h = omega (arith, ints, h)
