use Rattle.ep_unroll.proofs.Words.{◌≡◌, take, pos, ℤ, ℕ, map}
use Rattle.ep_unroll.proofs.sums.added.Given as goal

abbrev pub invariant-loop-term : goal.invariant-loop-term
invariant-loop-term l = l.parts.items ≡ map {A = ℕ} {B = ℤ × ℕ} (λ t. (pos 1, t)) (take l.term-index l.terms)
