use Rattle.std.proofs.Common.{◌≡◌, ◌+◌, ◌-◌, ◌<◌, ◌≤◌, ℕ}
use Rattle.enc_var.proofs.clauses.add_ties.Given as goal
use Rattle.enc_var.specs.Ties.{IsTied, SaysMore}

abbrev pub invariant-loop-k : goal.invariant-loop-k
invariant-loop-k l =
    (l.k ≤ l.k-end) × (l.k-end ≡ l.count - 2) × (l.f.vars ≡ l.initial.f.vars)
    × SaysMore l.initial.f l.f (λ s. (j : ℕ) → j < l.k → IsTied (l.first + j) (l.first + (j + 1)) (l.first + (l.count - 1) + j) s)
