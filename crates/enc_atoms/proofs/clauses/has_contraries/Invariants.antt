use Rattle.std.proofs.Common.{◌≡◌, ◌<◌, ℕ, ◌+◌, ◌≤◌, get_or}
use Rattle.cnf_core.specs.Literal.{Literal}
use Rattle.enc_atoms.proofs.clauses.has_contraries.Given as goal

abbrev pub invariant-loop-k : goal.invariant-loop-k
invariant-loop-k l = (1 ≤ l.k) × ((j : ℕ) (d : Literal) → j + 1 < l.k → (get_or l.literals j d).var ≡ (get_or l.literals (j + 1) d).var → ⊥)
