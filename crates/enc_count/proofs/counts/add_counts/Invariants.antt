use Rattle.std.proofs.Common.{ℕ, ◌<◌}
use Rattle.enc_atoms.specs.Atoms.{Adds}
use Rattle.enc_count.proofs.Counting.{IsSaid}
use Rattle.enc_count.proofs.counts.add_counts.Given as goal

abbrev pub invariant-loop-k : goal.invariant-loop-k
invariant-loop-k l = Adds l.initial.layout l.initial.f l.layout l.f (λ values. (j : ℕ) → j < l.k → IsSaid l.truths l.op l.vars l.wanted values j)
