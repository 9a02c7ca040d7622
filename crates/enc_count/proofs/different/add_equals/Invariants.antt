use Rattle.std.proofs.Common.{ℕ, ◌<◌, get_or}
use Rattle.enc_atoms.specs.Atoms.{Adds}
use Rattle.enc_count.specs.Different.{AreEqual}
use Rattle.enc_count.proofs.different.add_equals.Given as goal

abbrev pub invariant-loop-k : goal.invariant-loop-k
invariant-loop-k l = Adds l.layout l.initial.f l.layout l.f (λ values. (j : ℕ) → j < l.k → AreEqual (get_or l.truths j 0) (get_or l.pairs j (0, 0)) values)
