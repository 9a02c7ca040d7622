use Rattle.std.proofs.Common.{ℕ, ◌<◌, get_or}
use Rattle.enc_atoms.specs.Atoms.{Adds}
use Rattle.enc_count.specs.Counts.{IsMark}
use Rattle.enc_count.proofs.counts.add_marks.Given as goal

abbrev pub invariant-loop-k : goal.invariant-loop-k
invariant-loop-k l = Adds l.layout l.initial.f l.layout l.f (λ values. (j : ℕ) → j < l.k → IsMark (get_or l.marks j 0) (get_or l.vars j 0) l.number values)
