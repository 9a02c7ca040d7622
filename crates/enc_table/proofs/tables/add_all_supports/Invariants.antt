use Rattle.std.proofs.Common.{ℕ, ◌<◌, get_or}
use Rattle.enc_atoms.specs.Atoms.{Adds}
use Rattle.enc_atoms.specs.Steps.{Unless}
use Rattle.enc_table.specs.Rows.{IsSupported}
use Rattle.enc_table.proofs.tables.add_all_supports.Given as goal

abbrev pub invariant-loop-place : goal.invariant-loop-place
invariant-loop-place l = Adds l.layout l.initial.f l.layout l.f (λ values. (j : ℕ) → j < l.place → Unless l.guard (IsSupported l.truths l.rows j (get_or l.vars j 0)) values)
