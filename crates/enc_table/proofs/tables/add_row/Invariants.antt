use Rattle.std.proofs.Common.{◌≡◌, ℕ, ◌<◌, pos, get_or}
use Rattle.ep_flat.specs.Cons.{number_at}
use Rattle.enc_atoms.specs.Atoms.{Adds}
use Rattle.enc_atoms.specs.Steps.{Unless}
use Rattle.enc_table.proofs.tables.add_row.Given as goal

abbrev pub invariant-loop-k : goal.invariant-loop-k
invariant-loop-k l = Adds l.layout l.initial.f l.layout l.f (λ values. (j : ℕ) → j < l.k → Unless l.guard (λ vs. number_at vs (get_or l.vars j 0) ≡ get_or l.row j (pos 0)) values)
