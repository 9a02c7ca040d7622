use Rattle.std.proofs.Common.{ℕ, ◌<◌, [], get_or}
use Rattle.enc_atoms.specs.Atoms.{Adds}
use Rattle.enc_table.specs.Rows.{IsRowWhere}
use Rattle.enc_table.proofs.tables.add_rows.Given as goal

abbrev pub invariant-loop-k : goal.invariant-loop-k
invariant-loop-k l = Adds l.layout l.initial.f l.layout l.f (λ values. (j : ℕ) → j < l.k → IsRowWhere (get_or l.truths j 0) l.vars (get_or l.rows j []) values)
