use Rattle.std.proofs.Common.{◌≡◌, ◌++◌, drop}
use Rattle.enc_table.specs.Rows.{others_of}
use Rattle.enc_table.proofs.tables.others_than.Given as goal

abbrev pub invariant-loop-k : goal.invariant-loop-k
invariant-loop-k l = l.atoms.items ++ others_of (drop l.k l.vars) (drop l.k l.row) ≡ others_of l.vars l.row
