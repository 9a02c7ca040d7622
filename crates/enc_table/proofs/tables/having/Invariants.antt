use Rattle.std.proofs.Common.{◌≡◌, ◌++◌, drop}
use Rattle.enc_table.specs.Rows.{truths_having}
use Rattle.enc_table.proofs.tables.having.Given as goal

abbrev pub invariant-loop-k : goal.invariant-loop-k
invariant-loop-k l = l.chosen.items ++ truths_having (drop l.k l.truths) (drop l.k l.rows) l.place l.number ≡ truths_having l.truths l.rows l.place l.number
