use Rattle.std.proofs.Common.{◌≡◌, ◌==◌, ℤ, List, length, take, true}
use Rattle.std.specs.List.{list_all}
use Rattle.enc_table.proofs.tables.all_fit.Given as goal

abbrev pub invariant-loop-row : goal.invariant-loop-row
invariant-loop-row l = list_all (λ (row : List ℤ). length row == l.count) (take l.row-index l.rows) ≡ true
