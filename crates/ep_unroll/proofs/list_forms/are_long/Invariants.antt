use Rattle.ep_unroll.proofs.Words.{◌≡◌, drop, length, ◌==◌, list_all}
use Rattle.ep_unroll.proofs.list_forms.are_long.Given as goal

abbrev pub invariant-loop-row : goal.invariant-loop-row
invariant-loop-row l = list_all (λ row. length row == l.count) l.rows ≡ list_all (λ row. length row == l.count) (drop l.row-index l.rows)
