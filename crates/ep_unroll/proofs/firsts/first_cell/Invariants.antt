use Rattle.ep_unroll.proofs.Words.{◌≡◌, drop, first_in}
use Rattle.ep_unroll.proofs.firsts.first_cell.Given as goal

abbrev pub invariant-loop-first : goal.invariant-loop-first
invariant-loop-first l = first_in (drop l.first-index l.firsts) l.name ≡ first_in l.firsts l.name
