use Rattle.ep_unroll.proofs.TableSteps.{Tabled}
use Rattle.ep_unroll.proofs.cells.table_of.Given as goal

abbrev pub invariant-loop-find : goal.invariant-loop-find
invariant-loop-find l = Tabled l.finds l.find-index l.firsts.items l.count
