use Rattle.ep_size.proofs.ScalarParts.{with_copies}
use Rattle.ep_size.proofs.picked.add_cells_left.Given as goal

abbrev pub invariant-loop-cell : goal.invariant-loop-cell
invariant-loop-cell l = with_copies l.fn.spans.items l.spans.items l._cell l.span
