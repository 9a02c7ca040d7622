use Rattle.ep_size.proofs.Words.{sym, append-nil, arith, map, plain_span}
use Rattle.ep_size.proofs.ScalarParts.{copies_all, copies_more}
use Rattle.ep_size.proofs.scalars.add_cells.Goals as goal

pub loop-cell-init : goal.loop-cell-init
loop-cell-init c = sym (append-nil (map plain_span c.args.spans.now.items))

pub loop-cell-preserved : goal.loop-cell-preserved
loop-cell-preserved c =
    copies_more c.args.spans.now.items c.loop-cell.spans.items _ c.loop-cell._cell c.args.span c.in_ok-push.ensures.items c.loop-cell.invariant

pub returns-clause-added : goal.returns-clause-added
returns-clause-added c =
    copies_all c.args.spans.now.items c.loop-cell.spans.items c.loop-cell._cell c.cells_over-count.result c.args.span c.args.indices.now c.loop-cell.invariant
    (omega (arith, c.loop-cell-test.false, c.loop-cell.auto._cell-end)) c.cells_over-count.ensures (omega (arith, c.if-count-ge-MOST_TOLD.false))
