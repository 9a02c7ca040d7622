use Rattle.ep_size.proofs.Words.{◌≡◌, ◌∙◌, ◌++◌, ℕ, ap, sym, append-nil, arith, map, replicate, plain_span, cells_left, measured_of}
use Rattle.ep_size.proofs.ReadSteps.{filled_left}
use Rattle.ep_size.proofs.ScalarParts.{copies_more}
use Rattle.ep_size.proofs.picked.add_cells_left.Goals as goal

pub loop-cell-init : goal.loop-cell-init
loop-cell-init c = sym (append-nil (map plain_span c.args.spans.now.items))

pub loop-cell-preserved : goal.loop-cell-preserved
loop-cell-preserved c =
    copies_more c.args.spans.now.items c.loop-cell.spans.items _ c.loop-cell._cell c.args.span c.in_ok-push.ensures.items c.loop-cell.invariant

pub returns-clause-added : goal.returns-clause-added
returns-clause-added c =
    let ms = map measured_of c.args.indices.now in
    let s = plain_span c.args.span in
    let many : ℕ = cells_left ms c.args.domains.now in
    let count : c.loop-cell._cell ≡ many =
    omega (arith, c.loop-cell-test.false, c.loop-cell.auto._cell-end, c.cells_left-count.ensures, c.if-count-ge-MOST_TOLD.false) in
    c.loop-cell.invariant ∙ ap (λ k. map plain_span c.args.spans.now.items ++ replicate k s) count
    ∙ ap (λ l. map plain_span c.args.spans.now.items ++ l) (sym (filled_left ms s c.args.domains.now))
