use Rattle.ep_unroll.proofs.Words.{refl, ◌∙◌, find_of, find_cells}
use Rattle.ep_unroll.proofs.IndexLists.{flat_mapped, flat_next, flat_whole}
use Rattle.ep_unroll.proofs.cells.cells_of.Goals as goal

pub loop-find-init : goal.loop-find-init
loop-find-init c = c.new-cells.ensures.items

pub loop-find-preserved : goal.loop-find-preserved
loop-find-preserved c =
    flat_next (λ f. find_cells (find_of f)) c.args.finds.now c.loop-find.find-index c.find-item.result _ c.loop-find.cells.items c.push_cells.new.cells.items (find_cells (find_of c.find-item.result))
    c.loop-find-test.true c.find-item.is c.loop-find.invariant refl c.in_ok-push_cells.ensures

pub returns : goal.returns
returns c =
    flat_whole (λ f. find_cells (find_of f)) c.args.finds.now c.loop-find.find-index c.loop-find.cells.items c.loop-find-test.false c.loop-find.invariant
    ∙ flat_mapped find_of find_cells c.args.finds.now
