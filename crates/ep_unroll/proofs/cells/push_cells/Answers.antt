use Rattle.ep_unroll.proofs.Words.{ap, ◌∙◌, ◌++◌, map, find_of, find_cells, index_lists}
use Rattle.ep_unroll.specs.Cells.{cell_of}
use Rattle.ep_unroll.proofs.IndexLists.{mapped_next, mapped_none, mapped_whole}
use Rattle.ep_unroll.proofs.cells.push_cells.Goals as goal

pub loop-indices-init : goal.loop-indices-init
loop-indices-init c = mapped_none c.args.cells.now.items

pub loop-indices-preserved : goal.loop-indices-preserved
loop-indices-preserved c =
    mapped_next (cell_of (find_of c.args.find.now)) c.deref-indices-items.result.now c.loop-indices.indices-index c.indices-item.result _ c.args.cells.now.items c.loop-indices.cells.items c.push.new.self.items
    c.in_ok-cell_at.field-0 c.loop-indices-test.true c.indices-item.is c.loop-indices.invariant c.in_ok-cell_at.ensures c.in_ok-push.ensures.items

pub returns : goal.returns
unfolding find_cells
returns c =
    mapped_whole (cell_of (find_of c.args.find.now)) c.deref-indices-items.result.now c.loop-indices.indices-index c.args.cells.now.items c.loop-indices.cells.items c.loop-indices-test.false c.loop-indices.invariant
    ∙ ap (λ keys. c.args.cells.now.items ++ map (cell_of (find_of c.args.find.now)) keys) (c.deref-indices-items.ensures.value ∙ c.in_ok-keys.ensures ∙ ap index_lists c.deref.ensures.value)
