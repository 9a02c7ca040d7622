use Rattle.ep_unroll.proofs.Words.{ap, ◌∙◌, refl, cell_count}
use Rattle.ep_unroll.proofs.TableSteps.{tabled_all, tabled_more, tabled_none}
use Rattle.ep_unroll.proofs.cells.table_of.Goals as goal

pub loop-find-init : goal.loop-find-init
loop-find-init c = tabled_none c.args.finds.now c.new-firsts.result.items c.new-firsts.ensures.items

pub loop-find-preserved : goal.loop-find-preserved
loop-find-preserved c =
    tabled_more c.args.finds.now c.loop-find.find-index c.find-item.result _ c.loop-find.firsts.items c.push.new.self.items (record { name = c.in_ok-name.name; cell = c.loop-find.count })
    c.loop-find.count c.in_ok-cells.cells c.in-Some.sum c.loop-find-test.true c.find-item.is (c.in_ok-name.ensures.copied ∙ c.text.ensures.text) refl
    (c.in_ok-cells.ensures ∙ ap cell_count c.deref.ensures.value) c.in-Some.ensures.1 c.in_ok-push.ensures.items c.loop-find.invariant

pub returns : goal.returns
returns c mode = tabled_all mode c.args.finds.now c.loop-find.find-index (record { firsts = c.loop-find.firsts; count = c.loop-find.count }) c.loop-find-test.false c.loop-find.invariant
