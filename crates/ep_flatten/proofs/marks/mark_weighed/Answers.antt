use Rattle.std.proofs.Common.{sym}
use Rattle.ep_flatten.proofs.MarkedTerms.{marked_none, weighed_step}
use Rattle.ep_flatten.proofs.marks.mark_weighed.Goals as goal

pub loop-part-init : goal.loop-part-init
loop-part-init c = sym (marked_none c.args.marks.now.items)

pub loop-part-preserved : goal.loop-part-preserved
loop-part-preserved c =
    weighed_step c.args.marks.now.items c.loop-part.marks.items c.mark.new.marks.items c.args.parts.now c.loop-part.part-index c.part-item.result
    c.loop-part-test.true c.part-item.is c.loop-part.invariant c.mark.ensures
