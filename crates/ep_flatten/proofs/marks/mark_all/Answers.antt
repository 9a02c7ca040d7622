use Rattle.std.proofs.Common.{sym}
use Rattle.ep_flatten.proofs.MarkedTerms.{marked_none, marked_step}
use Rattle.ep_flatten.proofs.marks.mark_all.Goals as goal

pub loop-term-init : goal.loop-term-init
loop-term-init c = sym (marked_none c.args.marks.now.items)

pub loop-term-preserved : goal.loop-term-preserved
loop-term-preserved c =
    marked_step c.args.marks.now.items c.loop-term.marks.items c.mark.new.marks.items c.args.terms.now c.loop-term.term-index c.term-item.result
    c.loop-term-test.true c.term-item.is c.loop-term.invariant c.mark.ensures
