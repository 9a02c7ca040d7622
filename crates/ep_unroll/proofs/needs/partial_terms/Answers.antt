use Rattle.ep_unroll.proofs.NeedSteps.{partial_all, partial_begin, partial_more, partial_same}
use Rattle.ep_unroll.proofs.needs.partial_terms.Goals as goal

pub loop-term-init : goal.loop-term-init
loop-term-init c = partial_begin c.args.arena.now c.args.count c.args.terms.now c.new-partial.result.items c.new-partial.ensures.items

pub loop-term-preserved : goal.loop-term-preserved
loop-term-preserved c =
    partial_more c.args.arena.now c.args.count c.args.terms.now c.loop-term.term-index c.term-item.result _ c.loop-term.partial.items c.push.new.self.items c.requires c.loop-term-test.true c.term-item.is
    c.loop-term.invariant c.in_ok-push.ensures.items

pub loop-term-preserved-then-is_total : goal.loop-term-preserved-then-is_total
loop-term-preserved-then-is_total c =
    partial_same c.args.arena.now c.args.count c.args.terms.now c.loop-term.term-index c.term-item.result _ c.loop-term.partial.items c.loop-term-test.true c.term-item.is
    (c.is_total.ensures c.if-is_total.true) c.loop-term.invariant

pub returns : goal.returns
returns c = partial_all c.args.arena.now c.args.count c.args.terms.now c.loop-term.term-index c.loop-term.partial.items c.loop-term-test.false c.loop-term.invariant
