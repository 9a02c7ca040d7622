use Rattle.ep_unroll.proofs.NeedSteps.{number_among, part_terms}
use Rattle.ep_unroll.proofs.ScalarSteps.{each_all, each_begin, each_more}
use Rattle.ep_unroll.proofs.scalars.each_term.Goals as goal

pub loop-scalar-init : goal.loop-scalar-init
loop-scalar-init c = each_begin c.args.arena.now c.args.scalars.now c.new-terms.result.items c.new-terms.ensures.items

pub loop-scalar-preserved : goal.loop-scalar-preserved
loop-scalar-preserved c =
    let old = c.args.arena.now in
    let mid = c.loop-scalar.arena in
    let new = c.scalar_term.new.arena in
    let own = number_among old mid new c.scalar-item.result c.in_ok-term.term c.loop-scalar.invariant.grows
    (part_terms old c.args.scalars.now c.loop-scalar.scalar-index c.scalar-item.result _ c.requires c.loop-scalar-test.true c.scalar-item.is) c.in_ok-term.ensures in
    each_more old mid new c.args.scalars.now c.loop-scalar.scalar-index c.scalar-item.result _ c.in_ok-term.term c.loop-scalar.terms.items c.push.new.self.items
    c.loop-scalar-test.true c.scalar-item.is own c.in_ok-push.ensures.items c.loop-scalar.invariant

pub returns : goal.returns
returns c = each_all c.args.arena.now c.loop-scalar.arena c.args.scalars.now c.loop-scalar.scalar-index c.loop-scalar.terms.items c.loop-scalar-test.false c.loop-scalar.invariant
