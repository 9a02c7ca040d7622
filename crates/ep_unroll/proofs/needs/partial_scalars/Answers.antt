use Rattle.ep_unroll.proofs.Words.{refl}
use Rattle.ep_unroll.proofs.MeaningSteps.{grows_none}
use Rattle.ep_unroll.proofs.NeedSteps.{needed_all, needed_begin, needed_more, needed_same, number_among, part_terms, total_number}
use Rattle.ep_unroll.proofs.needs.partial_scalars.Goals as goal

pub loop-part-init : goal.loop-part-init
loop-part-init c = needed_begin c.args.arena.now c.args.count c.args.parts.now c.new-partial.result.items c.new-partial.ensures.items

pub loop-part-preserved-then-is_number : goal.loop-part-preserved-then-is_number
loop-part-preserved-then-is_number c =
    let mid = c.loop-part.arena in
    needed_same c.args.arena.now mid mid c.args.count c.args.parts.now c.loop-part.part-index c.part-item.result _ c.loop-part.partial.items c.loop-part-test.true c.part-item.is (grows_none mid mid refl)
    (λ numbers few. c.is_number.ensures c.if-is_number.true c.args.arena.now numbers) c.loop-part.invariant

pub is_total-requires : goal.is_total-requires
is_total-requires c =
    let mid = c.loop-part.arena in
    (number_among c.args.arena.now mid c.scalar_term.new.arena c.part-item.result c.in_ok-term.term c.loop-part.invariant.grows
    (part_terms c.args.arena.now c.args.parts.now c.loop-part.part-index c.part-item.result _ c.requires c.loop-part-test.true c.part-item.is) c.in_ok-term.ensures).known

pub loop-part-preserved-then-is_total : goal.loop-part-preserved-then-is_total
loop-part-preserved-then-is_total c =
    let mid = c.loop-part.arena in
    let new = c.scalar_term.new.arena in
    let own = number_among c.args.arena.now mid new c.part-item.result c.in_ok-term.term c.loop-part.invariant.grows
    (part_terms c.args.arena.now c.args.parts.now c.loop-part.part-index c.part-item.result _ c.requires c.loop-part-test.true c.part-item.is) c.in_ok-term.ensures in
    needed_same c.args.arena.now mid new c.args.count c.args.parts.now c.loop-part.part-index c.part-item.result _ c.loop-part.partial.items c.loop-part-test.true c.part-item.is own.grows
    (λ numbers few. total_number c.args.arena.now mid new c.part-item.result c.in_ok-term.term own numbers (c.is_total.ensures c.if-is_total.true numbers few)) c.loop-part.invariant

pub loop-part-preserved : goal.loop-part-preserved
loop-part-preserved c =
    let mid = c.loop-part.arena in
    let new = c.scalar_term.new.arena in
    let own = number_among c.args.arena.now mid new c.part-item.result c.in_ok-term.term c.loop-part.invariant.grows
    (part_terms c.args.arena.now c.args.parts.now c.loop-part.part-index c.part-item.result _ c.requires c.loop-part-test.true c.part-item.is) c.in_ok-term.ensures in
    needed_more c.args.arena.now mid new c.args.count c.args.parts.now c.loop-part.part-index c.part-item.result _ c.in_ok-term.term c.loop-part.partial.items c.push.new.self.items c.loop-part-test.true c.part-item.is own
    c.in_ok-push.ensures.items c.loop-part.invariant

pub returns : goal.returns
returns c = needed_all c.args.arena.now c.loop-part.arena c.args.count c.args.parts.now c.loop-part.part-index c.loop-part.partial.items c.loop-part-test.false c.loop-part.invariant
