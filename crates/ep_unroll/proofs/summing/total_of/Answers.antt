use Rattle.ep_unroll.proofs.Words.{◌+◌, arith, refl, subst, sym, to_z, w64, ints, to_z-of_z}
use Rattle.ep_ground.specs.Nodes.{parts_of}
use Rattle.ep_unroll.proofs.FormValues.{if_ok}
use Rattle.ep_unroll.proofs.SummingSteps.{TotalSoFar, total_begins, total_ends, total_more, total_parts}
use Rattle.ep_unroll.proofs.summing.total_of.Goals as goal

pub loop-part-init : goal.loop-part-init
loop-part-init c = total_begins c.args.arena.now c.args.parts.now c.new-terms.result.items _ c.new-terms.ensures.items refl

pub loop-part-preserved : goal.loop-part-preserved
loop-part-preserved c =
    let old = c.args.arena.now in
    let new = c.add_scalar.new.arena in
    let all = c.args.parts.now in
    let k = c.loop-part.part-index in
    let sum = c.in_ok-constant.constant in
    subst (λ d. TotalSoFar old new all (k + 1) c.add_scalar.new.terms.items d) (sym (to_z-of_z w64 sum (omega (arith, ints))))
    (total_more old c.loop-part.arena new all k c.part-item.result _ c.loop-part.terms.items c.add_scalar.new.terms.items (to_z w64 c.loop-part.constant-bits) _ sum
    c.requires c.loop-part-test.true c.part-item.is refl c.loop-part.invariant c.in_ok-constant.ensures)

pub put-requires : goal.put-requires
unfolding parts_of
put-requires c =
    total_parts c.loop-part.arena c.loop-part.terms.items c.deref.result.now c.in_ok-weighed.weighed.items c.in_ok-weighed.ensures c.deref.ensures.value c.loop-part.invariant.known

pub returns : goal.returns
returns c =
    if_ok c.put.result _ _
    (λ t put. total_ends c.args.arena.now c.loop-part.arena c.put.new.arena c.args.parts.now c.loop-part.part-index c.loop-part.terms.items c.deref.result.now c.in_ok-weighed.weighed.items
    (to_z w64 c.loop-part.constant-bits) _ t c.loop-part-test.false c.loop-part.invariant c.in_ok-weighed.ensures c.deref.ensures.value refl put) c.put.ensures
