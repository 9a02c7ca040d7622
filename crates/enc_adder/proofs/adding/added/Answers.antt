use Rattle.std.proofs.Common.{arith}
use Rattle.enc_adder.proofs.Sums.{all_places, bit_at_later, no_place_added, one_place_more}
use Rattle.enc_adder.proofs.Widening.{constant_later, ready_later}
use Rattle.enc_adder.proofs.adding.added.Goals as goal

pub loop-place-init : goal.loop-place-init
loop-place-init c = no_place_added c.args.layout.now c.args.f.now c.args.one.now c.args.other.now c.new-bits.result.items c.args.zero c.requires.ready c.requires.zero c.new-bits.ensures.items

pub loop-place-preserved : goal.loop-place-preserved
loop-place-preserved c =
    one_place_more c.args.layout.now c.args.f.now c.loop-place.layout c.loop-place.f c.summed.new.layout c.summed.new.f c.args.one.now c.args.other.now c.loop-place.bits.items c.push.new.self.items c.loop-place.carry c.loop-place.place c.args.zero c.bit_at-a.result c.bit_at-b.result (c.in_ok-low.low, c.in_ok-low.high)
    c.requires.one c.requires.other c.requires.zero c.loop-place.invariant c.bit_at-a.ensures c.bit_at-b.ensures c.in_ok-low.ensures c.in_ok-push.ensures.items

pub summed-requires-clause-ready : goal.summed-requires-clause-ready
summed-requires-clause-ready c = ready_later _ _ _ _ _ c.loop-place.invariant.widens

pub summed-requires-clause-zero : goal.summed-requires-clause-zero
summed-requires-clause-zero c = constant_later c.args.layout.now c.loop-place.layout c.args.zero _ c.loop-place.invariant.widens.goes_on.earlier c.requires.zero

pub summed-requires-clause-a : goal.summed-requires-clause-a
summed-requires-clause-a c = bit_at_later c.args.layout.now c.loop-place.layout c.args.one.now c.loop-place.place c.args.zero c.bit_at-a.result c.loop-place.invariant.widens.goes_on.earlier c.requires.zero c.requires.one c.bit_at-a.ensures

pub summed-requires-clause-b : goal.summed-requires-clause-b
summed-requires-clause-b c = bit_at_later c.args.layout.now c.loop-place.layout c.args.other.now c.loop-place.place c.args.zero c.bit_at-b.result c.loop-place.invariant.widens.goes_on.earlier c.requires.zero c.requires.other c.bit_at-b.ensures

pub summed-requires-clause-c : goal.summed-requires-clause-c
summed-requires-clause-c c = c.loop-place.invariant.is_bit

pub returns : goal.returns
returns c =
    all_places c.args.layout.now c.args.f.now c.loop-place.layout c.loop-place.f c.args.one.now c.args.other.now c.loop-place.bits.items c.push-2.new.self.items c.loop-place.carry c.loop-place.place c.loop-place.invariant
    (omega (arith, c.max-place-end.ensures)) (omega (arith, c.max-place-end.ensures)) c.in_ok-push-2.ensures.items
