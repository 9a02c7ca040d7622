use Rattle.std.proofs.Common.{arith}
use Rattle.enc_adder.proofs.Comparisons.{leads_begun, leads_more, leads_whole}
use Rattle.enc_adder.proofs.Sums.{bit_at_later}
use Rattle.enc_adder.proofs.Widening.{ready_later}
use Rattle.enc_adder.proofs.comparing.greater.Goals as goal

pub loop-place-init : goal.loop-place-init
loop-place-init c = leads_begun c.args.layout.now c.args.f.now c.args.one.now c.args.other.now c.args.zero c.requires.ready c.requires.zero

pub new_above-requires-clause-ready : goal.new_above-requires-clause-ready
new_above-requires-clause-ready c = ready_later _ _ _ _ _ c.loop-place.invariant.widens

pub new_above-requires-clause-a : goal.new_above-requires-clause-a
new_above-requires-clause-a c = bit_at_later c.args.layout.now c.loop-place.layout c.args.one.now c.loop-place.place c.args.zero c.bit_at-a.result c.loop-place.invariant.widens.goes_on.earlier c.requires.zero c.requires.one c.bit_at-a.ensures

pub new_above-requires-clause-b : goal.new_above-requires-clause-b
new_above-requires-clause-b c = bit_at_later c.args.layout.now c.loop-place.layout c.args.other.now c.loop-place.place c.args.zero c.bit_at-b.result c.loop-place.invariant.widens.goes_on.earlier c.requires.zero c.requires.other c.bit_at-b.ensures

pub new_above-requires-clause-before : goal.new_above-requires-clause-before
new_above-requires-clause-before c = c.loop-place.invariant.bit

pub loop-place-preserved : goal.loop-place-preserved
loop-place-preserved c =
    leads_more c.args.layout.now c.args.f.now c.loop-place.layout c.loop-place.f c.new_above.new.layout c.new_above.new.f c.args.one.now c.args.other.now c.loop-place.place c.args.zero c.bit_at-a.result c.bit_at-b.result c.loop-place.above c.in_ok-above.above
    c.requires.one c.requires.other c.requires.zero c.loop-place.invariant c.bit_at-a.ensures c.bit_at-b.ensures c.in_ok-above.ensures

pub returns : goal.returns
returns c = leads_whole c.args.layout.now c.args.f.now c.loop-place.layout c.loop-place.f c.args.one.now c.args.other.now c.loop-place.place c.loop-place.above c.loop-place.invariant (omega arith) (omega arith)
