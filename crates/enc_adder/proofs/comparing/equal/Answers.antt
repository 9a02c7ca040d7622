use Rattle.std.proofs.Common.{arith}
use Rattle.enc_adder.proofs.Comparisons.{agrees_begun, agrees_more, agrees_whole}
use Rattle.enc_adder.proofs.Sums.{bit_at_later}
use Rattle.enc_adder.proofs.Widening.{ready_later}
use Rattle.enc_adder.proofs.comparing.equal.Goals as goal

pub loop-place-init : goal.loop-place-init
loop-place-init c = agrees_begun c.args.layout.now c.args.f.now c.args.one.now c.args.other.now c.args.c.one c.requires.ready c.requires.constants.one_is

pub new_alike-requires-clause-ready : goal.new_alike-requires-clause-ready
new_alike-requires-clause-ready c = ready_later _ _ _ _ _ c.loop-place.invariant.widens

pub new_alike-requires-clause-a : goal.new_alike-requires-clause-a
new_alike-requires-clause-a c = bit_at_later c.args.layout.now c.loop-place.layout c.args.one.now c.loop-place.place c.args.c.zero c.bit_at-a.result c.loop-place.invariant.widens.goes_on.earlier c.requires.constants.zero_is c.requires.one c.bit_at-a.ensures

pub new_alike-requires-clause-b : goal.new_alike-requires-clause-b
new_alike-requires-clause-b c = bit_at_later c.args.layout.now c.loop-place.layout c.args.other.now c.loop-place.place c.args.c.zero c.bit_at-b.result c.loop-place.invariant.widens.goes_on.earlier c.requires.constants.zero_is c.requires.other c.bit_at-b.ensures

pub new_alike-requires-clause-before : goal.new_alike-requires-clause-before
new_alike-requires-clause-before c = c.loop-place.invariant.bit

pub loop-place-preserved : goal.loop-place-preserved
loop-place-preserved c =
    agrees_more c.args.layout.now c.args.f.now c.loop-place.layout c.loop-place.f c.new_alike.new.layout c.new_alike.new.f c.args.one.now c.args.other.now c.loop-place.place c.args.c.zero c.bit_at-a.result c.bit_at-b.result c.loop-place.alike c.in_ok-alike.alike
    c.requires.one c.requires.other c.requires.constants.zero_is c.loop-place.invariant c.bit_at-a.ensures c.bit_at-b.ensures c.in_ok-alike.ensures

pub returns : goal.returns
returns c = agrees_whole c.args.layout.now c.args.f.now c.loop-place.layout c.loop-place.f c.args.one.now c.args.other.now c.loop-place.place c.loop-place.alike c.loop-place.invariant (omega arith) (omega arith)
