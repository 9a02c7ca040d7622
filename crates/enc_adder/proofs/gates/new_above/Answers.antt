use Rattle.std.proofs.Common.{◌∙◌, arith}
use Rattle.enc_adder.proofs.GateSteps.{made_above}
use Rattle.enc_adder.proofs.Widening.{bit_later, new_bit_is}
use Rattle.enc_adder.proofs.gates.new_above.Goals as goal

pub add_above-requires-clause-a : goal.add_above-requires-clause-a
add_above-requires-clause-a c = bit_later c.args.layout.now c.new_bit.new.layout c.args.a c.in_ok-above.ensures.new.goes_on.earlier c.requires.a

pub add_above-requires-clause-b : goal.add_above-requires-clause-b
add_above-requires-clause-b c = bit_later c.args.layout.now c.new_bit.new.layout c.args.b c.in_ok-above.ensures.new.goes_on.earlier c.requires.b

pub add_above-requires-clause-before : goal.add_above-requires-clause-before
add_above-requires-clause-before c = bit_later c.args.layout.now c.new_bit.new.layout c.args.before c.in_ok-above.ensures.new.goes_on.earlier c.requires.before

pub add_above-requires-clause-above : goal.add_above-requires-clause-above
add_above-requires-clause-above c = new_bit_is c.args.layout.now c.args.f.now c.new_bit.new.layout c.new_bit.new.f 1 0 c.in_ok-above.above c.in_ok-above.ensures.new (omega arith) (c.in_ok-above.ensures.number ∙ omega arith)

pub returns : goal.returns
returns c =
    made_above c.args.layout.now c.args.f.now c.new_bit.new.layout c.new_bit.new.f c.add_above.new.f c.args.a c.args.b c.args.before c.in_ok-above.above c.requires.ready c.requires.a c.requires.b c.requires.before c.in_ok-above.ensures.new c.in_ok-above.ensures.number c.in_ok-add_above.ensures
