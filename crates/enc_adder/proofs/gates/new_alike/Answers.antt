use Rattle.std.proofs.Common.{◌∙◌, arith}
use Rattle.enc_adder.proofs.GateSteps.{made_alike}
use Rattle.enc_adder.proofs.Widening.{bit_later, new_bit_is}
use Rattle.enc_adder.proofs.gates.new_alike.Goals as goal

pub add_alike-requires-clause-a : goal.add_alike-requires-clause-a
add_alike-requires-clause-a c = bit_later c.args.layout.now c.new_bit.new.layout c.args.a c.in_ok-alike.ensures.new.goes_on.earlier c.requires.a

pub add_alike-requires-clause-b : goal.add_alike-requires-clause-b
add_alike-requires-clause-b c = bit_later c.args.layout.now c.new_bit.new.layout c.args.b c.in_ok-alike.ensures.new.goes_on.earlier c.requires.b

pub add_alike-requires-clause-before : goal.add_alike-requires-clause-before
add_alike-requires-clause-before c = bit_later c.args.layout.now c.new_bit.new.layout c.args.before c.in_ok-alike.ensures.new.goes_on.earlier c.requires.before

pub add_alike-requires-clause-alike : goal.add_alike-requires-clause-alike
add_alike-requires-clause-alike c = new_bit_is c.args.layout.now c.args.f.now c.new_bit.new.layout c.new_bit.new.f 1 0 c.in_ok-alike.alike c.in_ok-alike.ensures.new (omega arith) (c.in_ok-alike.ensures.number ∙ omega arith)

pub returns : goal.returns
returns c =
    made_alike c.args.layout.now c.args.f.now c.new_bit.new.layout c.new_bit.new.f c.add_alike.new.f c.args.a c.args.b c.args.before c.in_ok-alike.alike c.requires.ready c.requires.a c.requires.b c.requires.before c.in_ok-alike.ensures.new c.in_ok-alike.ensures.number c.in_ok-add_alike.ensures
