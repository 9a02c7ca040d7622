use Rattle.std.proofs.Common.{arith}
use Rattle.enc_atoms.proofs.NewTruths.{length_later}
use Rattle.enc_adder.proofs.Halves.{even_bit, made_bit, own_bit}
use Rattle.enc_adder.proofs.parts.low_bit_of.Goals as goal

pub returns-then-are_even : goal.returns-then-are_even
returns-then-are_even c worth worths = even_bit c.args.layout.now c.args.f.now c.args.zero c.args.var c.args.steps.now worth c.requires.ready c.requires.zero c.requires.var c.requires.steps (c.are_even.ensures c.if-are_even.true) worths

pub returns-then-are_themselves : goal.returns-then-are_themselves
returns-then-are_themselves c worth worths = own_bit c.args.layout.now c.args.f.now c.args.var c.args.steps.now worth c.requires.ready c.requires.var c.requires.steps (c.are_themselves.ensures c.if-are_themselves.true) worths

pub add_low_bits-requires-clause-var : goal.add_low_bits-requires-clause-var
add_low_bits-requires-clause-var c =
    let h = length_later c.args.layout.now c.args.f.now c.new_bit.new.layout c.new_bit.new.f 1 c.in_ok-bit.ensures.new in
    let low = c.requires.var in
    omega (arith, h, low)

pub add_low_bits-requires-clause-bit : goal.add_low_bits-requires-clause-bit
add_low_bits-requires-clause-bit c =
    let h = length_later c.args.layout.now c.args.f.now c.new_bit.new.layout c.new_bit.new.f 1 c.in_ok-bit.ensures.new in
    let is = c.in_ok-bit.ensures.number in
    omega (arith, h, is)

pub returns : goal.returns
returns c worth worths =
    made_bit c.args.layout.now c.args.f.now c.new_bit.new.layout c.new_bit.new.f c.add_low_bits.new.f c.args.var c.in_ok-bit.bit c.args.steps.now worth c.requires.ready c.requires.var c.requires.steps c.in_ok-bit.ensures.new c.in_ok-bit.ensures.number c.in_ok-add_low_bits.ensures worths
