use Rattle.std.proofs.Common.{arith, refl}
use Rattle.enc_adder.proofs.ConstantBits.{bit_so_far, none_so_far, spells_whole}
use Rattle.enc_adder.proofs.bits.constant.Goals as goal

pub halving-init : goal.halving-init
halving-init c = none_so_far c.args.c c.args.number c.new-bits.result.items c.new-bits.ensures.items

pub halving-preserved : goal.halving-preserved
halving-preserved c =
    bit_so_far c.args.c c.args.number c.halving.rest _ c.halving.bits.items c.push.new.self.items c.constant_bit-bit.result c.constant_bit-bit.ensures.odd c.constant_bit-bit.ensures.even refl c.in_ok-push.ensures.items c.halving.invariant

pub returns-clause-bits : goal.returns-clause-bits
returns-clause-bits c = c.halving.invariant.are_bits

pub returns-clause-spells : goal.returns-clause-spells
returns-clause-spells c = spells_whole c.args.c c.args.number c.halving.rest c.halving.bits.items (omega (arith, c.halving-test.false)) c.halving.invariant
