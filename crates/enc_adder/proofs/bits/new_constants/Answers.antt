use Rattle.enc_adder.proofs.ConstantBits.{new_constants_are}
use Rattle.enc_adder.proofs.bits.new_constants.Goals as goal

pub returns : goal.returns
returns c =
    new_constants_are c.args.layout.now c.args.f.now c.new_constant.new.layout c.new_constant.new.f c.new_constant-2.new.layout c.new_constant-2.new.f (record { zero = c.in_ok-zero.zero; one = c.in_ok-one.one }) c.in_ok-zero.ensures c.in_ok-one.ensures
