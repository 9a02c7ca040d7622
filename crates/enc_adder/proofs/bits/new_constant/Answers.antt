use Rattle.std.proofs.Common.{arith}
use Rattle.std.proofs.lemmas.Int.{ints}
use Rattle.enc_adder.proofs.ConstantBits.{new_constant_ok}
use Rattle.enc_adder.proofs.bits.new_constant.Goals as goal

pub returns : goal.returns
returns c =
    new_constant_ok c.new_var.result c.args.layout.now c.args.f.now c.new_var.new.self c.new_var.new.f _ _ c.in_ok-parts.parts.items c.args.number _ c.in_ok-domain.ensures.numbers c.in_ok-parts.ensures.items (omega (arith, ints))
    c.new_var.ensures.number c.new_var.ensures.entry c.new_var.ensures.goes_on c.new_var.ensures.choice
