use Rattle.std.proofs.Common.{arith}
use Rattle.std.proofs.lemmas.Int.{ints}
use Rattle.enc_adder.proofs.SideSums.{levels}
use Rattle.enc_adder.proofs.sides.level.Goals as goal

pub returns : goal.returns
returns c layout has =
    levels layout c.args.sides.now c.add_rest.new.sides _ _ _ (c.in_ok-add_rest.ensures layout has) (c.in_ok-put_aside.ensures.moves layout has) c.in_ok-put_aside.ensures.none (omega (arith, ints, c.from-less.ensures))
