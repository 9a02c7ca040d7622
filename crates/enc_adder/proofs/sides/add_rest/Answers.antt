use Rattle.std.proofs.Common.{refl, arith}
use Rattle.std.proofs.lemmas.Int.{ints}
use Rattle.enc_adder.proofs.SideSums.{moved_aside, rest_moved}
use Rattle.enc_adder.proofs.sides.add_rest.Goals as goal

pub returns-in-Some : goal.returns-in-Some
returns-in-Some c layout has = rest_moved layout c.args.sides.now _ c.args.number refl refl (omega (arith, ints, c.in-Some.ensures))

pub returns : goal.returns
returns c layout has = moved_aside layout c.args.sides.now c.put_aside.new.sides _ c.args.number (c.in_ok-put_aside.ensures.moves layout has) c.in_ok-put_aside.ensures.none refl refl (omega (arith, ints))
