use Rattle.std.proofs.Common.{arith}
use Rattle.std.proofs.lemmas.Int.{ints}
use Rattle.enc_linear.proofs.Reading.{above_said}
use Rattle.enc_linear.proofs.sources.above.Goals as goal

pub returns : goal.returns
returns c = above_said c.args.source c.args.number _ c.in_ok-within.within c.above.result _ _ c.in_ok-within.ensures c.above.ensures (omega arith) (omega (arith, ints)) (omega (arith, ints))
