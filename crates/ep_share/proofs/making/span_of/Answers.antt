use Rattle.std.proofs.Common.{arith}
use Rattle.std.proofs.lemmas.Bool.{false≢true}
use Rattle.std.proofs.lemmas.Int.{ints}
use Rattle.ep_share.proofs.making.span_of.Goals as goal

pub returns-in-Some : goal.returns-in-Some
returns-in-Some c = record { within = c.in-Some.ensures.near; told = λ told. c.in-Some.ensures.reach }

pub returns-in-None : goal.returns-in-None
returns-in-None c = record {
  within = record { low = (omega (arith, ints), omega (arith, ints)); high = (omega (arith, ints), omega (arith, ints)) };
  told = λ told. absurd (false≢true (c.in-None.ensures.told told));
}
