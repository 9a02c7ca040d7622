use Rattle.std.proofs.Common.{◌∙◌, pos, arith}
use Rattle.std.proofs.lemmas.Int.{ints}
use Rattle.enc_adder.proofs.Least.{none_less, none_there}
use Rattle.enc_adder.proofs.sides.least_of.Goals as goal

pub returns-in-empty : goal.returns-in-empty
returns-in-empty c = none_there c.runs.result.now _ _ (c.runs.ensures.numbers ∙ c.domain.ensures) c.in-empty.len_below

pub returns-in-len1-up : goal.returns-in-len1-up
returns-in-len1-up c =
    none_less c.runs.result.now (record { lo = pos 0; hi = pos 0 }) _ _ c.runs.ensures.apart (c.runs.ensures.numbers ∙ c.domain.ensures) (omega arith) (omega (arith, ints))
