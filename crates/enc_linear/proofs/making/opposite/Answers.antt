use Rattle.std.proofs.Common.{arith}
use Rattle.std.proofs.lemmas.Int.{ints}
use Rattle.enc_linear.proofs.Ladders.{gives}
use Rattle.enc_linear.proofs.Multiples.{made_opposite}
use Rattle.enc_linear.proofs.making.opposite.Goals as goal

pub returns : goal.returns
returns c =
    let g = gives _ _ _ c.in_ok-worth.worth c.checked_sub.ensures c.in_ok-worth.ensures.ok_part in
    made_opposite c.args.step c.in_ok-worth.worth _ _ (omega (arith, ints, g)) (omega (arith, ints)) (omega (arith, ints))
