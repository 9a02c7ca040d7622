use Rattle.std.proofs.Common.{arith}
use Rattle.std.proofs.lemmas.Int.{ints}
use Rattle.enc_linear.proofs.Ladders.{gives}
use Rattle.enc_linear.proofs.Multiples.{made_raised, not_raised}
use Rattle.enc_linear.proofs.making.raised_step.Goals as goal

pub returns-then-step-raise : goal.returns-then-step-raise
returns-then-step-raise c = not_raised c.args.raise.from c.args.raise.by c.args.step (omega (arith, ints))

pub returns : goal.returns
returns c =
    let g = gives _ _ _ c.in_ok-worth.worth c.checked_add.ensures c.in_ok-worth.ensures.ok_part in
    made_raised c.args.raise.from c.args.raise.by c.args.step c.in_ok-worth.worth _ _ (omega (arith, ints)) (omega (arith, ints, g)) (omega (arith, ints)) (omega (arith, ints))
