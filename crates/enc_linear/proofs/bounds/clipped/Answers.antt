use Rattle.std.proofs.Common.{◌∙◌, arith}
use Rattle.std.proofs.lemmas.Int.{ints}
use Rattle.enc_linear.proofs.Clipping.{also_is, clipped_high, clipped_low, clipped_within}
use Rattle.enc_linear.proofs.bounds.clipped.Goals as goal

pub returns-then-number-clip : goal.returns-then-number-clip
returns-then-number-clip c =
    also_is c.narrowed.result _ _ c.narrowed.ensures (omega (arith, ints) ∙ clipped_low c.args.clip.low c.args.clip.high c.args.number (omega (arith, ints)))

pub returns-then-clip-number : goal.returns-then-clip-number
returns-then-clip-number c =
    also_is c.narrowed-then-clip-number.result _ _ c.narrowed-then-clip-number.ensures
    (omega (arith, ints) ∙ clipped_high c.args.clip.low c.args.clip.high c.args.number (omega (arith, ints)) (omega (arith, ints)))

pub returns : goal.returns
returns c =
    also_is c.narrowed-2.result _ _ c.narrowed-2.ensures (omega (arith, ints) ∙ clipped_within c.args.clip.low c.args.clip.high c.args.number (omega (arith, ints)) (omega (arith, ints)))
