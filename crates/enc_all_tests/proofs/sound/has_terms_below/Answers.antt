use Rattle.std.proofs.Common.{◌<◌, get_or, pos, refl, arith}
use Rattle.enc_all_tests.proofs.Small.{all_mapped, all_mapped_whole}
use Rattle.enc_all_tests.proofs.sound.has_terms_below.Goals as goal

pub loop-part-preserved : goal.loop-part-preserved
loop-part-preserved c =
    all_mapped (λ x. x < c.args.count) (λ p. p.1) c.args.parts.now c.loop-part.part-index (get_or c.args.parts.now c.loop-part.part-index (pos 0, 0)) (pos 0, 0) c.loop-part-test.true refl c.loop-part.invariant
    (omega (arith, c.if-part-count.false))

pub returns : goal.returns
returns c h = all_mapped_whole (λ x. x < c.args.count) (λ p. p.1) c.args.parts.now c.loop-part.part-index c.loop-part-test.false c.loop-part.invariant
