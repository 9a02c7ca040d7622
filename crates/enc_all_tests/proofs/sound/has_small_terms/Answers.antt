use Rattle.std.proofs.Common.{get_or, pos, refl, rules, subst, w64}
use Rattle.std.proofs.lemmas.Int.{to_z-of_z}
use Rattle.ep_base.specs.Reads.{IsWithinNumbers}
use Rattle.enc_all_tests.proofs.Small.{all_mapped, all_mapped_whole}
use Rattle.enc_all_tests.proofs.sound.has_small_terms.Goals as goal

pub loop-part-preserved : goal.loop-part-preserved
loop-part-preserved c =
    all_mapped IsWithinNumbers (λ p. p.0) c.args.parts.now c.loop-part.part-index (get_or c.args.parts.now c.loop-part.part-index (pos 0, 0)) (pos 0, 0) c.loop-part-test.true refl c.loop-part.invariant
    (subst IsWithinNumbers (to_z-of_z w64 _ (search rules)) (c.is_small_number.ensures c.if-not-is_small_number.false))

pub returns : goal.returns
returns c h = all_mapped_whole IsWithinNumbers (λ p. p.0) c.args.parts.now c.loop-part.part-index c.loop-part-test.false c.loop-part.invariant
