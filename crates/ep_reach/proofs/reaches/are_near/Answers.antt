use Rattle.std.proofs.Common.{rules, subst, sym, ◌∙◌, w64}
use Rattle.std.proofs.lemmas.Int.{to_z-of_z}
use Rattle.std.proofs.lemmas.List.Elements.{All-nil}
use Rattle.ep_base.specs.Reads.{IsWithinNumbers}
use Rattle.ep_reach.proofs.Reaching.{all_mapped, all_mapped_whole}
use Rattle.ep_reach.proofs.Telling.{mapped_at}
use Rattle.ep_reach.proofs.reaches.are_near.Goals as goal

pub loop-part-init : goal.loop-part-init
loop-part-init c = All-nil IsWithinNumbers

pub loop-part-preserved : goal.loop-part-preserved
loop-part-preserved c =
    all_mapped IsWithinNumbers (λ p. p.0) c.args.parts.now c.loop-part.part-index c.part-item.result _ c.loop-part-test.true c.part-item.is c.loop-part.invariant
    (subst IsWithinNumbers (to_z-of_z w64 c.part-item.result.0 (search rules)) (c.is_near.ensures.sound c.if-not-is_near.false))

pub returns-clause-sound : goal.returns-clause-sound
returns-clause-sound c h = all_mapped_whole IsWithinNumbers (λ p. p.0) c.args.parts.now c.loop-part.part-index c.loop-part-test.false c.loop-part.invariant

pub returns-then-not-is_near-clause-complete : goal.returns-then-not-is_near-clause-complete
returns-then-not-is_near-clause-complete c h =
    sym c.if-not-is_near.true
    ∙ c.is_near.ensures.complete
    (subst IsWithinNumbers (sym (to_z-of_z w64 c.part-item.result.0 (search rules)))
    (mapped_at IsWithinNumbers (λ p. p.0) c.args.parts.now c.loop-part.part-index c.part-item.result c.part-item.result c.loop-part-test.true c.part-item.is h))
