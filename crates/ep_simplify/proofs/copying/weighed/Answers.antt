use Rattle.std.proofs.Common.{◌≡◌, ℕ, ℤ, ◌<◌, [], ◌∷◌, ◌++◌, ◌∙◌, length, rules, to_z, of_z, w64}
use Rattle.std.proofs.lemmas.Int.{to_z-of_z}
use Rattle.ep_simplify.specs.Standing.{standing_at}
use Rattle.ep_defined.proofs.Listing.{pushed_map, second_holds}
use Rattle.ep_simplify.proofs.copying.weighed.Goals as goal

pub image-requires : goal.image-requires
image-requires c = second_holds (λ (t : ℕ). t < length c.args.images.now) c.args.parts.now c.loop-part.part-index _ c.requires c.loop-part-test.true c.part-item.is

pub loop-part-preserved : goal.loop-part-preserved
loop-part-preserved c =
    let weight : to_z w64 (of_z w64 c.part-item.result.0) ≡ c.part-item.result.0 = to_z-of_z w64 c.part-item.result.0 (search rules) in
    pushed_map (λ (p : ℤ × ℕ). (p.0, standing_at c.args.images.now p.1)) c.args.parts.now c.loop-part.part-index _ c.loop-part.made.items c.push.new.self.items
    (c.in_ok-push.ensures.items ∙ (λ i. c.loop-part.made.items ++ (weight i, c.image.ensures i) ∷ [])) c.loop-part.invariant c.loop-part-test.true c.part-item.is
