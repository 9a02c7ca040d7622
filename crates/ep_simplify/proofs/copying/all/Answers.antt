use Rattle.std.proofs.Common.{[], ◌∷◌, ◌++◌, ap, ◌∙◌}
use Rattle.ep_simplify.specs.Standing.{standing_at}
use Rattle.ep_defined.proofs.Listing.{pushed_map}
use Rattle.ep_simplify.proofs.copying.all.Goals as goal

pub loop-term-preserved : goal.loop-term-preserved
loop-term-preserved c =
    pushed_map (standing_at c.args.images.now) c.args.terms.now c.loop-term.term-index _ c.loop-term.parts.items c.push.new.self.items
    (c.in_ok-push.ensures.items ∙ ap (λ n. c.loop-term.parts.items ++ n ∷ []) c.image.ensures) c.loop-term.invariant c.loop-term-test.true c.term-item.is
