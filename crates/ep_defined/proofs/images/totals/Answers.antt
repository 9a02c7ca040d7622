use Rattle.std.proofs.Common.{[], ◌∷◌, ◌++◌, ap, ◌∙◌}
use Rattle.ep_defined.specs.Images.{total_at}
use Rattle.ep_defined.proofs.Listing.{pushed_map}
use Rattle.ep_defined.proofs.images.totals.Goals as goal

pub loop-term-preserved : goal.loop-term-preserved
loop-term-preserved c =
    pushed_map (total_at c.args.images.now) c.args.terms.now c.loop-term.term-index _ c.loop-term.totals.items c.push.new.self.items
    (c.in_ok-push.ensures.items ∙ ap (λ n. c.loop-term.totals.items ++ n ∷ []) c.total.ensures) c.loop-term.invariant c.loop-term-test.true c.term-item.is
