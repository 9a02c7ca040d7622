use Rattle.ep_size.proofs.Words.{subst, map, take, plain_span, Widens}
use Rattle.ep_size.proofs.ListSteps.{fed}
use Rattle.ep_size.proofs.widths.widths_of.Goals as goal

pub loop-span-preserved : goal.loop-span-preserved
loop-span-preserved c =
    subst (λ xs. Widens c.add.new.self xs) (fed plain_span c.args.spans.now c.loop-span.span-index _ c.loop-span-test.true)
    (c.add.ensures (map plain_span (take c.loop-span.span-index c.args.spans.now)) c.loop-span.invariant)
