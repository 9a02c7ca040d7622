use Rattle.ep_size.proofs.Words.{subst, map, take, plain_span, Hulls}
use Rattle.ep_size.proofs.ListSteps.{fed, fed_all}
use Rattle.ep_size.proofs.remaining.hull_over.Goals as goal

pub loop-span-preserved : goal.loop-span-preserved
loop-span-preserved c =
    subst (λ xs. Hulls c.add.new.self xs) (fed plain_span c.args.spans.now c.loop-span.span-index _ c.loop-span-test.true)
    (c.add.ensures (map plain_span (take c.loop-span.span-index c.args.spans.now)) c.loop-span.invariant)

pub returns : goal.returns
returns c = subst (Hulls c.loop-span.hull) (fed_all plain_span c.args.spans.now c.loop-span.span-index c.loop-span-test.false) c.loop-span.invariant
