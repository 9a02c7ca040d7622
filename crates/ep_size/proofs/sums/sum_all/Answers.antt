use Rattle.ep_size.proofs.Words.{subst, arith, map, take, plain_span, Sums}
use Rattle.ep_size.proofs.ListSteps.{fed, fed_at_most}
use Rattle.ep_size.proofs.sums.sum_all.Goals as goal

pub loop-span-preserved : goal.loop-span-preserved
loop-span-preserved c =
    subst (λ xs. Sums c.add.new.self xs) (fed plain_span c.args.spans.now c.loop-span.span-index _ c.loop-span-test.true)
    (c.add.ensures (map plain_span (take c.loop-span.span-index c.args.spans.now))
    (omega (arith, fed_at_most plain_span c.args.spans.now c.loop-span.span-index, c.well_formed.0.1)) c.loop-span.invariant)
