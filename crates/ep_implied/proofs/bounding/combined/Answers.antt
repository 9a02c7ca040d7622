use Rattle.std.proofs.Common.{arith}
use Rattle.ep_implied.proofs.Following.{con_at}
use Rattle.ep_implied.proofs.bounding.combined.Goals as goal

pub loop-place-init : goal.loop-place-init
loop-place-init c = λ values all. c.in_ok-sum.ensures values

pub loop-place-preserved : goal.loop-place-preserved
loop-place-preserved c = λ values all.
    c.add_times.ensures c.if-not-add_times.false values (con_at c.args.flat.now.cons.items c.loop-place.place c.index.result.now values all (omega (arith, c.loop-place-test.true, c.len-place-end.ensures)) c.index.ensures) (c.loop-place.invariant values all)

pub returns : goal.returns
returns c = λ values all. c.loop-place.invariant values all
