use Rattle.ep_unroll.proofs.Words.{Option, All-nil, env_in, all_next, all_whole, decisions_in, Expr, IsFreeIndex}
use Rattle.ep_unroll.proofs.slots.are_decided.Goals as goal

pub loop-index-init : goal.loop-index-init
loop-index-init c = All-nil {X = Option Expr} (IsFreeIndex (decisions_in (env_in c.args.scope)))

pub loop-index-preserved : goal.loop-index-preserved
loop-index-preserved c =
    all_next {A = Option Expr} (IsFreeIndex (decisions_in (env_in c.args.scope))) c.args.indices.now c.loop-index.index-index c.index-item.result c.index-item.result c.loop-index-test.true c.index-item.is
    c.loop-index.invariant (c.is_decided.ensures c.if-not-is_decided.false)

pub returns : goal.returns
returns c h = all_whole {A = Option Expr} (IsFreeIndex (decisions_in (env_in c.args.scope))) c.args.indices.now c.loop-index.index-index c.loop-index-test.false c.loop-index.invariant
