use Rattle.ep_size.proofs.Words.{ap, subst, refl, ◌∙◌, wide_span, wide_interval, Keeps}
use Rattle.ep_size.proofs.NodeSteps.{err_gives}
use Rattle.ep_size.proofs.nodes.wide.Goals as goal

pub returns-in-Ok : goal.returns-in-Ok
unfolding wide_span
returns-in-Ok c =
    let k = subst (Keeps (wide_interval c.args.reach)) c.in-Ok.is c.near.ensures in (c.wide_span.ensures ∙ ap wide_span k.0, k.1)

pub returns-in-Err : goal.returns-in-Err
unfolding wide_span
returns-in-Err c =
    err_gives (wide_span (wide_interval c.args.reach)) (wide_interval c.args.reach) c.in-Err.refused refl (subst (Keeps (wide_interval c.args.reach)) c.in-Err.is c.near.ensures)
