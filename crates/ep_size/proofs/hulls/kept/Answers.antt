use Rattle.ep_size.proofs.Words.{subst, refl, sym, plain_span, wide_interval, Keeps}
use Rattle.ep_size.proofs.HullSteps.{kept_gives}
use Rattle.ep_size.proofs.NodeSteps.{err_gives}
use Rattle.ep_size.proofs.hulls.kept.Goals as goal

pub returns-in-Ok : goal.returns-in-Ok
returns-in-Ok c =
    kept_gives (plain_span c.args.span) (wide_interval c.widened.result) c.args.span _ c.widened.ensures refl
    (subst (Keeps (wide_interval c.widened.result)) c.in-Ok.is c.near.ensures)

pub returns-in-Err : goal.returns-in-Err
returns-in-Err c =
    err_gives (plain_span c.args.span) (wide_interval c.widened.result) c.in-Err.refused (sym c.widened.ensures)
    (subst (Keeps (wide_interval c.widened.result)) c.in-Err.is c.near.ensures)
