use Rattle.ep_size.proofs.Words.{subst, ap, map, ◌∙◌, scalars_of, grid_of, plain_span, RefusesFold}
use Rattle.ep_size.proofs.MatrixSteps.{fold_refused}
use Rattle.ep_size.proofs.matrices.finish_fold.Goals as goal

pub returns : goal.returns
returns c mode env e node =
    fold_refused mode env e c.args.op (scalars_of (grid_of c.args.matrix.now)) c.args.total.now c.args.total.now c.in-Err.refused node
    (subst (λ ys. RefusesFold c.in-Err.refused c.args.op ys) (ap (map plain_span) c.deref.ensures.value ∙ c.in-Ok.ensures.scalars) c.in-Err.ensures.refused)
