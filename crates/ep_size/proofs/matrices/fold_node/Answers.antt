use Rattle.ep_size.proofs.Words.{subst, folded_weight, GivesFold}
use Rattle.ep_size.proofs.MatrixSteps.{fold_finished, fold_refused}
use Rattle.ep_size.proofs.matrices.fold_node.Goals as goal

pub returns-in-Ok : goal.returns-in-Ok
returns-in-Ok c mode env e op spans w gives node =
    fold_finished mode env e op spans c.args.total.now c.weigh.new.total c.in-Ok.own node (subst (λ r. GivesFold r op spans) c.in-Ok.is gives)
    (c.weigh.ensures (folded_weight op spans) w)

pub returns-in-Err : goal.returns-in-Err
returns-in-Err c mode env e op spans w gives node =
    fold_refused mode env e op spans c.args.total.now c.args.total.now c.in-Err.refused node (subst (λ r. GivesFold r op spans) c.in-Err.is gives)
