use Rattle.ep_size.proofs.Words.{subst, Gives}
use Rattle.ep_size.proofs.NodeSteps.{number_finished, number_refused}
use Rattle.ep_size.proofs.nodes.number_node.Goals as goal

pub returns-in-Ok : goal.returns-in-Ok
returns-in-Ok c mode env e w s h gives node =
    let own = subst (λ r. Gives r s) c.in-Ok.is gives in
    number_finished mode env e w s c.args.total.now c.weigh.new.total c.in-Ok.own node own.0 own.1 (c.weigh.ensures w h)

pub returns-in-Err : goal.returns-in-Err
returns-in-Err c mode env e w s h gives node =
    number_refused mode env e w s c.args.total.now c.args.total.now c.in-Err.refused node (subst (λ r. Gives r s) c.in-Err.is gives)
