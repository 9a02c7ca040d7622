use Rattle.ep_size.proofs.Words.{ap, subst, ◌∙◌, map, read_weight, extent, read_span, read, not, ◌&&◌, is_decision_name, Gives, measured_of, capped}
use Rattle.ep_size.proofs.NodeSteps.{number_refused}
use Rattle.ep_size.proofs.ReadForms.{left_of, read_number}
use Rattle.ep_size.proofs.reads.scalar_node.Goals as goal

pub returns-in-Ok : goal.returns-in-Ok
returns-in-Ok c mode env p m is holds told typed named h =
    let ms = map measured_of c.args.indices.now in
    let spans = left_of ms (extent mode env m) in
    let own = read_span c.gives_cell-of_cell.result c.args.scalar spans in
    let gives = subst (λ r. Gives r own) c.in-Ok.is (c.span.ensures spans h) in
    c.number_node.ensures mode env (read p m is) (read_weight ms own spans) own
    (c.read_weight-weight.ensures.weight ms spans c.one_decided-decided.ensures c.index_widths.ensures (c.count.ensures spans h)
    ∙ ap (λ s. capped (read_weight ms s spans)) gives.0)
    gives
    (read_number mode env p m is ms c.gives_cell-of_cell.result c.args.scalar holds told typed
    (c.gives_cell-of_cell.ensures ∙ ap (λ b. b && not c.one_decided-decided.result) named ∙ ap (λ b. is_decision_name env m && not b) c.one_decided-decided.ensures))

pub returns-in-Err : goal.returns-in-Err
returns-in-Err c mode env p m is holds told typed named h =
    let ms = map measured_of c.args.indices.now in
    let spans = left_of ms (extent mode env m) in
    let own = read_span c.gives_cell-of_cell.result c.args.scalar spans in
    number_refused mode env (read p m is) (read_weight ms own spans) own c.args.total.now c.args.total.now c.in-Err.refused
    (read_number mode env p m is ms c.gives_cell-of_cell.result c.args.scalar holds told typed
    (c.gives_cell-of_cell.ensures ∙ ap (λ b. b && not c.one_decided-decided.result) named ∙ ap (λ b. is_decision_name env m && not b) c.one_decided-decided.ensures))
    (subst (λ r. Gives r own) c.in-Err.is (c.span.ensures spans h))
