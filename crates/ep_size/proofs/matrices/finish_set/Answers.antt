use Rattle.ep_size.proofs.Words.{◌+◌, ◌*◌, length, ap, ◌∙◌, width, widths, span_of, scalars_of, grid_of, capped}
use Rattle.ep_size.proofs.MatrixSteps.{counted_of}
use Rattle.ep_size.proofs.matrices.finish_set.Goals as goal

pub returns : goal.returns
returns c mode env e node =
    let z = scalars_of (grid_of c.args.matrix.now) in
    c.truth_node.ensures mode env e (length z * width (span_of (grid_of c.args.number.now)).reach + widths z)
    (c.set_weight.ensures.weight z (counted_of c.widths_of.result _ _ z c.widths_of.ensures c.deref.ensures.value c.in-Ok.ensures.scalars)
    ∙ ap (λ s. capped (length z * width s.reach + widths z)) c.number_span.ensures) node
