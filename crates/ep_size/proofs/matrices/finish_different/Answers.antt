use Rattle.ep_size.proofs.Words.{◌*◌, length, widths, scalars_of, grid_of}
use Rattle.ep_size.proofs.MatrixSteps.{counted_of}
use Rattle.ep_size.proofs.matrices.finish_different.Goals as goal

pub returns : goal.returns
returns c mode env e node =
    let z = scalars_of (grid_of c.args.matrix.now) in
    c.truth_node.ensures mode env e (length z * widths z)
    (c.different_weight.ensures.weight z (counted_of c.widths_of.result _ _ z c.widths_of.ensures c.deref.ensures.value c.in-Ok.ensures.scalars)) node
