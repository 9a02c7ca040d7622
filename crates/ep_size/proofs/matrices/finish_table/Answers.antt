use Rattle.ep_size.proofs.Words.{◌+◌, ◌*◌, length, widths, scalars_of, grid_of}
use Rattle.ep_size.proofs.MatrixSteps.{counted_of}
use Rattle.ep_size.proofs.matrices.finish_table.Goals as goal

pub returns : goal.returns
returns c mode env e count told node =
    let z = scalars_of (grid_of c.args.row.now) in
    c.truth_node.ensures mode env e (count * length z + widths z)
    (c.table_weight.ensures.weight z count (counted_of c.widths_of.result _ _ z c.widths_of.ensures c.deref.ensures.value c.in-Ok.ensures.scalars) told) node
