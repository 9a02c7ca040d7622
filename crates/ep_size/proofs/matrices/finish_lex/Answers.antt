use Rattle.ep_size.proofs.Words.{◌+◌, widths, scalars_of, grid_of}
use Rattle.ep_size.proofs.MatrixSteps.{counted_of}
use Rattle.ep_size.proofs.matrices.finish_lex.Goals as goal

pub returns : goal.returns
returns c mode env e node =
    let z = scalars_of (grid_of c.args.one.now) in
    let y = scalars_of (grid_of c.args.other.now) in
    c.truth_node.ensures mode env e (widths z + widths y)
    (c.lex_weight.ensures.weight z y (counted_of c.widths_of.result _ _ z c.widths_of.ensures c.deref.ensures.value c.in-Ok.ensures.scalars)
    (counted_of c.widths_of-2.result _ _ y c.widths_of-2.ensures c.deref-2.ensures.value c.in-Ok-scalars_of.ensures.scalars)) node
