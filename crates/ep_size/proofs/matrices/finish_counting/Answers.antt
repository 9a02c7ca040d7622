use Rattle.ep_size.proofs.Words.{counting_weight, scalars_of, grid_of}
use Rattle.ep_size.proofs.MatrixSteps.{counted_of}
use Rattle.ep_size.proofs.matrices.finish_counting.Goals as goal

pub returns : goal.returns
returns c mode env e node =
    let z = scalars_of (grid_of c.args.numbers.now) in
    let y = scalars_of (grid_of c.args.values.now) in
    let x = scalars_of (grid_of c.args.counts.now) in
    c.truth_node.ensures mode env e (counting_weight z y x)
    (c.counting_weight-weight.ensures.weight z y x
    (counted_of c.widths_of.result _ _ z c.widths_of.ensures c.deref.ensures.value c.in-Ok.ensures.scalars)
    (counted_of c.widths_of-2.result _ _ y c.widths_of-2.ensures c.deref-2.ensures.value c.in-Ok-scalars_of.ensures.scalars)
    (counted_of c.widths_of-3.result _ _ x c.widths_of-3.ensures c.deref-3.ensures.value c.in-Ok-scalars_of-2.ensures.scalars)) node
