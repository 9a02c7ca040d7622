use Rattle.ep_size.proofs.sums.summed_node.Goals as goal

pub returns : goal.returns
returns c mode env e spans h node = c.number_node.ensures mode env e _ _ (c.weight.ensures.weight spans h) (c.span.ensures spans h) node
