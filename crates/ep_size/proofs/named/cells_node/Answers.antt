use Rattle.ep_size.proofs.named.cells_node.Goals as goal

pub returns-in-Ok : goal.returns-in-Ok
returns-in-Ok c mode env name p t h = c.cells_with.ensures mode env name p t h c.in-Ok.ensures

pub returns-in-Err : goal.returns-in-Err
returns-in-Err c mode env name p t h = tt
