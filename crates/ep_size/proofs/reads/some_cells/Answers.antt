use Rattle.ep_size.proofs.Words.{subst, sym, map, plain_span, Hulls, cells_left, measured_of}
use Rattle.ep_size.proofs.ReadSteps.{filled_left}
use Rattle.ep_size.proofs.reads.some_cells.Goals as goal

pub returns : goal.returns
returns c =
    let is = map measured_of c.args.indices.now in
    subst (Hulls c.repeated.result) (sym (filled_left is (plain_span c.args.span) c.args.domains.now))
    (c.repeated.ensures (cells_left is c.args.domains.now) c.cells_left.ensures)
