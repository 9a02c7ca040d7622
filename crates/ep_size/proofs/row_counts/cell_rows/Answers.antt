use Rattle.ep_size.proofs.Words.{no_runs, plain_span}
use Rattle.ep_size.proofs.MatrixSteps.{cells_none, cells_some}
use Rattle.ep_size.proofs.row_counts.cell_rows.Goals as goal

pub returns-in-Some : goal.returns-in-Some
returns-in-Some c = cells_some (plain_span c.args.span) c.args.indices.now _ _ c.set_length.result c.in-Some.ensures.cases.0 c.set_length.ensures

pub returns-in-None : goal.returns-in-None
returns-in-None c = cells_none (plain_span c.args.span) c.args.indices.now (no_runs c.args.indices.now c.in-None.ensures.cases)
