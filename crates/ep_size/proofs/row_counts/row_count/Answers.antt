use Rattle.ep_size.proofs.Words.{ap, sym, ◌∙◌, length, fixed_span, listed_values, rows_of, None, grid_of, plain_span, capped}
use Rattle.ep_size.proofs.ExtentViews.{grid_of-matrix}
use Rattle.ep_size.proofs.MatrixSteps.{known_none, parts_len, parts_rows}
use Rattle.ep_size.proofs.row_counts.row_count.Goals as goal

pub returns-in-Number : goal.returns-in-Number
unfolding grid_of
returns-in-Number c = known_none (plain_span c.in-Number.field-0) (grid_of c.args.extent.now) (ap grid_of c.in-Number.is)

pub returns-in-Cells : goal.returns-in-Cells
unfolding grid_of
returns-in-Cells c = c.cell_rows.ensures ∙ ap (λ x. capped (length (rows_of (grid_of x)))) (sym c.in-Cells.is)

pub returns-in-Fixed : goal.returns-in-Fixed
unfolding grid_of
returns-in-Fixed c = c.held_rows.ensures ∙ ap (λ x. capped (length (rows_of (grid_of x)))) (sym c.in-Fixed.is)

pub returns-in-Nothing : goal.returns-in-Nothing
unfolding grid_of
returns-in-Nothing c = known_none (fixed_span None) (grid_of c.args.extent.now) (ap grid_of c.in-Nothing.is)

pub returns-in-Matrix : goal.returns-in-Matrix
returns-in-Matrix c =
    parts_rows (grid_of c.args.extent.now) c.in-Matrix.field-0.items c.in-Matrix.parts.items c.told.result
    (ap grid_of c.in-Matrix.is ∙ grid_of-matrix c.in-Matrix.field-0 c.in-Matrix.parts) (c.told.ensures ∙ ap capped (c.len.ensures ∙ parts_len c.in-Matrix.parts))

pub returns-in-NoParts : goal.returns-in-NoParts
unfolding grid_of rows_of listed_values
returns-in-NoParts c = ap (λ x. capped (length (rows_of (grid_of x)))) (sym c.in-NoParts.is)
