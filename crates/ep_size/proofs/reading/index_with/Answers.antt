use Rattle.ep_size.proofs.ReadSteps.{index_cells, index_fixed, index_matrix, index_no_parts, index_nothing, index_number}
use Rattle.ep_size.proofs.reading.index_with.Goals as goal

pub returns-in-Number : goal.returns-in-Number
returns-in-Number c mode env e known = index_number mode env e c.args.known.now c.number_span-span.result c.in-Number.field-0 c.in-Number.is known c.number_span-span.ensures

pub returns-in-Cells : goal.returns-in-Cells
returns-in-Cells c mode env e known =
    index_cells mode env e c.args.known.now c.number_span-span.result c.in-Cells.field-0 c.in-Cells.field-1 c.in-Cells.is known c.number_span-span.ensures

pub returns-in-Fixed : goal.returns-in-Fixed
returns-in-Fixed c mode env e known = index_fixed mode env e c.args.known.now c.in-Fixed.held c.held_number.result c.in-Fixed.is known c.held_number.ensures

pub returns-in-Nothing : goal.returns-in-Nothing
returns-in-Nothing c mode env e known = index_nothing mode env e c.args.known.now c.in-Nothing.is known

pub returns-in-Matrix : goal.returns-in-Matrix
returns-in-Matrix c mode env e known =
    index_matrix mode env e c.args.known.now c.number_span-span.result c.in-Matrix.field-0 c.in-Matrix.field-1 c.in-Matrix.is known c.number_span-span.ensures

pub returns-in-NoParts : goal.returns-in-NoParts
returns-in-NoParts c mode env e known = index_no_parts mode env e c.args.known.now c.in-NoParts.is known
