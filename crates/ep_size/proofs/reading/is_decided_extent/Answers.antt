use Rattle.ep_size.proofs.ReadSteps.{cells_known, fixed_known, matrix_known, no_parts_known, nothing_known, number_known}
use Rattle.ep_size.proofs.reading.is_decided_extent.Goals as goal

pub returns-in-Number : goal.returns-in-Number
returns-in-Number c mode env e known = number_known mode env e c.args.known.now c.in-Number.field-0 c.in-Number.is known

pub returns-in-Cells : goal.returns-in-Cells
returns-in-Cells c mode env e known = cells_known mode env e c.args.known.now c.in-Cells.field-0 c.in-Cells.field-1 c.in-Cells.is known

pub returns-in-Fixed : goal.returns-in-Fixed
returns-in-Fixed c mode env e known = fixed_known mode env e c.args.known.now c.in-Fixed.field-0 c.in-Fixed.is known

pub returns-in-Nothing : goal.returns-in-Nothing
returns-in-Nothing c mode env e known = nothing_known mode env e c.args.known.now c.in-Nothing.is known

pub returns-in-Matrix : goal.returns-in-Matrix
returns-in-Matrix c mode env e known = matrix_known mode env e c.args.known.now c.in-Matrix.field-0 c.in-Matrix.field-1 c.in-Matrix.is known

pub returns-in-NoParts : goal.returns-in-NoParts
returns-in-NoParts c mode env e known = no_parts_known mode env e c.args.known.now c.in-NoParts.is known
