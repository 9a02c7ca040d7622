use Rattle.ep_size.proofs.Words.{refl, map, grid_of, measured_of}
use Rattle.ep_size.proofs.RemainingSteps.{gives_fixed}
use Rattle.ep_size.proofs.ReadSteps.{cells_left_of, no_parts_left_of, nothing_left_of, number_left_of}
use Rattle.ep_size.proofs.reads.left_of.Goals as goal

pub returns-in-Number-clause-left : goal.returns-in-Number-clause-left
returns-in-Number-clause-left c =
    number_left_of c.number_left.result (map measured_of c.args.indices.now) c.args.known.now c.in-Number.span c.in-Number.is c.number_left.ensures

pub returns-in-Cells-clause-left : goal.returns-in-Cells-clause-left
unfolding grid_of
returns-in-Cells-clause-left c =
    cells_left_of c.some_cells.result (map measured_of c.args.indices.now) c.args.known.now c.in-Cells.span c.in-Cells.domains c.in-Cells.domains.now c.in-Cells.is refl
    c.some_cells.ensures

pub returns-in-Nothing-clause-left : goal.returns-in-Nothing-clause-left
returns-in-Nothing-clause-left c =
    nothing_left_of c.number_left-in-Nothing.result (map measured_of c.args.indices.now) c.args.known.now c.undefined_number.result c.in-Nothing.is
    c.undefined_number.ensures c.number_left-in-Nothing.ensures

pub returns-in-Fixed-clause-left : goal.returns-in-Fixed-clause-left
returns-in-Fixed-clause-left c =
    gives_fixed c.held_left.result (map measured_of c.args.indices.now) c.args.known.now c.in-Fixed.held c.in-Fixed.is c.held_left.ensures.left

pub returns-in-NoParts-clause-left : goal.returns-in-NoParts-clause-left
returns-in-NoParts-clause-left c =
    no_parts_left_of c.new.result (map measured_of c.args.indices.now) c.args.known.now c.in-NoParts.is c.new.ensures
