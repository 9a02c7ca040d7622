use Rattle.ep_solve_laws.proofs.Noted.{stands_readable}
use Rattle.ep_solve_laws.proofs.notes_can_be_read.Goals as goal

pub returns : goal.returns
returns c = stands_readable c.bound_variables_can_be_written.ensures.domains c.bound_variables_can_be_written.ensures.names
