use Rattle.sat_search.proofs.Continued.{sound_givens}
use Rattle.sat_search.proofs.solver.Solver.new.Goals as goal

pub returns-in_err-state-clause-sound : goal.returns-in_err-state-clause-sound
returns-in_err-state-clause-sound c = sound_givens c.args.log.now.events

pub returns-clause-sound : goal.returns-clause-sound
returns-clause-sound c = sound_givens c.args.log.now.events
