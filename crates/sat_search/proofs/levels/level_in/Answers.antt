use Rattle.std.proofs.Common.{sym}
use Rattle.sat_search.proofs.GoingBack.{level_from}
use Rattle.sat_search.proofs.levels.level_in.Goals as goal

pub returns-in-Some : goal.returns-in-Some
returns-in-Some c = level_from c.args.state.now.clauses c.args.state.now.trail c.args.var c.in-Some.level c.trail-trail.ensures.grounded (sym c.in-Some.ensures)
