use Rattle.sat_search.proofs.GoingBack.{filter_contained}
use Rattle.sat_search.proofs.levels.go_back.Goals as goal

pub returns-clause-trail : goal.returns-clause-trail
returns-clause-trail c = rw c.backtrack.ensures.trail (filter_contained _ c.args.state.now.trail)
