use Rattle.sat_search.proofs.GoingBack.{open_below}
use Rattle.sat_search.proofs.adding.give.Goals as goal

pub add-requires-clause-level : goal.add-requires-clause-level
add-requires-clause-level c = open_below c.args.state.now.trail c.go_back.new.state.trail c.second_level-level.result c.args.clause c.go_back.ensures.trail c.go_back.ensures.level c.second_level-level.ensures
