use Rattle.sat_search.proofs.GoingBack.{open_below}
use Rattle.sat_search.proofs.Known.{known_push}
use Rattle.sat_search.proofs.search.append.Goals as goal

pub add-requires : goal.add-requires
add-requires c = open_below c.args.state.now.trail c.go_back.new.state.trail c.next_level-level.result c.args.clause c.go_back.ensures.trail c.go_back.ensures.level c.next_level-level.ensures

pub returns-clause-known : goal.returns-clause-known
returns-clause-known c =
    known_push c.args.vars c.args.state.now c.go_back.new.state c.add.new.self c.args.clause c.requires.known c.requires.range c.go_back.ensures.clauses c.go_back.ensures.vars
    c.in_ok-add.ensures.clauses c.in_ok-add.ensures.vars
