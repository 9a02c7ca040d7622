use Rattle.sat_state.proofs.Walking.{some_left, rest_seen}
use Rattle.sat_state.proofs.watches.Watches.keep.Goals as goal

pub returns-clause-waiting : goal.returns-clause-waiting
returns-clause-waiting c = rest_seen c.self.inside c.args.self.now c.self.view_is c.self.invariant (some_left c.self.inside c.args.self.now c.self.view_is c.requires)
