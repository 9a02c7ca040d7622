use Rattle.std.proofs.Common.{length, refl}
use Rattle.ep_defined.proofs.Ending.{objective_below}
use Rattle.ep_ground.specs.GroundViews.{plain_ground}
use Rattle.ep_defined.proofs.remove.new_ground.Goals as goal

pub objective_of-objective-requires : goal.objective_of-objective-requires
objective_of-objective-requires c = objective_below (length c.args.images.now) (plain_ground c.args.g) c.requires

pub returns-clause-nodes : goal.returns-clause-nodes
returns-clause-nodes c = refl

pub returns-clause-removed : goal.returns-clause-removed
returns-clause-removed c = record {
  cells = refl;
  clauses = c.in_ok-clauses.ensures;
  objective = c.objective_of-objective.ensures;
}
