use Rattle.std.proofs.Common.{ℕ, ◌<◌, length, subst, sym}
use Rattle.std.specs.List.{All}
use Rattle.ep_defined.proofs.Ending.{clauses_below, objective_below}
use Rattle.ep_ground.specs.GroundViews.{plain_ground}
use Rattle.ep_defined.proofs.clauses.clauses_of.Goals as goal

pub add_clauses-requires : goal.add_clauses-requires
add_clauses-requires c =
    subst (All (λ (t : ℕ). t < length c.args.images.now)) (sym c.deref.ensures.value) (clauses_below (length c.args.images.now) (plain_ground c.args.g.now) c.requires)

pub add_objective_guard-requires : goal.add_objective_guard-requires
add_objective_guard-requires c = objective_below (length c.args.images.now) (plain_ground c.args.g.now) c.requires
