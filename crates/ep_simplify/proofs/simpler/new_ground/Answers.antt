use Rattle.std.proofs.Common.{ℕ, ◌<◌, ◌∙◌, ap, length, map, refl, subst, sym}
use Rattle.std.specs.List.{All}
use Rattle.ep_simplify.specs.Standing.{standing_at}
use Rattle.ep_simplify.proofs.Simplified.{clauses_below, goals_below}
use Rattle.ep_ground.specs.GroundViews.{plain_ground}
use Rattle.ep_simplify.proofs.simpler.new_ground.Goals as goal

pub all-requires : goal.all-requires
all-requires c =
    subst (All (λ (t : ℕ). t < length c.args.images.now)) (sym c.deref.ensures.value) (clauses_below (length c.args.images.now) (plain_ground c.args.g) c.requires)

pub objective_of-objective-requires : goal.objective_of-objective-requires
objective_of-objective-requires c = goals_below (length c.args.images.now) (plain_ground c.args.g) c.requires

pub returns-clause-nodes : goal.returns-clause-nodes
returns-clause-nodes c = refl

pub returns-clause-simplified : goal.returns-clause-simplified
returns-clause-simplified c = record {
  cells = refl;
  clauses = c.in_ok-clauses.ensures ∙ ap (map (standing_at c.args.images.now)) c.deref.ensures.value;
  objective = c.objective_of-objective.ensures;
}
