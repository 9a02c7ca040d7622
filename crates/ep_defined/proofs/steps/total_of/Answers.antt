use Rattle.std.proofs.Common.{ℕ, ◌<◌, length, subst, sym}
use Rattle.std.specs.List.{All}
use Rattle.ep_defined.specs.Growing.{IsSafeOver}
use Rattle.ep_ground.specs.Nodes.{GroundNode, parts_of}
use Rattle.ep_ground.specs.NodeViews.{plain_node}
use Rattle.ep_defined.proofs.Growth.{over_safe, parts_stand}
use Rattle.ep_defined.proofs.steps.total_of.Goals as goal

pub taken-requires-clause-parts : goal.taken-requires-clause-parts
taken-requires-clause-parts c =
    subst (λ (n : GroundNode). All (λ (p : ℕ). p < length c.args.arena.now) (parts_of n)) (sym c.in_ok-safe.ensures) (parts_stand c.args.arena.now c.args.images.now (plain_node c.args.node.now) c.requires.stand c.requires.parts)

pub returns-clause-grows : goal.returns-clause-grows
returns-clause-grows c =
    c.in_ok-total.ensures.grows (plain_node c.args.node.now) (λ cells stands. subst (IsSafeOver cells) (sym c.in_ok-safe.ensures) (over_safe cells c.args.images.now (plain_node c.args.node.now) c.requires.whole stands))
