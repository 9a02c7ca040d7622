use Rattle.std.proofs.Common.{subst, sym, ℕ, ℤ, List}
use Rattle.std.specs.Prelude.{map}
use Rattle.std.specs.List.{All}
use Rattle.ep_base.specs.Reads.{IsWithinNumbers}
use Rattle.ep_ground.specs.Nodes.{coefficients_of}
use Rattle.ep_ground.specs.declared.nodes.Node.{Node}
use Rattle.ep_flat.specs.FlatViews.{plain_kind}
use Rattle.ep_ground.specs.NodeViews.{plain_node}
use Rattle.ep_flatten.proofs.NodeKinds.{truth_left}
use Rattle.ep_flatten.proofs.Sayings as sayings
use Rattle.ep_flatten.proofs.constraints.constraint.Goals as goal

pub returns-in_ok-kind-in_default : goal.returns-in_ok-kind-in_default
returns-in_ok-kind-in_default c = sayings.says_truth c.args.places.now (plain_node c.args.node.now) c.args.variable (plain_kind c.in_ok-kind-in_default.kind) c.in_ok-kind-in_default.ensures

pub sum-requires : goal.sum-requires
unfolding coefficients_of
sum-requires c =
    sayings.small_parts c.deref.result.now
    (subst (λ (ps : List (ℤ × ℕ)). All IsWithinNumbers (map (λ p. p.0) ps)) (sym c.deref.ensures.value)
    (subst (λ (node : Node). All IsWithinNumbers (coefficients_of (plain_node node))) c.in-Add.is c.requires.small))

pub truth_kind-requires : goal.truth_kind-requires
truth_kind-requires c =
    truth_left c.args.node.now c.requires.operation c.in_default.not-Add c.in_default.not-Mul c.in_default.not-Pow c.in_default.not-Abs c.in_default.not-Min c.in_default.not-Max c.in_default.not-SafeDiv c.in_default.not-SafeMod c.in_default.not-SafePick
