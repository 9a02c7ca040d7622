use Rattle.std.proofs.Common.{sym, subst, ℕ}
use Rattle.ep_flat.specs.Cons as flat
use Rattle.ep_ground.specs.Nodes as nodes
use Rattle.ep_flatten.specs.Saying.{SaysOfNode}
use Rattle.ep_flatten.proofs.Sayings as sayings
use Rattle.ep_flatten.proofs.Sayings.{literals, placed_parts, plain, told}
use Rattle.ep_flatten.proofs.constraints.power.Goals as goal

pub returns : goal.returns
returns c =
    subst (λ (x : ℕ). SaysOfNode c.args.places.now (nodes.power c.args.part c.args.exponent) c.args.variable (plain (flat.power c.args.variable x c.args.exponent))) (sym (c.place_at.ensures))
    (sayings.says_power c.args.places.now c.args.part c.args.exponent c.args.variable)
