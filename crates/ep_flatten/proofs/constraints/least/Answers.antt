use Rattle.std.proofs.Common.{sym, subst, ℕ, List}
use Rattle.ep_flat.specs.Cons as flat
use Rattle.ep_ground.specs.Nodes as nodes
use Rattle.ep_flatten.specs.Saying.{SaysOfNode}
use Rattle.ep_flatten.proofs.Sayings as sayings
use Rattle.ep_flatten.proofs.Sayings.{literals, placed_parts, plain, told}
use Rattle.ep_flatten.proofs.constraints.least.Goals as goal

pub returns : goal.returns
returns c =
    subst (λ (x : List ℕ). SaysOfNode c.args.places.now (nodes.least c.args.parts.now) c.args.variable (plain (flat.least c.args.variable x))) (sym (c.in_ok-placed.ensures))
    (sayings.says_least c.args.places.now c.args.parts.now c.args.variable c.requires)
