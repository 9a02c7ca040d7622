use Rattle.std.proofs.Common.{sym, subst, ℕ}
use Rattle.ep_flat.specs.Cons as flat
use Rattle.ep_ground.specs.Nodes as nodes
use Rattle.ep_flatten.specs.Saying.{SaysOfNode}
use Rattle.ep_flatten.proofs.Sayings as sayings
use Rattle.ep_flatten.proofs.Sayings.{literals, placed_parts, plain, told}
use Rattle.ep_flatten.proofs.constraints.absolute.Goals as goal

pub returns : goal.returns
returns c =
    subst (λ (x : ℕ). SaysOfNode c.args.places.now (nodes.absolute c.args.part) c.args.variable (plain (flat.absolute c.args.variable x))) (sym (c.place_at.ensures))
    (sayings.says_absolute c.args.places.now c.args.part c.args.variable)
