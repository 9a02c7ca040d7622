use Rattle.std.proofs.Common.{sym, subst, ℕ, List}
use Rattle.ep_flat.specs.Cons as flat
use Rattle.ep_ground.specs.Nodes as nodes
use Rattle.ep_flatten.specs.Tops.{Tells}
use Rattle.ep_flatten.proofs.Sayings as sayings
use Rattle.ep_flatten.proofs.Sayings.{literals, placed_parts}
use Rattle.ep_flatten.proofs.constraints.all_of.Goals as goal

pub returns : goal.returns
returns c =
    subst (λ (x : List ℕ). Tells c.args.places.now (nodes.all_of c.args.parts.now) (flat.all_of x)) (sym (c.in_ok-placed.ensures))
    (sayings.says_all c.args.places.now c.args.parts.now)
