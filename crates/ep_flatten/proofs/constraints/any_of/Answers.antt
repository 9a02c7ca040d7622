use Rattle.std.proofs.Common.{sym, subst, ℕ, Bool, List}
use Rattle.ep_flat.specs.Cons as flat
use Rattle.ep_ground.specs.Nodes as nodes
use Rattle.ep_flatten.specs.Tops.{Tells}
use Rattle.ep_flatten.proofs.Sayings as sayings
use Rattle.ep_flatten.proofs.Sayings.{literals, placed_parts}
use Rattle.ep_flatten.proofs.constraints.any_of.Goals as goal

pub returns : goal.returns
returns c =
    subst (λ (x : List (Bool × ℕ)). Tells c.args.places.now (nodes.any_of c.args.parts.now) (flat.clause x)) (sym (c.in_ok-literals.ensures))
    (sayings.says_any c.args.places.now c.args.parts.now)
