use Rattle.std.proofs.Common.{sym, subst, ℕ, ℤ, List}
use Rattle.ep_flat.specs.Cons as flat
use Rattle.ep_ground.specs.Nodes as nodes
use Rattle.ep_flatten.specs.Saying.{variable_at}
use Rattle.ep_flatten.specs.Tops.{Tells}
use Rattle.ep_flatten.proofs.Sayings as sayings
use Rattle.ep_flatten.proofs.Sayings.{literals, placed_parts}
use Rattle.ep_flatten.proofs.constraints.member.Goals as goal

pub returns : goal.returns
returns c =
    subst (λ (x : ℕ). Tells c.args.places.now (nodes.member c.args.part c.args.numbers.now) (flat.member x c.in_ok-set.set)) (sym (c.place_at.ensures))
    (subst (λ (x : List ℤ). Tells c.args.places.now (nodes.member c.args.part c.args.numbers.now) (flat.member (variable_at c.args.places.now c.args.part) x)) (sym (c.in_ok-set.ensures))
    (sayings.says_member c.args.places.now c.args.part c.args.numbers.now))
