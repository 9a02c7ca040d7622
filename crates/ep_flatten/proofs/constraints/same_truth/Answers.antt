use Rattle.std.proofs.Common.{sym, subst, ℕ}
use Rattle.ep_flat.specs.Cons as flat
use Rattle.ep_ground.specs.Nodes as nodes
use Rattle.ep_flatten.specs.Saying.{variable_at}
use Rattle.ep_flatten.specs.Tops.{Tells}
use Rattle.ep_flatten.proofs.Sayings as sayings
use Rattle.ep_flatten.proofs.Sayings.{literals, placed_parts}
use Rattle.ep_flatten.proofs.constraints.same_truth.Goals as goal

pub returns : goal.returns
returns c =
    subst (λ (x : ℕ). Tells c.args.places.now (nodes.same_truth c.args.one c.args.other) (flat.same_truth x c.place_at-2.result)) (sym (c.place_at.ensures))
    (subst (λ (x : ℕ). Tells c.args.places.now (nodes.same_truth c.args.one c.args.other) (flat.same_truth (variable_at c.args.places.now c.args.one) x)) (sym (c.place_at-2.ensures))
    (sayings.says_same c.args.places.now c.args.one c.args.other))
