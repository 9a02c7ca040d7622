use Rattle.std.proofs.Common.{sym, subst, ℕ, ℤ, List}
use Rattle.std.specs.Prelude.{map}
use Rattle.ep_flat.specs.Cons as flat
use Rattle.ep_ground.specs.Nodes as nodes
use Rattle.ep_flatten.specs.Saying.{variable_at}
use Rattle.ep_flatten.specs.Tops.{Tells}
use Rattle.ep_flatten.proofs.Sayings as sayings
use Rattle.ep_flatten.proofs.Sayings.{literals, placed_parts}
use Rattle.ep_flatten.proofs.constraints.at_most.Goals as goal

pub returns : goal.returns
returns c =
    subst (λ (x : List ℕ). Tells c.args.places.now (nodes.at_most c.args.parts.now c.args.counts.now c.args.numbers.now) (flat.at_most x c.in_ok-counts.counts.items c.in_ok-numbers.numbers.items)) (sym (c.in_ok-placed.ensures))
    (subst (λ (x : List ℤ). Tells c.args.places.now (nodes.at_most c.args.parts.now c.args.counts.now c.args.numbers.now) (flat.at_most (map (variable_at c.args.places.now) c.args.parts.now) x c.in_ok-numbers.numbers.items)) (sym (c.in_ok-counts.ensures.items))
    (subst (λ (x : List ℤ). Tells c.args.places.now (nodes.at_most c.args.parts.now c.args.counts.now c.args.numbers.now) (flat.at_most (map (variable_at c.args.places.now) c.args.parts.now) c.args.counts.now x)) (sym (c.in_ok-numbers.ensures.items))
    (sayings.says_at_most c.args.places.now c.args.parts.now c.args.counts.now c.args.numbers.now)))
