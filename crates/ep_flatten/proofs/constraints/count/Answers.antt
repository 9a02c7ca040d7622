use Rattle.std.proofs.Common.{sym, subst, ℕ, ℤ, List}
use Rattle.std.specs.Prelude.{map}
use Rattle.ep_flat.specs.Cons as flat
use Rattle.ep_ground.specs.Nodes as nodes
use Rattle.ep_flatten.specs.Saying.{variable_at}
use Rattle.ep_flatten.specs.Tops.{Tells}
use Rattle.ep_flatten.proofs.Sayings as sayings
use Rattle.ep_flatten.proofs.Sayings.{literals, placed_parts}
use Rattle.ep_flatten.proofs.constraints.count.Goals as goal

pub returns : goal.returns
returns c =
    subst (λ (x : List ℕ). Tells c.args.places.now (nodes.counts c.args.parts.now c.args.numbers.now c.args.counts.now) (flat.counts x c.in_ok-numbers.numbers.items c.in_ok-often.often.items)) (sym (c.in_ok-placed.ensures))
    (subst (λ (x : List ℤ). Tells c.args.places.now (nodes.counts c.args.parts.now c.args.numbers.now c.args.counts.now) (flat.counts (map (variable_at c.args.places.now) c.args.parts.now) x c.in_ok-often.often.items)) (sym (c.in_ok-numbers.ensures.items))
    (subst (λ (x : List ℕ). Tells c.args.places.now (nodes.counts c.args.parts.now c.args.numbers.now c.args.counts.now) (flat.counts (map (variable_at c.args.places.now) c.args.parts.now) c.args.numbers.now x)) (sym (c.in_ok-often.ensures))
    (sayings.says_counts c.args.places.now c.args.parts.now c.args.numbers.now c.args.counts.now)))
