use Rattle.std.proofs.Common.{sym, subst, ℕ, ℤ, List}
use Rattle.std.specs.Prelude.{map}
use Rattle.ep_flat.specs.Cons as flat
use Rattle.ep_ground.specs.Nodes as nodes
use Rattle.ep_flatten.specs.Saying.{SaysOfNode, variable_at}
use Rattle.ep_flatten.proofs.Sayings as sayings
use Rattle.ep_flatten.proofs.Sayings.{literals, placed_parts, plain, told}
use Rattle.ep_flatten.proofs.constraints.pick.Goals as goal

pub returns : goal.returns
returns c =
    subst (λ (x : List ℕ). SaysOfNode c.args.places.now (nodes.safe_pick c.args.parts.now c.args.keys.now c.args.indices.now) c.args.variable (plain (flat.element c.args.variable x c.in_ok-keys.keys.items c.in_ok-at.at.items))) (sym (c.in_ok-placed.ensures))
    (subst (λ (x : List (List ℤ)). SaysOfNode c.args.places.now (nodes.safe_pick c.args.parts.now c.args.keys.now c.args.indices.now) c.args.variable (plain (flat.element c.args.variable (map (variable_at c.args.places.now) c.args.parts.now) x c.in_ok-at.at.items))) (sym (c.in_ok-keys.ensures))
    (subst (λ (x : List ℕ). SaysOfNode c.args.places.now (nodes.safe_pick c.args.parts.now c.args.keys.now c.args.indices.now) c.args.variable (plain (flat.element c.args.variable (map (variable_at c.args.places.now) c.args.parts.now) c.args.keys.now x))) (sym (c.in_ok-at.ensures))
    (sayings.says_pick c.args.places.now c.args.parts.now c.args.keys.now c.args.indices.now c.args.variable)))
