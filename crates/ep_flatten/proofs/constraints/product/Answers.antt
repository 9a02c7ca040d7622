use Rattle.std.proofs.Common.{sym, subst, ℕ}
use Rattle.ep_flat.specs.Cons as flat
use Rattle.ep_ground.specs.Nodes as nodes
use Rattle.ep_flatten.specs.Saying.{SaysOfNode, variable_at}
use Rattle.ep_flatten.proofs.Sayings as sayings
use Rattle.ep_flatten.proofs.Sayings.{literals, placed_parts, plain, told}
use Rattle.ep_flatten.proofs.constraints.product.Goals as goal

pub returns : goal.returns
returns c =
    subst (λ (x : ℕ). SaysOfNode c.args.places.now (nodes.product c.args.one c.args.other) c.args.variable (plain (flat.product c.args.variable x c.place_at-2.result))) (sym (c.place_at.ensures))
    (subst (λ (x : ℕ). SaysOfNode c.args.places.now (nodes.product c.args.one c.args.other) c.args.variable (plain (flat.product c.args.variable (variable_at c.args.places.now c.args.one) x))) (sym (c.place_at-2.ensures))
    (sayings.says_product c.args.places.now c.args.one c.args.other c.args.variable))
