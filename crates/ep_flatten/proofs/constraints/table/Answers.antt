use Rattle.std.proofs.Common.{sym, subst, ℕ, ℤ, List}
use Rattle.std.specs.Prelude.{map}
use Rattle.ep_flat.specs.Cons as flat
use Rattle.ep_ground.specs.Nodes as nodes
use Rattle.ep_flatten.specs.Saying.{variable_at}
use Rattle.ep_flatten.specs.Tops.{Tells}
use Rattle.ep_flatten.proofs.Sayings as sayings
use Rattle.ep_flatten.proofs.Sayings.{literals, placed_parts}
use Rattle.ep_flatten.proofs.constraints.table.Goals as goal

pub returns : goal.returns
returns c =
    subst (λ (x : List ℕ). Tells c.args.places.now (nodes.table c.args.parts.now c.args.rows.now) (flat.table x c.in_ok-rows.rows.items)) (sym (c.in_ok-placed.ensures))
    (subst (λ (x : List (List ℤ)). Tells c.args.places.now (nodes.table c.args.parts.now c.args.rows.now) (flat.table (map (variable_at c.args.places.now) c.args.parts.now) x)) (sym (c.in_ok-rows.ensures))
    (sayings.says_table c.args.places.now c.args.parts.now c.args.rows.now))
