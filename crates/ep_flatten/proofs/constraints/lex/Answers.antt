use Rattle.std.proofs.Common.{sym, subst, ℕ, List}
use Rattle.std.specs.Prelude.{map}
use Rattle.ep_flat.specs.Cons as flat
use Rattle.ep_ground.specs.Nodes as nodes
use Rattle.ep_flatten.specs.Saying.{variable_at}
use Rattle.ep_flatten.specs.Tops.{Tells}
use Rattle.ep_flatten.proofs.Sayings as sayings
use Rattle.ep_flatten.proofs.Sayings.{literals, placed_parts}
use Rattle.ep_flatten.proofs.constraints.lex.Goals as goal

pub returns : goal.returns
returns c =
    subst (λ (x : List ℕ). Tells c.args.places.now (nodes.lex c.args.op c.args.parts.now c.args.others.now) (flat.lex c.args.op x c.in_ok-behind.behind.items)) (sym (c.in_ok-placed.ensures))
    (subst (λ (x : List ℕ). Tells c.args.places.now (nodes.lex c.args.op c.args.parts.now c.args.others.now) (flat.lex c.args.op (map (variable_at c.args.places.now) c.args.parts.now) x)) (sym (c.in_ok-behind.ensures))
    (sayings.says_lex c.args.places.now c.args.op c.args.parts.now c.args.others.now))
