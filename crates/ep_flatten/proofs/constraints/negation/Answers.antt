use Rattle.std.proofs.Common.{rules, sym, subst, ap, ◌∙◌, ◌≡◌, ℕ, Bool, false, List, [], ◌∷◌}
use Rattle.ep_flat.specs.Cons as flat
use Rattle.ep_ground.specs.Nodes as nodes
use Rattle.ep_flatten.specs.Saying.{variable_at}
use Rattle.ep_flatten.specs.Tops.{Tells}
use Rattle.ep_flatten.proofs.Sayings as sayings
use Rattle.ep_flatten.proofs.Sayings.{literals, placed_parts}
use Rattle.ep_flatten.proofs.constraints.negation.Goals as goal

pub returns : goal.returns
returns c =
    let one : c.push.new.self.items ≡ (false, c.place_at.result) ∷ [] = search rules in
    let pushed : c.push.new.self.items ≡ (false, variable_at c.args.places.now c.args.part) ∷ [] = one ∙ ap (λ (p : ℕ). (false, p) ∷ []) c.place_at.ensures in
    subst (λ (x : List (Bool × ℕ)). Tells c.args.places.now (nodes.negation c.args.part) (flat.clause x)) (sym (pushed))
    (sayings.says_negation c.args.places.now c.args.part)
