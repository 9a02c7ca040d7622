use Rattle.std.proofs.Common.{rules, sym, subst, ap, ◌∙◌, ◌≡◌, ℕ, ℤ, List, [], ◌∷◌, pos, negsuc}
use Rattle.ep_flat.specs.Cons as flat
use Rattle.ep_ground.specs.Nodes as nodes
use Rattle.ep_flatten.specs.Saying.{variable_at}
use Rattle.ep_flatten.specs.Tops.{Tells}
use Rattle.ep_flatten.proofs.Sayings as sayings
use Rattle.ep_flatten.proofs.Sayings.{literals, placed_parts}
use Rattle.ep_flatten.proofs.constraints.compare.Goals as goal

pub returns : goal.returns
returns c =
    let both : c.push-2.new.self.items ≡ (pos 1, c.place_at.result) ∷ (negsuc 0, c.place_at-2.result) ∷ [] = search rules in
    let pushed : c.push-2.new.self.items ≡ (pos 1, variable_at c.args.places.now c.args.one) ∷ (negsuc 0, variable_at c.args.places.now c.args.other) ∷ [] =
    both ∙ ap (λ (p : ℕ). (pos 1, p) ∷ (negsuc 0, c.place_at-2.result) ∷ []) c.place_at.ensures ∙ ap (λ (q : ℕ). (pos 1, variable_at c.args.places.now c.args.one) ∷ (negsuc 0, q) ∷ []) c.place_at-2.ensures in
    subst (λ (x : List (ℤ × ℕ)). Tells c.args.places.now (nodes.compare c.args.op c.args.one c.args.other) (flat.linear x c.args.op (pos 0))) (sym (pushed))
    (sayings.says_compare c.args.places.now c.args.op c.args.one c.args.other)
