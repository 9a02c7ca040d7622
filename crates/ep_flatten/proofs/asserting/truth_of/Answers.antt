use Rattle.std.proofs.Common.{rules, ap, ◌∙◌, ◌≡◌, ℕ, Bool, true, List, [], ◌∷◌}
use Rattle.ep_flat.specs.Cons as flat
use Rattle.ep_flatten.proofs.Sayings.{plain}
use Rattle.ep_flatten.proofs.asserting.truth_of.Goals as goal

pub returns : goal.returns
returns c =
    let one : c.push.new.self.items ≡ (true, c.place_at.result) ∷ [] = search rules in
    ap (λ (ls : List (Bool × ℕ)). plain (flat.clause ls)) (one ∙ ap (λ (p : ℕ). (true, p) ∷ []) c.place_at.ensures)
