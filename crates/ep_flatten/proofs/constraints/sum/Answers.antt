use Rattle.std.proofs.Common.{rules, sym, subst, ap, ◌∙◌, ◌≡◌, ℕ, ℤ, List, [], ◌∷◌, ◌++◌, pos, w64, to_z, of_z}
use Rattle.std.proofs.lemmas.Int.{to_z-of_z}
use Rattle.ep_base.specs.declared.operators.CompareOp.{CompareOp}
use Rattle.ep_flat.specs.Cons as flat
use Rattle.ep_ground.specs.Nodes as nodes
use Rattle.ep_flatten.specs.Saying.{SaysOfNode}
use Rattle.ep_flatten.proofs.Sayings as sayings
use Rattle.ep_flatten.proofs.Sayings.{negated_parts, plain}
use Rattle.ep_flatten.proofs.constraints.sum.Goals as goal

pub returns : goal.returns
returns c =
    let last : c.push.new.self.items ≡ c.in_ok-placed.placed.items ++ (pos 1, c.args.variable) ∷ [] = search rules in
    let pushed : c.push.new.self.items ≡ negated_parts c.args.places.now c.args.parts.now ++ (pos 1, c.args.variable) ∷ [] = last ∙ ap (λ (ps : List (ℤ × ℕ)). ps ++ (pos 1, c.args.variable) ∷ []) c.in_ok-placed.ensures in
    subst (λ (x : List (ℤ × ℕ)). SaysOfNode c.args.places.now (nodes.sum c.args.number c.args.parts.now) c.args.variable (plain (flat.linear x CompareOp.Equal (to_z w64 (of_z w64 c.args.number))))) (sym pushed)
    (subst (λ (m : ℤ). SaysOfNode c.args.places.now (nodes.sum c.args.number c.args.parts.now) c.args.variable (plain (flat.linear (negated_parts c.args.places.now c.args.parts.now ++ (pos 1, c.args.variable) ∷ []) CompareOp.Equal m))) (sym (to_z-of_z w64 c.args.number c.ranges.number))
    (sayings.says_sum c.args.places.now c.args.number c.args.parts.now c.args.variable))
