-- In an arena equal unfolded trees are equal terms.
use Rattle.std.proofs.Common.{◌≡◌, ℕ, ℤ, List, [], ◌∷◌, Some, refl, ap, ◌∙◌, arith}
use Rattle.std.specs.Prelude.{map}
use Rattle.std.specs.List.{Contains}
use Rattle.std.proofs.lemmas.List.Elements.{Contains-append_left, Contains-append_right}
use Rattle.ep_ground.specs.Nodes.{GroundNode, constant, undefined, cell, sum, product, quotient, remainder, power, absolute, least, greatest, pick, whole, safe_quotient, safe_remainder, safe_pick, compare, lex, member, negation, all_of, any_of, same_truth, all_different, counts, at_least, at_most, table, parts_of}
use Rattle.ep_ground.specs.SameTrees.{SameTree, same_tree, with_parts}
use Rattle.ep_ground.specs.Terms.{IsArena}

terms_same : (f g : ℕ → ℕ) (ts : List ℕ) → ((part : ℕ) → Contains ts part → f part ≡ g part) → map f ts ≡ map g ts
terms_same f g [] same = refl
terms_same f g (t ∷ ts) same =
    ap (λ x. x ∷ map f ts) (same t (0, omega arith, refl)) ∙ ap (λ xs. g t ∷ xs) (terms_same f g ts (λ p found. same p (Contains-append_right (t ∷ []) ts p found)))

weighed_same : (f g : ℕ → ℕ) (parts : List (ℤ × ℕ)) → ((part : ℕ) → Contains (map (λ p. p.1) parts) part → f part ≡ g part) → map {B = ℤ × ℕ} (λ p. (p.0, f p.1)) parts ≡ map {B = ℤ × ℕ} (λ p. (p.0, g p.1)) parts
weighed_same f g [] same = refl
weighed_same f g (q ∷ parts) same =
    ap (λ x. (q.0, x) ∷ map {B = ℤ × ℕ} (λ p. (p.0, f p.1)) parts) (same q.1 (0, omega arith, refl))
    ∙ ap (λ ps. (q.0, g q.1) ∷ ps) (weighed_same f g parts (λ p found. same p (Contains-append_right (q.1 ∷ []) (map (λ r. r.1) parts) p found)))

-- a node is the same with equal terms as its parts
pub with_same : (node : GroundNode) (f g : ℕ → ℕ) → ((part : ℕ) → Contains (parts_of node) part → f part ≡ g part) → with_parts f node ≡ with_parts g node
unfolding with_parts parts_of
with_same (constant n) f g same = refl
with_same undefined f g same = refl
with_same (cell k) f g same = refl
with_same (sum c parts) f g same = ap (λ ps. sum c ps) (weighed_same f g parts same)
with_same (product a b) f g same = ap (λ x. product x (f b)) (same a (0, omega arith, refl)) ∙ ap (λ y. product (g a) y) (same b (1, omega arith, refl))
with_same (quotient a b) f g same = ap (λ x. quotient x (f b)) (same a (0, omega arith, refl)) ∙ ap (λ y. quotient (g a) y) (same b (1, omega arith, refl))
with_same (remainder a b) f g same = ap (λ x. remainder x (f b)) (same a (0, omega arith, refl)) ∙ ap (λ y. remainder (g a) y) (same b (1, omega arith, refl))
with_same (power a n) f g same = ap (λ x. power x n) (same a (0, omega arith, refl))
with_same (absolute a) f g same = ap absolute (same a (0, omega arith, refl))
with_same (least ts) f g same = ap least (terms_same f g ts same)
with_same (greatest ts) f g same = ap greatest (terms_same f g ts same)
with_same (pick ts keys indices) f g same = ap (λ xs. pick xs keys (map f indices)) (terms_same f g ts (λ p found. same p (Contains-append_left ts indices p found)))
    ∙ ap (λ ys. pick (map g ts) keys ys) (terms_same f g indices (λ p found. same p (Contains-append_right ts indices p found)))
with_same (whole a ts) f g same = ap (λ x. whole x (map f ts)) (same a (0, omega arith, refl)) ∙ ap (λ xs. whole (g a) xs) (terms_same f g ts (λ p found. same p (Contains-append_right (a ∷ []) ts p found)))
with_same (safe_quotient a b) f g same = ap (λ x. safe_quotient x (f b)) (same a (0, omega arith, refl)) ∙ ap (λ y. safe_quotient (g a) y) (same b (1, omega arith, refl))
with_same (safe_remainder a b) f g same = ap (λ x. safe_remainder x (f b)) (same a (0, omega arith, refl)) ∙ ap (λ y. safe_remainder (g a) y) (same b (1, omega arith, refl))
with_same (safe_pick ts keys indices) f g same = ap (λ xs. safe_pick xs keys (map f indices)) (terms_same f g ts (λ p found. same p (Contains-append_left ts indices p found)))
    ∙ ap (λ ys. safe_pick (map g ts) keys ys) (terms_same f g indices (λ p found. same p (Contains-append_right ts indices p found)))
with_same (compare op a b) f g same = ap (λ x. compare op x (f b)) (same a (0, omega arith, refl)) ∙ ap (λ y. compare op (g a) y) (same b (1, omega arith, refl))
with_same (lex op ts us) f g same = ap (λ xs. lex op xs (map f us)) (terms_same f g ts (λ p found. same p (Contains-append_left ts us p found)))
    ∙ ap (λ ys. lex op (map g ts) ys) (terms_same f g us (λ p found. same p (Contains-append_right ts us p found)))
with_same (member a ns) f g same = ap (λ x. member x ns) (same a (0, omega arith, refl))
with_same (negation a) f g same = ap negation (same a (0, omega arith, refl))
with_same (all_of ts) f g same = ap all_of (terms_same f g ts same)
with_same (any_of ts) f g same = ap any_of (terms_same f g ts same)
with_same (same_truth a b) f g same = ap (λ x. same_truth x (f b)) (same a (0, omega arith, refl)) ∙ ap (λ y. same_truth (g a) y) (same b (1, omega arith, refl))
with_same (all_different ts) f g same = ap all_different (terms_same f g ts same)
with_same (counts ts ns us) f g same = ap (λ xs. counts xs ns (map f us)) (terms_same f g ts (λ p found. same p (Contains-append_left ts us p found)))
    ∙ ap (λ ys. counts (map g ts) ns ys) (terms_same f g us (λ p found. same p (Contains-append_right ts us p found)))
with_same (at_least ts cs ns) f g same = ap (λ xs. at_least xs cs ns) (terms_same f g ts same)
with_same (at_most ts cs ns) f g same = ap (λ xs. at_most xs cs ns) (terms_same f g ts same)
with_same (table ts rows) f g same = ap (λ xs. table xs rows) (terms_same f g ts same)

pub equal_trees_equal_terms : (nodes : List GroundNode) → IsArena nodes → (s t : ℕ) → SameTree nodes s t → s ≡ t
equal_trees_equal_terms nodes arena s t (same_tree _ _ node f g first second parts) =
    arena.different s t (with_parts g node)
    (first ∙ ap (λ n. Some n) (with_same node f g (λ part found. equal_trees_equal_terms nodes arena (f part) (g part) (parts part found))))
    second
