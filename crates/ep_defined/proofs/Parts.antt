-- Nodes of which a part has no value, and nodes of which each part has one.
use Rattle.std.proofs.Common.{◌≡◌, ℕ, zero, suc, ℤ, pos, ◌+ℤ◌, ◌*ℤ◌, Bool, false, not, ◌⊎◌, inl, inr, List, [], ◌∷◌, ◌++◌, length, Option, Some, None, refl, ap, ◌∙◌, arith}
use Rattle.std.specs.Prelude.{map, option_map, option_and_then}
use Rattle.std.specs.List.{Contains}
use Rattle.std.proofs.lemmas.List.Elements.{Contains-append_cases}
use Rattle.std.proofs.lemmas.Option.{slice_get-get_or}
use Rattle.ep_base.specs.Numbers as numbers
use Rattle.ep_base.specs.Numbers.{absolute_of, all_one, any_one, are_different, compare_holds, counts_hold, greatest_of, has_number, is_one, is_row_of, least_of, lex_holds, nth_power, of_bool}
use Rattle.ep_base.specs.Options.{on_both}
use Rattle.ep_base.specs.Reads as reads
use Rattle.ep_base.specs.Reads.{all_there, picked, safe_picked, same_bool, weighted_sum}
use Rattle.ep_base.specs.declared.operators.CompareOp.{CompareOp}
use Rattle.ep_defined.specs.Images.{image_kind}
use Rattle.ep_defined.specs.declared.kinds.Kind.{Kind}
use Rattle.ep_ground.specs.Grounds.{StandsOver}
use Rattle.ep_ground.specs.Nodes.{GroundNode, constant, undefined, cell, sum, product, quotient, remainder, power, absolute, least, greatest, pick, whole, safe_quotient, safe_remainder, safe_pick, compare, lex, member, negation, all_of, any_of, same_truth, all_different, counts, at_least, at_most, table, parts_of, is_partial}
use Rattle.ep_ground.specs.Terms.{node_value, truth, term_values_of, weighed}

-- what a node of a kind is worth where a part has no value
abbrev pub absent : Kind → Option ℤ
absent Kind.Truth = Some (pos 0)
absent Kind.Number = None
absent Kind.Nothing = None
absent Kind.Division = None
absent Kind.Pick = None
absent Kind.Whole = None

pub of_cons : (t : ℕ) (ts : List ℕ) (p : ℕ) → Contains (t ∷ ts) p → (t ≡ p) ⊎ Contains ts p
of_cons t ts p (zero, below, is) = inl is
of_cons t ts p (suc k, below, is) = inr (k, omega (arith, below), is)

pub none_there : (p : ℕ) {X : Type 0} → Contains [] p → X
none_there p (k, below, is) = absurd (omega (arith, below))

both_first : {A B C : Type 0} (k : A → B → Option C) (x : Option A) (y : Option B) → x ≡ None → on_both x y k ≡ None
unfolding on_both
both_first k x y e = ap (λ o. option_and_then (λ a. option_and_then (k a) y) o) e

both_second : {A B C : Type 0} (k : A → B → Option C) (x : Option A) (y : Option B) → y ≡ None → on_both x y k ≡ None
unfolding on_both
both_second k None y e = refl
both_second k (Some a) y e = ap (option_and_then (k a)) e

pub one_lacks : (v : ℕ → Option ℤ) (a p : ℕ) → Contains (a ∷ []) p → v p ≡ None → v a ≡ None
one_lacks v a p found none = elim (of_cons a [] p found) as (λ _. v a ≡ None) [
  | inl e ↦ ap v e ∙ none
  | inr h ↦ none_there p h
]

two_lack : {C : Type 0} (k : ℤ → ℤ → Option C) (v : ℕ → Option ℤ) (a b p : ℕ) → Contains (a ∷ b ∷ []) p → v p ≡ None → on_both (v a) (v b) k ≡ None
two_lack k v a b p found none = elim (of_cons a (b ∷ []) p found) as (λ _. on_both (v a) (v b) k ≡ None) [
  | inl e ↦ both_first k (v a) (v b) (ap v e ∙ none)
  | inr h ↦ both_second k (v a) (v b) (one_lacks v b p h none)
]

map_none : {A B : Type 0} (f : A → B) (o : Option A) → o ≡ None → option_map f o ≡ None
map_none f o e = ap (option_map f) e

pub list_lacks : (v : ℕ → Option ℤ) (ts : List ℕ) (p : ℕ) → Contains ts p → v p ≡ None → term_values_of v ts ≡ None
unfolding term_values_of all_there
list_lacks v [] p found none = none_there p found
list_lacks v (t ∷ ts) p found none = elim (of_cons t ts p found) as (λ _. term_values_of v (t ∷ ts) ≡ None) [
  | inl e ↦ ap (λ o. option_and_then (λ n. option_map (λ ns. n ∷ ns) (term_values_of v ts)) o) (ap v e ∙ none)
  | inr h ↦ behind (v t) (list_lacks v ts p h none)
]
  where
    behind : (o : Option ℤ) → term_values_of v ts ≡ None → option_and_then (λ n. option_map (λ ns. n ∷ ns) (term_values_of v ts)) o ≡ None
    behind None e = refl
    behind (Some n) e = ap (option_map (λ ns. n ∷ ns)) e

lists_lack : {C : Type 0} (k : List ℤ → List ℤ → Option C) (v : ℕ → Option ℤ) (ts us : List ℕ) (p : ℕ) → Contains (ts ++ us) p → v p ≡ None → on_both (term_values_of v ts) (term_values_of v us) k ≡ None
lists_lack k v ts us p found none = elim (Contains-append_cases ts us p found) as (λ _. on_both (term_values_of v ts) (term_values_of v us) k ≡ None) [
  | inl h ↦ both_first k (term_values_of v ts) (term_values_of v us) (list_lacks v ts p h none)
  | inr h ↦ both_second k (term_values_of v ts) (term_values_of v us) (list_lacks v us p h none)
]

weights_lack : (v : ℕ → Option ℤ) (parts : List (ℤ × ℕ)) (p : ℕ) → Contains (map (λ q. q.1) parts) p → v p ≡ None → weighed v parts ≡ None
unfolding weighed
weights_lack v [] p found none = none_there p found
weights_lack v (q ∷ parts) p found none = elim (of_cons q.1 (map (λ r. r.1) parts) p found) as (λ _. weighed v (q ∷ parts) ≡ None) [
  | inl e ↦ both_first (λ x rest. Some ((q.0, x) ∷ rest)) (v q.1) (weighed v parts) (ap v e ∙ none)
  | inr h ↦ both_second (λ x rest. Some ((q.0, x) ∷ rest)) (v q.1) (weighed v parts) (weights_lack v parts p h none)
]

whole_lacks : (v : ℕ → Option ℤ) (a : ℕ) (ts : List ℕ) (p : ℕ) → Contains (a ∷ ts) p → v p ≡ None → on_both (v a) (term_values_of v ts) (λ x xs. Some x) ≡ None
whole_lacks v a ts p found none = elim (of_cons a ts p found) as (λ _. on_both (v a) (term_values_of v ts) (λ x xs. Some x) ≡ None) [
  | inl e ↦ both_first (λ x xs. Some x) (v a) (term_values_of v ts) (ap v e ∙ none)
  | inr h ↦ both_second (λ x xs. Some x) (v a) (term_values_of v ts) (list_lacks v ts p h none)
]

-- where a part has no value, a truth value is 0 and a number isn't there
pub lacking : (cells : List ℤ) (v : ℕ → Option ℤ) (node : GroundNode) (p : ℕ) → Contains (parts_of node) p → v p ≡ None → node_value cells v node ≡ absent (image_kind node)
unfolding node_value parts_of image_kind truth
lacking cells v (constant n) p found none = none_there p found
lacking cells v undefined p found none = none_there p found
lacking cells v (cell k) p found none = none_there p found
lacking cells v (sum c parts) p found none = map_none (λ ps. c +ℤ weighted_sum ps) (weighed v parts) (weights_lack v parts p found none)
lacking cells v (product a b) p found none = two_lack (λ x y. Some (x *ℤ y)) v a b p found none
lacking cells v (quotient a b) p found none = two_lack numbers.quotient v a b p found none
lacking cells v (remainder a b) p found none = two_lack numbers.remainder v a b p found none
lacking cells v (power a n) p found none = ap (λ o. option_map (λ x. nth_power x n) o) (one_lacks v a p found none)
lacking cells v (absolute a) p found none = ap (λ o. option_map absolute_of o) (one_lacks v a p found none)
lacking cells v (least ts) p found none = ap (λ o. option_and_then least_of o) (list_lacks v ts p found none)
lacking cells v (greatest ts) p found none = ap (λ o. option_and_then greatest_of o) (list_lacks v ts p found none)
lacking cells v (pick ts keys indices) p found none = lists_lack (λ xs is. picked xs keys is) v ts indices p found none
lacking cells v (whole a ts) p found none = whole_lacks v a ts p found none
lacking cells v (safe_quotient a b) p found none = two_lack (λ x y. Some (reads.safe_quotient x y)) v a b p found none
lacking cells v (safe_remainder a b) p found none = two_lack (λ x y. Some (reads.safe_remainder x y)) v a b p found none
lacking cells v (safe_pick ts keys indices) p found none = lists_lack (λ xs is. Some (safe_picked xs keys is)) v ts indices p found none
lacking cells v (compare op a b) p found none = ap (λ o. truth (o)) (two_lack (λ x y. Some (compare_holds op x y)) v a b p found none)
lacking cells v (lex op ts us) p found none = ap (λ o. truth (o)) (lists_lack (λ xs ys. Some (lex_holds op xs ys)) v ts us p found none)
lacking cells v (member a ns) p found none = ap (λ o. truth (option_map (has_number ns) o)) (one_lacks v a p found none)
lacking cells v (negation a) p found none = ap (λ o. truth (option_map (λ x. not (is_one x)) o)) (one_lacks v a p found none)
lacking cells v (all_of ts) p found none = ap (λ o. truth (option_map all_one o)) (list_lacks v ts p found none)
lacking cells v (any_of ts) p found none = ap (λ o. truth (option_map any_one o)) (list_lacks v ts p found none)
lacking cells v (same_truth a b) p found none = ap (λ o. truth (o)) (two_lack (λ x y. Some (same_bool (is_one x) (is_one y))) v a b p found none)
lacking cells v (all_different ts) p found none = ap (λ o. truth (option_map are_different o)) (list_lacks v ts p found none)
lacking cells v (counts ts ns us) p found none = ap (λ o. truth (o)) (lists_lack (λ xs cs. counts_hold CompareOp.Equal xs ns cs) v ts us p found none)
lacking cells v (at_least ts cs ns) p found none = ap (λ o. truth (option_and_then (λ xs. counts_hold CompareOp.AtLeast xs ns cs) o)) (list_lacks v ts p found none)
lacking cells v (at_most ts cs ns) p found none = ap (λ o. truth (option_and_then (λ xs. counts_hold CompareOp.AtMost xs ns cs) o)) (list_lacks v ts p found none)
lacking cells v (table ts rows) p found none = ap (λ o. truth (option_and_then (is_row_of rows) o)) (list_lacks v ts p found none)

truth_there : (o : Option Bool) → (b : Bool) × (truth o ≡ Some (of_bool b))
unfolding truth of_bool
truth_there None = (false, refl)
truth_there (Some b) = (b, refl)

-- a truth value is always there
pub truth_value : (cells : List ℤ) (v : ℕ → Option ℤ) (node : GroundNode) → image_kind node ≡ Kind.Truth → (b : Bool) × (node_value cells v node ≡ Some (of_bool b))
unfolding node_value image_kind
truth_value cells v (constant n) e = absurd (cc)
truth_value cells v undefined e = absurd (cc)
truth_value cells v (cell k) e = absurd (cc)
truth_value cells v (sum c parts) e = absurd (cc)
truth_value cells v (product a b) e = absurd (cc)
truth_value cells v (quotient a b) e = absurd (cc)
truth_value cells v (remainder a b) e = absurd (cc)
truth_value cells v (power a n) e = absurd (cc)
truth_value cells v (absolute a) e = absurd (cc)
truth_value cells v (least ts) e = absurd (cc)
truth_value cells v (greatest ts) e = absurd (cc)
truth_value cells v (pick ts keys indices) e = absurd (cc)
truth_value cells v (whole a ts) e = absurd (cc)
truth_value cells v (safe_quotient a b) e = absurd (cc)
truth_value cells v (safe_remainder a b) e = absurd (cc)
truth_value cells v (safe_pick ts keys indices) e = absurd (cc)
truth_value cells v (compare op a b) e = truth_there (on_both (v a) (v b) (λ x y. Some (compare_holds op x y)))
truth_value cells v (lex op ts us) e = truth_there (on_both (term_values_of v ts) (term_values_of v us) (λ xs ys. Some (lex_holds op xs ys)))
truth_value cells v (member a ns) e = truth_there (option_map (has_number ns) (v a))
truth_value cells v (negation a) e = truth_there (option_map (λ x. not (is_one x)) (v a))
truth_value cells v (all_of ts) e = truth_there (option_map all_one (term_values_of v ts))
truth_value cells v (any_of ts) e = truth_there (option_map any_one (term_values_of v ts))
truth_value cells v (same_truth a b) e = truth_there (on_both (v a) (v b) (λ x y. Some (same_bool (is_one x) (is_one y))))
truth_value cells v (all_different ts) e = truth_there (option_map are_different (term_values_of v ts))
truth_value cells v (counts ts ns us) e = truth_there (on_both (term_values_of v ts) (term_values_of v us) (λ xs cs. counts_hold CompareOp.Equal xs ns cs))
truth_value cells v (at_least ts cs ns) e = truth_there (option_and_then (λ xs. counts_hold CompareOp.AtLeast xs ns cs) (term_values_of v ts))
truth_value cells v (at_most ts cs ns) e = truth_there (option_and_then (λ xs. counts_hold CompareOp.AtMost xs ns cs) (term_values_of v ts))
truth_value cells v (table ts rows) e = truth_there (option_and_then (is_row_of rows) (term_values_of v ts))

-- values that are all there
abbrev pub there : (ℕ → ℤ) → ℕ → Option ℤ
there n t = Some (n t)

pub values_there : (n : ℕ → ℤ) (ts : List ℕ) → term_values_of (there n) ts ≡ Some (map n ts)
unfolding term_values_of all_there
values_there n [] = refl
values_there n (t ∷ ts) = ap (option_map (λ ns. n t ∷ ns)) (values_there n ts)

weights_there : (n : ℕ → ℤ) (parts : List (ℤ × ℕ)) → (ps : List (ℤ × ℤ)) × (weighed (there n) parts ≡ Some ps)
unfolding weighed on_both
weights_there n [] = ([], refl)
weights_there n (p ∷ parts) =
    let rest = weights_there n parts in
    ((p.0, n p.1) ∷ rest.0, ap (option_and_then (λ (ps : List (ℤ × ℤ)). Some ((p.0, n p.1) ∷ ps))) rest.1)

some_least : (x : ℤ) (xs : List ℤ) → (y : ℤ) × (least_of (x ∷ xs) ≡ Some y)
unfolding least_of
some_least x xs = (_, refl)

some_greatest : (x : ℤ) (xs : List ℤ) → (y : ℤ) × (greatest_of (x ∷ xs) ≡ Some y)
unfolding greatest_of
some_greatest x xs = (_, refl)

-- A node that isn't partial has a value where its parts have one.
pub has_value : (cells : List ℤ) (n : ℕ → ℤ) (node : GroundNode) → is_partial node ≡ false → StandsOver (length cells) node → (y : ℤ) × (node_value cells (there n) node ≡ Some y)
unfolding node_value image_kind is_partial StandsOver on_both
has_value cells n (constant c) total stands = (c, refl)
has_value cells n undefined total stands = absurd (cc)
has_value cells n (cell k) total stands = (_, slice_get-get_or cells k (pos 0) stands)
has_value cells n (sum c parts) total stands = let h = weights_there n parts in (c +ℤ weighted_sum h.0, ap (option_map (λ ps. c +ℤ weighted_sum ps)) h.1)
has_value cells n (product a b) total stands = (_, refl)
has_value cells n (quotient a b) total stands = absurd (cc)
has_value cells n (remainder a b) total stands = absurd (cc)
has_value cells n (power a e) total stands = (_, refl)
has_value cells n (absolute a) total stands = (_, refl)
has_value cells n (least []) total stands = absurd (omega (arith, stands))
has_value cells n (least (t ∷ ts)) total stands = let h = some_least (n t) (map n ts) in (h.0, ap (option_and_then least_of) (values_there n (t ∷ ts)) ∙ h.1)
has_value cells n (greatest []) total stands = absurd (omega (arith, stands))
has_value cells n (greatest (t ∷ ts)) total stands = let h = some_greatest (n t) (map n ts) in (h.0, ap (option_and_then greatest_of) (values_there n (t ∷ ts)) ∙ h.1)
has_value cells n (pick ts keys indices) total stands = absurd (cc)
has_value cells n (whole a ts) total stands = absurd (cc)
has_value cells n (safe_quotient a b) total stands = (_, refl)
has_value cells n (safe_remainder a b) total stands = (_, refl)
has_value cells n (safe_pick ts keys indices) total stands = (safe_picked (map n ts) keys (map n indices), λ i. option_and_then (λ xs. option_and_then (λ is. Some (safe_picked xs keys is)) (values_there n indices i)) (values_there n ts i))
has_value cells n (compare op a b) total stands = let h = truth_value cells (there n) (compare op a b) refl in (of_bool h.0, h.1)
has_value cells n (lex op ts us) total stands = let h = truth_value cells (there n) (lex op ts us) refl in (of_bool h.0, h.1)
has_value cells n (member a ns) total stands = let h = truth_value cells (there n) (member a ns) refl in (of_bool h.0, h.1)
has_value cells n (negation a) total stands = let h = truth_value cells (there n) (negation a) refl in (of_bool h.0, h.1)
has_value cells n (all_of ts) total stands = let h = truth_value cells (there n) (all_of ts) refl in (of_bool h.0, h.1)
has_value cells n (any_of ts) total stands = let h = truth_value cells (there n) (any_of ts) refl in (of_bool h.0, h.1)
has_value cells n (same_truth a b) total stands = let h = truth_value cells (there n) (same_truth a b) refl in (of_bool h.0, h.1)
has_value cells n (all_different ts) total stands = let h = truth_value cells (there n) (all_different ts) refl in (of_bool h.0, h.1)
has_value cells n (counts ts ns us) total stands = let h = truth_value cells (there n) (counts ts ns us) refl in (of_bool h.0, h.1)
has_value cells n (at_least ts cs ns) total stands = let h = truth_value cells (there n) (at_least ts cs ns) refl in (of_bool h.0, h.1)
has_value cells n (at_most ts cs ns) total stands = let h = truth_value cells (there n) (at_most ts cs ns) refl in (of_bool h.0, h.1)
has_value cells n (table ts rows) total stands = let h = truth_value cells (there n) (table ts rows) refl in (of_bool h.0, h.1)
