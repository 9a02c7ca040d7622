-- The value of a term is that of its node, over the values of its parts.
use Rattle.std.specs.Prelude.{◌≡◌, ℕ, zero, suc, ◌+◌, ◌<◌, not, List, [], ◌∷◌, ◌++◌, length, map, ℤ, ◌+ℤ◌, ◌*ℤ◌, Option, Some, None, option_map, option_and_then, slice_get, refl}
use Rattle.std.proofs.Common.{ap, arith, subst, sym, ◌∙◌}
use Rattle.std.specs.List.{All}
use Rattle.std.proofs.lemmas.List.{get_or_append_left, get_or_at, length_push}
use Rattle.std.proofs.lemmas.List.Elements.{All-nil, All-cons, All-head, All-tail, All-weaker}
use Rattle.ep_base.proofs.Small.{some_is}
use Rattle.ep_base.specs.Numbers as numbers
use Rattle.ep_base.specs.Numbers.{absolute_of, all_one, any_one, are_different, counts_hold, greatest_of, has_number, is_one, is_row_of, least_of, lex_holds, nth_power}
use Rattle.ep_base.specs.Options.{on_both}
use Rattle.ep_base.specs.Reads as reads
use Rattle.ep_base.specs.Reads.{all_there, picked, safe_picked, same_bool, weighted_sum}
use Rattle.ep_base.specs.declared.operators.CompareOp.{CompareOp}
use Rattle.ep_ground.specs.Nodes.{GroundNode, constant, undefined, cell, sum, product, quotient, remainder, power, absolute, least, greatest, pick, whole, safe_quotient, safe_remainder, safe_pick, compare, lex, member, negation, all_of, any_of, same_truth, all_different, counts, at_least, at_most, table, parts_of}
use Rattle.ep_ground.specs.Terms.{node_value, term_value, truth, value_at, values_from, term_values_of, weighed}

-- what holds of the elements of two lists in a row holds of those of each
pub all_left : {X : Type 0} (P : X → Type 0) (xs ys : List X) → All P (xs ++ ys) → All P xs
all_left P [] ys h = All-nil P
all_left P (x ∷ xs) ys h = All-cons P x xs (All-head P x (xs ++ ys) h) (all_left P xs ys (All-tail P x (xs ++ ys) h))

pub all_right : {X : Type 0} (P : X → Type 0) (xs ys : List X) → All P (xs ++ ys) → All P ys
all_right P [] ys h = h
all_right P (x ∷ xs) ys h = all_right P xs ys (All-tail P x (xs ++ ys) h)

pub map_same : {A B : Type 0} (f g : A → B) (ts : List A) → All (λ t. f t ≡ g t) ts → map f ts ≡ map g ts
map_same f g [] h = refl
map_same f g (t ∷ ts) h =
    ap (λ x. x ∷ map f ts) (All-head (λ u. f u ≡ g u) t ts h) ∙ ap (λ xs. g t ∷ xs) (map_same f g ts (All-tail (λ u. f u ≡ g u) t ts h))

values_same : (f g : ℕ → Option ℤ) (ts : List ℕ) → All (λ t. f t ≡ g t) ts → term_values_of f ts ≡ term_values_of g ts
unfolding term_values_of
values_same f g ts h = ap all_there (map_same f g ts h)

pub weighed_same : (f g : ℕ → Option ℤ) (parts : List (ℤ × ℕ)) → All (λ t. f t ≡ g t) (map (λ p. p.1) parts) → weighed f parts ≡ weighed g parts
unfolding weighed
weighed_same f g [] h = refl
weighed_same f g (q ∷ parts) h =
    ap (λ x. on_both {A = ℤ} {B = List (ℤ × ℤ)} x (weighed f parts) (λ x rest. Some ((q.0, x) ∷ rest))) (All-head (λ u. f u ≡ g u) q.1 (map (λ p. p.1) parts) h)
    ∙ ap (λ xs. on_both {A = ℤ} {B = List (ℤ × ℤ)} (g q.1) xs (λ x rest. Some ((q.0, x) ∷ rest))) (weighed_same f g parts (All-tail (λ u. f u ≡ g u) q.1 (map (λ p. p.1) parts) h))

first_same : (f g : ℕ → Option ℤ) (a : ℕ) (ts : List ℕ) → All (λ t. f t ≡ g t) (a ∷ ts) → f a ≡ g a
first_same f g a ts h = All-head (λ u. f u ≡ g u) a ts h

second_same : (f g : ℕ → Option ℤ) (a b : ℕ) → All (λ t. f t ≡ g t) (a ∷ b ∷ []) → f b ≡ g b
second_same f g a b h = All-head (λ u. f u ≡ g u) b [] (All-tail (λ u. f u ≡ g u) a (b ∷ []) h)

-- a value of two terms, and of two lists of terms
two_same : {C : Type 0} (h : ℤ → ℤ → Option C) (f g : ℕ → Option ℤ) (a b : ℕ) → All (λ t. f t ≡ g t) (a ∷ b ∷ []) → on_both (f a) (f b) h ≡ on_both (g a) (g b) h
two_same h f g a b e = ap (λ x. on_both x (f b) h) (first_same f g a (b ∷ []) e) ∙ ap (λ y. on_both (g a) y h) (second_same f g a b e)

lists_same : {C : Type 0} (h : List ℤ → List ℤ → Option C) (f g : ℕ → Option ℤ) (ts us : List ℕ) → All (λ t. f t ≡ g t) (ts ++ us) → on_both (term_values_of f ts) (term_values_of f us) h ≡ on_both (term_values_of g ts) (term_values_of g us) h
lists_same h f g ts us e =
    ap (λ x. on_both x (term_values_of f us) h) (values_same f g ts (all_left (λ t. f t ≡ g t) ts us e))
    ∙ ap (λ y. on_both (term_values_of g ts) y h) (values_same f g us (all_right (λ t. f t ≡ g t) ts us e))

-- the value of a node depends on the values of its parts alone
pub node_same : (cells : List ℤ) (f g : ℕ → Option ℤ) (node : GroundNode) → All (λ t. f t ≡ g t) (parts_of node) → node_value cells f node ≡ node_value cells g node
unfolding node_value parts_of
node_same cells f g (constant n) h = refl
node_same cells f g undefined h = refl
node_same cells f g (cell k) h = refl
node_same cells f g (sum c parts) h = ap (option_map (λ ps. c +ℤ weighted_sum ps)) (weighed_same f g parts h)
node_same cells f g (product a b) h = two_same (λ x y. Some (x *ℤ y)) f g a b h
node_same cells f g (quotient a b) h = two_same numbers.quotient f g a b h
node_same cells f g (remainder a b) h = two_same numbers.remainder f g a b h
node_same cells f g (power a n) h = ap (option_map (λ x. nth_power x n)) (first_same f g a [] h)
node_same cells f g (absolute a) h = ap (option_map absolute_of) (first_same f g a [] h)
node_same cells f g (least ts) h = ap (option_and_then least_of) (values_same f g ts h)
node_same cells f g (greatest ts) h = ap (option_and_then greatest_of) (values_same f g ts h)
node_same cells f g (pick ts keys indices) h = lists_same (λ xs is. picked xs keys is) f g ts indices h
node_same cells f g (whole a ts) h =
    ap (λ x. on_both {A = ℤ} {B = List ℤ} x (term_values_of f ts) (λ x xs. Some x)) (first_same f g a ts h)
    ∙ ap (λ y. on_both {A = ℤ} {B = List ℤ} (g a) y (λ x xs. Some x)) (values_same f g ts (All-tail (λ t. f t ≡ g t) a ts h))
node_same cells f g (safe_quotient a b) h = two_same (λ x y. Some (reads.safe_quotient x y)) f g a b h
node_same cells f g (safe_remainder a b) h = two_same (λ x y. Some (reads.safe_remainder x y)) f g a b h
node_same cells f g (safe_pick ts keys indices) h = lists_same (λ xs is. Some (safe_picked xs keys is)) f g ts indices h
node_same cells f g (compare op a b) h = ap truth (two_same (λ x y. Some (numbers.compare_holds op x y)) f g a b h)
node_same cells f g (lex op ts us) h = ap truth (lists_same (λ xs ys. Some (lex_holds op xs ys)) f g ts us h)
node_same cells f g (member a ns) h = ap (λ o. truth (option_map (has_number ns) o)) (first_same f g a [] h)
node_same cells f g (negation a) h = ap (λ o. truth (option_map (λ x. not (is_one x)) o)) (first_same f g a [] h)
node_same cells f g (all_of ts) h = ap (λ o. truth (option_map all_one o)) (values_same f g ts h)
node_same cells f g (any_of ts) h = ap (λ o. truth (option_map any_one o)) (values_same f g ts h)
node_same cells f g (same_truth a b) h = ap truth (two_same (λ x y. Some (same_bool (is_one x) (is_one y))) f g a b h)
node_same cells f g (all_different ts) h = ap (λ o. truth (option_map are_different o)) (values_same f g ts h)
node_same cells f g (counts ts ns us) h = ap truth (lists_same (λ xs cs. counts_hold CompareOp.Equal xs ns cs) f g ts us h)
node_same cells f g (at_least ts cs ns) h = ap (λ o. truth (option_and_then (λ xs. counts_hold CompareOp.AtLeast xs ns cs) o)) (values_same f g ts h)
node_same cells f g (at_most ts cs ns) h = ap (λ o. truth (option_and_then (λ xs. counts_hold CompareOp.AtMost xs ns cs) o)) (values_same f g ts h)
node_same cells f g (table ts rows) h = ap (λ o. truth (option_and_then (is_row_of rows) o)) (values_same f g ts h)

-- the values so far stay as they are
values_stay : (cells : List ℤ) (nodes : List GroundNode) (vals : List (Option ℤ)) (p : ℕ) → p < length vals → value_at (values_from cells vals nodes) p ≡ value_at vals p
unfolding value_at values_from
values_stay cells [] vals p h = refl
values_stay cells (node ∷ nodes) vals p h =
    values_stay cells nodes (vals ++ node_value cells (value_at vals) node ∷ []) p (omega (arith, h, length_push vals (node_value cells (value_at vals) node)))
    ∙ get_or_append_left vals (node_value cells (value_at vals) node ∷ []) None p h

plus_zero : (n : ℕ) → n + 0 ≡ n
plus_zero n = omega arith

shifted : (m n k : ℕ) → n ≡ m + 1 → n + k ≡ m + suc k
shifted m n k e = omega (arith, e)

unrolled_from : (cells : List ℤ) (nodes : List GroundNode) (vals : List (Option ℤ)) (k : ℕ) (node : GroundNode) → slice_get nodes k ≡ Some node → All (λ p. p < length vals + k) (parts_of node)
    → value_at (values_from cells vals nodes) (length vals + k) ≡ node_value cells (value_at (values_from cells vals nodes)) node
unfolding value_at values_from
unrolled_from cells [] vals k node e h = absurd cc
unrolled_from cells (n ∷ nodes) vals zero node e h =
    let all = values_from cells vals (n ∷ nodes) in
    let longer = vals ++ node_value cells (value_at vals) n ∷ [] in
    let below : All (λ p. p < length vals) (parts_of node) = subst (λ m. All (λ p. p < m) (parts_of node)) (plus_zero (length vals)) h in
    let stays : (p : ℕ) → p < length vals → value_at vals p ≡ value_at all p =
    λ p l. sym (values_stay cells nodes longer p (omega (arith, l, length_push vals (node_value cells (value_at vals) n))) ∙ get_or_append_left vals (node_value cells (value_at vals) n ∷ []) None p l) in
    ap (value_at all) (plus_zero (length vals))
    ∙ values_stay cells nodes longer (length vals) (omega (arith, length_push vals (node_value cells (value_at vals) n)))
    ∙ get_or_at vals (node_value cells (value_at vals) n) [] None (length vals) refl
    ∙ ap (node_value cells (value_at vals)) (some_is e)
    ∙ node_same cells (value_at vals) (value_at all) node (All-weaker (λ p. p < length vals) (λ p. value_at vals p ≡ value_at all p) stays (parts_of node) below)
unrolled_from cells (n ∷ nodes) vals (suc k) node e h =
    let longer = vals ++ node_value cells (value_at vals) n ∷ [] in
    let at : length longer + k ≡ length vals + suc k = shifted (length vals) (length longer) k (length_push vals (node_value cells (value_at vals) n)) in
    subst (λ m. value_at (values_from cells longer nodes) m ≡ node_value cells (value_at (values_from cells longer nodes)) node) at
    (unrolled_from cells nodes longer k node e (subst (λ m. All (λ p. p < m) (parts_of node)) (sym at) h))

zero_plus : (n : ℕ) → 0 + n ≡ n
zero_plus n = omega arith

pub unrolled : (cells : List ℤ) (nodes : List GroundNode) (t : ℕ) (node : GroundNode) → slice_get nodes t ≡ Some node → All (λ p. p < t) (parts_of node)
    → term_value nodes cells t ≡ node_value cells (term_value nodes cells) node
unfolding term_value
unrolled cells nodes t node e h =
    ap (value_at (values_from cells [] nodes)) (sym (zero_plus t))
    ∙ unrolled_from cells nodes [] t node e (subst (λ m. All (λ p. p < m) (parts_of node)) (sym (zero_plus t)) h)
