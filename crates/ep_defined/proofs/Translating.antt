-- What stands for the terms of a ground: one term more, and more nodes.
use Rattle.std.proofs.Common.{◌≡◌, ℕ, ◌+◌, ◌<◌, ℤ, pos, Bool, ◌⊎◌, inl, inr, List, [], ◌∷◌, ◌++◌, length, Option, Some, None, refl, sym, ap, subst, ◌∙◌, arith, rules}
use Rattle.std.specs.Prelude.{map, IfSome, option_to_list}
use Rattle.std.specs.List.{All, Contains}
use Rattle.std.proofs.lemmas.List.{length-append, length_push, get_or_append_left, get_or_at}
use Rattle.std.proofs.lemmas.List.Elements.{All-contains, All-nil, All-append, All-get_or, Contains-append_cases, Contains-append_right}
use Rattle.std.proofs.lemmas.Option.{slice_get_within, get_or_from_slice_get}
use Rattle.ep_base.specs.Reads.{IsWithinNumbers}
use Rattle.ep_base.specs.Intervals.{IsWithinReach}
use Rattle.ep_base.specs.declared.operators.CompareOp.{CompareOp}
use Rattle.ep_defined.specs.Growing.{Grows, IsNodeAt, IsSafeOver}
use Rattle.ep_defined.specs.Images.{IsConjunction, IsDivisorTest, IsKeyTest, IsImage, IsImageBy, IsTestedImage, IsWholeImage, StandsIn, guards_in, image_at, image_kind, made_safe, over_totals, nowhere, total_at}
use Rattle.ep_defined.specs.Translations.{IsBoundedBelow, IsTruth, StandsForTerm, Translated, Translates}
use Rattle.ep_defined.specs.declared.images.Image.{Image}
use Rattle.ep_defined.specs.declared.kinds.Kind.{Kind}
use Rattle.ep_defined.proofs.KindSteps.{safe_parts, stands_by}
use Rattle.ep_defined.proofs.Parts.{of_cons, none_there}
use Rattle.ep_defined.proofs.Reaches.{bounded_more, bounded_node, bounded_part, image_reach, is_more, totals_reach, truth_reach, truth_weights, weights_with}
use Rattle.ep_ground.proofs.TermLaws.{reach_is, reach_more, value_is, value_more}
use Rattle.ep_ground.proofs.SameParts.{parts_with}
use Rattle.ep_ground.specs.Bounds.{node_reach, term_reach}
use Rattle.ep_ground.specs.Grounds.{StandsOver, itself}
use Rattle.ep_ground.specs.Nodes.{GroundNode, constant, undefined, quotient, remainder, pick, whole, cell, sum, product, power, absolute, least, greatest, safe_quotient, safe_remainder, safe_pick, compare, lex, member, negation, all_of, any_of, same_truth, all_different, counts, at_least, at_most, table, parts_of, coefficients_of}
use Rattle.ep_ground.specs.Terms.{PartsStandBefore, node_value, term_value}
use Rattle.ep_ground.specs.declared.cells.Cell.{Cell}

lt_or_eq : (t n : ℕ) → t < n + 1 → (t < n) ⊎ (t ≡ n)
lt_or_eq t n h = grind arith

-- What holds of a term where it holds of the parts of its node, for nodes that are F.
abbrev Closed : List GroundNode → (GroundNode → Type 0) → (ℕ → Type 0) → Type 0
Closed nodes F P = (t : ℕ) (node : GroundNode) → IsNodeAt nodes t node → F node → ((p : ℕ) → Contains (parts_of node) p → P p) → P t

-- it holds of what stands for a term
abbrev HoldsOf : (ℕ → Type 0) → Image → Type 0
HoldsOf P image = P image.total × IfSome image.guard P

guards_hold : (P : ℕ → Type 0) (images : List Image) (ts : List ℕ) → ((p : ℕ) → Contains ts p → HoldsOf P (image_at images p)) → (g : ℕ) → Contains (guards_in images ts) g → P g
guards_hold P images [] each g found = none_there g found
guards_hold P images (t ∷ ts) each g found =
    by (image_at images t).guard (each t (0, omega arith, refl)).1 found (guards_hold P images ts (λ p inner. each p (Contains-append_right (t ∷ []) ts p inner)) g)
  where
    by : (o : Option ℕ) → IfSome o P → Contains (option_to_list o ++ guards_in images ts) g → (Contains (guards_in images ts) g → P g) → P g
    by None h f rest = rest f
    by (Some k) h f rest = elim (of_cons k (guards_in images ts) g f) as (λ _. P g) [
      | inl e ↦ subst P e h
      | inr inner ↦ rest inner
    ]

conjunction_holds : (nodes : List GroundNode) (F : GroundNode → Type 0) (P : ℕ → Type 0) → Closed nodes F P → ((ts : List ℕ) → F (all_of ts)) → (gs : List ℕ) (r : Option ℕ) → ((g : ℕ) → Contains gs g → P g) → IsConjunction nodes gs r → IfSome r P
unfolding IsConjunction parts_of
conjunction_holds nodes F P closed truths [] None each is = tt
conjunction_holds nodes F P closed truths [] (Some t) each is = absurd is
conjunction_holds nodes F P closed truths (g ∷ []) None each is = absurd is
conjunction_holds nodes F P closed truths (g ∷ []) (Some t) each is = subst P (sym is) (each g (0, omega arith, refl))
conjunction_holds nodes F P closed truths (g ∷ k ∷ gs) None each is = absurd is
conjunction_holds nodes F P closed truths (g ∷ k ∷ gs) (Some t) each is = closed t (all_of (g ∷ k ∷ gs)) is (truths (g ∷ k ∷ gs)) each

from_map : (f : ℕ → ℕ) (ts : List ℕ) (p : ℕ) → Contains (map f ts) p → (t : ℕ) × Contains ts t × (f t ≡ p)
from_map f [] p found = none_there p found
from_map f (t ∷ ts) p found = elim (of_cons (f t) (map f ts) p found) as (λ _. (s : ℕ) × Contains (t ∷ ts) s × (f s ≡ p)) [
  | inl e ↦ (t, (0, omega arith, refl), e)
  | inr h ↦ let rest = from_map f ts p h in (rest.0, Contains-append_right (t ∷ []) ts rest.0 rest.1, rest.2)
]

totals_hold : (P : ℕ → Type 0) (images : List Image) (ts : List ℕ) → ((p : ℕ) → Contains ts p → HoldsOf P (image_at images p)) → (q : ℕ) → Contains (map (total_at images) ts) q → P q
totals_hold P images ts each q found = let from = from_map (total_at images) ts q found in subst P from.2 (each from.0 from.1).0

node_holds : (nodes : List GroundNode) (F : GroundNode → Type 0) (P : ℕ → Type 0) → Closed nodes F P → (images : List Image) (node : GroundNode) → F (over_totals images node) → ((p : ℕ) → Contains (parts_of node) p → HoldsOf P (image_at images p)) → (t : ℕ) → IsNodeAt nodes t (over_totals images node) → P t
node_holds nodes F P closed images node fits each t is =
    closed t (over_totals images node) is fits
    (λ q found. totals_hold P images (parts_of node) each q
    (subst (λ ts. Contains (map (total_at images) ts) q) (safe_parts node) (subst (λ ts. Contains ts q) (parts_with (total_at images) (made_safe node)) found)))

tested_holds : (nodes : List GroundNode) (F : GroundNode → Type 0) (P : ℕ → Type 0) → Closed nodes F P → ((ts : List ℕ) → F (all_of ts)) → (images : List Image) (node : GroundNode) (Test : ℕ → Type 0) (image : Image) → F (over_totals images node) → ((p : ℕ) → Contains (parts_of node) p → HoldsOf P (image_at images p)) → ((own : ℕ) → Test own → P own) → IsTestedImage nodes images node Test image → HoldsOf P image
tested_holds nodes F P closed truths images node Test image fits each tests is = (
  node_holds nodes F P closed images node fits each image.total is.total,
  conjunction_holds nodes F P closed truths (is.own ∷ guards_in images (parts_of node)) image.guard
      (λ g found. elim (of_cons is.own (guards_in images (parts_of node)) g found) as (λ _. P g) [
        | inl e ↦ subst P e (tests is.own is.test)
        | inr rest ↦ guards_hold P images (parts_of node) each g rest
      ]) is.guard,
)

-- GENERATED
divisor_holds : (nodes : List GroundNode) (F : GroundNode → Type 0) (P : ℕ → Type 0) → Closed nodes F P → ((other : GroundNode) → image_kind other ≡ Kind.Truth → F other) → (images : List Image) (nought : ℕ) → P nought → (node : GroundNode) → ((p : ℕ) → Contains (parts_of node) p → HoldsOf P (image_at images p)) → (own : ℕ) → IsDivisorTest nodes nought images node own → P own
unfolding IsDivisorTest parts_of image_kind
divisor_holds nodes F P closed truths images nought nil (constant n) each own is = absurd is
divisor_holds nodes F P closed truths images nought nil undefined each own is = absurd is
divisor_holds nodes F P closed truths images nought nil (cell k) each own is = absurd is
divisor_holds nodes F P closed truths images nought nil (sum c parts) each own is = absurd is
divisor_holds nodes F P closed truths images nought nil (product a b) each own is = absurd is
divisor_holds nodes F P closed truths images nought nil (quotient a b) each own is =
    closed own (compare CompareOp.NotEqual (total_at images b) nought) is (truths (compare CompareOp.NotEqual (total_at images b) nought) refl)
    (λ q found. elim (of_cons (total_at images b) (nought ∷ []) q found) as (λ _. P q) [
      | inl e ↦ subst P e (each b (1, omega arith, refl)).0
      | inr rest ↦ elim (of_cons nought [] q rest) as (λ _. P q) [ inl e ↦ subst P e nil | inr h ↦ none_there q h ]
    ])
divisor_holds nodes F P closed truths images nought nil (remainder a b) each own is =
    closed own (compare CompareOp.NotEqual (total_at images b) nought) is (truths (compare CompareOp.NotEqual (total_at images b) nought) refl)
    (λ q found. elim (of_cons (total_at images b) (nought ∷ []) q found) as (λ _. P q) [
      | inl e ↦ subst P e (each b (1, omega arith, refl)).0
      | inr rest ↦ elim (of_cons nought [] q rest) as (λ _. P q) [ inl e ↦ subst P e nil | inr h ↦ none_there q h ]
    ])
divisor_holds nodes F P closed truths images nought nil (power a n) each own is = absurd is
divisor_holds nodes F P closed truths images nought nil (absolute a) each own is = absurd is
divisor_holds nodes F P closed truths images nought nil (least ts) each own is = absurd is
divisor_holds nodes F P closed truths images nought nil (greatest ts) each own is = absurd is
divisor_holds nodes F P closed truths images nought nil (pick ts keys indices) each own is = absurd is
divisor_holds nodes F P closed truths images nought nil (whole a ts) each own is = absurd is
divisor_holds nodes F P closed truths images nought nil (safe_quotient a b) each own is = absurd is
divisor_holds nodes F P closed truths images nought nil (safe_remainder a b) each own is = absurd is
divisor_holds nodes F P closed truths images nought nil (safe_pick ts keys indices) each own is = absurd is
divisor_holds nodes F P closed truths images nought nil (compare op a b) each own is = absurd is
divisor_holds nodes F P closed truths images nought nil (lex op ts us) each own is = absurd is
divisor_holds nodes F P closed truths images nought nil (member a ns) each own is = absurd is
divisor_holds nodes F P closed truths images nought nil (negation a) each own is = absurd is
divisor_holds nodes F P closed truths images nought nil (all_of ts) each own is = absurd is
divisor_holds nodes F P closed truths images nought nil (any_of ts) each own is = absurd is
divisor_holds nodes F P closed truths images nought nil (same_truth a b) each own is = absurd is
divisor_holds nodes F P closed truths images nought nil (all_different ts) each own is = absurd is
divisor_holds nodes F P closed truths images nought nil (counts ts ns us) each own is = absurd is
divisor_holds nodes F P closed truths images nought nil (at_least ts cs ns) each own is = absurd is
divisor_holds nodes F P closed truths images nought nil (at_most ts cs ns) each own is = absurd is
divisor_holds nodes F P closed truths images nought nil (table ts rows) each own is = absurd is

keys_hold : (nodes : List GroundNode) (F : GroundNode → Type 0) (P : ℕ → Type 0) → Closed nodes F P → ((other : GroundNode) → image_kind other ≡ Kind.Truth → F other) → (images : List Image) (node : GroundNode) → ((p : ℕ) → Contains (parts_of node) p → HoldsOf P (image_at images p)) → (own : ℕ) → IsKeyTest nodes images node own → P own
unfolding IsKeyTest parts_of image_kind
keys_hold nodes F P closed truths images (constant n) each own is = absurd is
keys_hold nodes F P closed truths images undefined each own is = absurd is
keys_hold nodes F P closed truths images (cell k) each own is = absurd is
keys_hold nodes F P closed truths images (sum c parts) each own is = absurd is
keys_hold nodes F P closed truths images (product a b) each own is = absurd is
keys_hold nodes F P closed truths images (quotient a b) each own is = absurd is
keys_hold nodes F P closed truths images (remainder a b) each own is = absurd is
keys_hold nodes F P closed truths images (power a n) each own is = absurd is
keys_hold nodes F P closed truths images (absolute a) each own is = absurd is
keys_hold nodes F P closed truths images (least ts) each own is = absurd is
keys_hold nodes F P closed truths images (greatest ts) each own is = absurd is
keys_hold nodes F P closed truths images (pick ts keys indices) each own is =
    closed own (table (map (total_at images) indices) _) is (truths (table (map (total_at images) indices) _) refl)
    (totals_hold P images indices (λ p found. each p (Contains-append_right ts indices p found)))
keys_hold nodes F P closed truths images (whole a ts) each own is = absurd is
keys_hold nodes F P closed truths images (safe_quotient a b) each own is = absurd is
keys_hold nodes F P closed truths images (safe_remainder a b) each own is = absurd is
keys_hold nodes F P closed truths images (safe_pick ts keys indices) each own is = absurd is
keys_hold nodes F P closed truths images (compare op a b) each own is = absurd is
keys_hold nodes F P closed truths images (lex op ts us) each own is = absurd is
keys_hold nodes F P closed truths images (member a ns) each own is = absurd is
keys_hold nodes F P closed truths images (negation a) each own is = absurd is
keys_hold nodes F P closed truths images (all_of ts) each own is = absurd is
keys_hold nodes F P closed truths images (any_of ts) each own is = absurd is
keys_hold nodes F P closed truths images (same_truth a b) each own is = absurd is
keys_hold nodes F P closed truths images (all_different ts) each own is = absurd is
keys_hold nodes F P closed truths images (counts ts ns us) each own is = absurd is
keys_hold nodes F P closed truths images (at_least ts cs ns) each own is = absurd is
keys_hold nodes F P closed truths images (at_most ts cs ns) each own is = absurd is
keys_hold nodes F P closed truths images (table ts rows) each own is = absurd is

whole_holds : (nodes : List GroundNode) (F : GroundNode → Type 0) (P : ℕ → Type 0) → Closed nodes F P → ((other : GroundNode) → image_kind other ≡ Kind.Truth → F other) → (images : List Image) (node : GroundNode) (image : Image) → ((p : ℕ) → Contains (parts_of node) p → HoldsOf P (image_at images p)) → IsWholeImage nodes images node image → HoldsOf P image
unfolding IsWholeImage parts_of image_kind
whole_holds nodes F P closed truths images (constant n) image each is = absurd is
whole_holds nodes F P closed truths images undefined image each is = absurd is
whole_holds nodes F P closed truths images (cell k) image each is = absurd is
whole_holds nodes F P closed truths images (sum c parts) image each is = absurd is
whole_holds nodes F P closed truths images (product a b) image each is = absurd is
whole_holds nodes F P closed truths images (quotient a b) image each is = absurd is
whole_holds nodes F P closed truths images (remainder a b) image each is = absurd is
whole_holds nodes F P closed truths images (power a n) image each is = absurd is
whole_holds nodes F P closed truths images (absolute a) image each is = absurd is
whole_holds nodes F P closed truths images (least ts) image each is = absurd is
whole_holds nodes F P closed truths images (greatest ts) image each is = absurd is
whole_holds nodes F P closed truths images (pick ts keys indices) image each is = absurd is
whole_holds nodes F P closed truths images (whole a ts) image each is = (
  subst P (sym is.0) (each a (0, omega arith, refl)).0,
  conjunction_holds nodes F P closed (λ gs. truths (all_of gs) refl) (guards_in images (a ∷ ts)) image.guard (guards_hold P images (a ∷ ts) each) is.1,
)
whole_holds nodes F P closed truths images (safe_quotient a b) image each is = absurd is
whole_holds nodes F P closed truths images (safe_remainder a b) image each is = absurd is
whole_holds nodes F P closed truths images (safe_pick ts keys indices) image each is = absurd is
whole_holds nodes F P closed truths images (compare op a b) image each is = absurd is
whole_holds nodes F P closed truths images (lex op ts us) image each is = absurd is
whole_holds nodes F P closed truths images (member a ns) image each is = absurd is
whole_holds nodes F P closed truths images (negation a) image each is = absurd is
whole_holds nodes F P closed truths images (all_of ts) image each is = absurd is
whole_holds nodes F P closed truths images (any_of ts) image each is = absurd is
whole_holds nodes F P closed truths images (same_truth a b) image each is = absurd is
whole_holds nodes F P closed truths images (all_different ts) image each is = absurd is
whole_holds nodes F P closed truths images (counts ts ns us) image each is = absurd is
whole_holds nodes F P closed truths images (at_least ts cs ns) image each is = absurd is
whole_holds nodes F P closed truths images (at_most ts cs ns) image each is = absurd is
whole_holds nodes F P closed truths images (table ts rows) image each is = absurd is

image_holds : (kind : Kind) (nodes : List GroundNode) (F : GroundNode → Type 0) (P : ℕ → Type 0) → Closed nodes F P → ((other : GroundNode) → image_kind other ≡ Kind.Truth → F other) → (images : List Image) (nought : ℕ) → P nought → (node : GroundNode) (image : Image) → F (over_totals images node) → ((p : ℕ) → Contains (parts_of node) p → HoldsOf P (image_at images p)) → IsImageBy kind nodes nought images node image → HoldsOf P image
unfolding IsImageBy image_kind
image_holds Kind.Nothing nodes F P closed truths images nought nil node image fits each is = (subst P (sym is.total) nil, subst (λ o. IfSome o P) (sym is.guard) nil)
image_holds Kind.Number nodes F P closed truths images nought nil node image fits each is = (
  node_holds nodes F P closed images node fits each image.total is.total,
  conjunction_holds nodes F P closed (λ gs. truths (all_of gs) refl) (guards_in images (parts_of node)) image.guard (guards_hold P images (parts_of node) each) is.guard,
)
image_holds Kind.Truth nodes F P closed truths images nought nil node image fits each is = (
  conjunction_holds nodes F P closed (λ gs. truths (all_of gs) refl) (guards_in images (parts_of node) ++ is.plain ∷ []) (Some image.total)
      (λ g found. elim (Contains-append_cases (guards_in images (parts_of node)) (is.plain ∷ []) g found) as (λ _. P g) [
        | inl inner ↦ guards_hold P images (parts_of node) each g inner
        | inr last ↦ elim (of_cons is.plain [] g last) as (λ _. P g) [
          | inl e ↦ subst P e (node_holds nodes F P closed images node fits each is.plain is.is)
          | inr h ↦ none_there g h
        ]
      ]) is.total,
  subst (λ o. IfSome o P) (sym is.guard) tt,
)
image_holds Kind.Division nodes F P closed truths images nought nil node image fits each is =
    tested_holds nodes F P closed (λ gs. truths (all_of gs) refl) images node (IsDivisorTest nodes nought images node) image fits each (divisor_holds nodes F P closed truths images nought nil node each) is
image_holds Kind.Pick nodes F P closed truths images nought nil node image fits each is =
    tested_holds nodes F P closed (λ gs. truths (all_of gs) refl) images node (IsKeyTest nodes images node) image fits each (keys_hold nodes F P closed truths images node each) is
image_holds Kind.Whole nodes F P closed truths images nought nil node image fits each is = whole_holds nodes F P closed truths images node image each is

-- what stands for a node stands in the new nodes
pub image_stands_in : (nodes : List GroundNode) (images : List Image) (nought : ℕ) (node : GroundNode) (image : Image) → IsNodeAt nodes nought (constant (pos 0)) → ((p : ℕ) → Contains (parts_of node) p → StandsIn nodes (image_at images p)) → IsImage nodes nought images node image → StandsIn nodes image
image_stands_in nodes images nought node image zero_is each is =
    let h = image_holds (image_kind node) nodes (λ other. Unit {0}) (λ t. t < length nodes) (λ t other there fits parts. slice_get_within nodes t other there) (λ other e. tt) images nought
    (slice_get_within nodes nought (constant (pos 0)) zero_is) node image tt (λ p found. let e = each p found in (e.total, e.guard)) is in
    record { total = h.0; guard = h.1 }

-- a node within bounds
abbrev Fits : List GroundNode → List Cell → GroundNode → Type 0
Fits nodes cells node = IsWithinReach (node_reach cells (term_reach nodes cells) node) × All IsWithinNumbers (coefficients_of node)

truth_fits : (nodes : List GroundNode) (cells : List Cell) (node : GroundNode) → image_kind node ≡ Kind.Truth → Fits nodes cells node
truth_fits nodes cells node kind = (
  subst IsWithinReach (sym (truth_reach cells (term_reach nodes cells) node kind)) (record { low = (search rules, search rules); high = (search rules, search rules) }),
  subst (All IsWithinNumbers) (sym (truth_weights node kind)) (All-nil IsWithinNumbers),
)

nought_bounded : (nodes : List GroundNode) (cells : List Cell) → PartsStandBefore nodes → (nought : ℕ) → IsNodeAt nodes nought (constant (pos 0)) → IsBoundedBelow nodes cells nought
unfolding node_reach coefficients_of parts_of
nought_bounded nodes cells before nought is =
    bounded_node nodes cells before nought (constant (pos 0)) is (record { low = (search rules, search rules); high = (search rules, search rules) }) (All-nil IsWithinNumbers) (λ p found. none_there p found)

-- what stands for a node stays within bounds where the node does
pub image_bounded : (olds news : List GroundNode) (cells : List Cell) (images : List Image) (nought t : ℕ) (node : GroundNode) (image : Image) → PartsStandBefore olds → PartsStandBefore news → IsNodeAt news nought (constant (pos 0)) → IsNodeAt olds t node
    → ((p : ℕ) → Contains (parts_of node) p → Translated cells olds news p (image_at images p)) → IsImage news nought images node image → IsBoundedBelow olds cells t → IsBoundedBelow news cells image.total × IfSome image.guard (IsBoundedBelow news cells)
image_bounded olds news cells images nought t node image olds_before before zero_is at each is bounded =
    let here = bounded t (itself t) in
    image_holds (image_kind node) news (Fits news cells) (IsBoundedBelow news cells)
    (λ k other there fits parts. bounded_node news cells before k other there fits.0 fits.1 parts) (truth_fits news cells) images nought
    (nought_bounded news cells before nought zero_is) node image (
      subst IsWithinReach (reach_is olds cells olds_before t node at ∙ sym (totals_reach cells (term_reach olds cells) (term_reach news cells) images node (λ p found. (each p found).reach))) here.0,
      subst (All IsWithinNumbers) (sym (weights_with (total_at images) node)) (subst (λ n. All IsWithinNumbers (coefficients_of n)) (get_or_from_slice_get olds t node undefined at) here.1),
    )
    (λ p found. (each p found).bounded (bounded_part olds cells t node at bounded p found)) is

-- what stands for a term of a node
pub translated_node : (cells : List Cell) (olds news : List GroundNode) (images : List Image) (nought t : ℕ) (node : GroundNode) (image : Image) → PartsStandBefore olds → PartsStandBefore news → StandsOver (length cells) node → IsNodeAt news nought (constant (pos 0)) → IsNodeAt olds t node
    → ((p : ℕ) → Contains (parts_of node) p → Translated cells olds news p (image_at images p)) → IsImage news nought images node image → Translated cells olds news t image
unfolding node_value
translated_node cells olds news images nought t node image olds_before before stands zero_is at each is = record {
  there = image_stands_in news images nought node image zero_is (λ p found. (each p found).there) is;
  stands = λ values many.
      subst (λ o. StandsForTerm (term_value news values) o image) (sym (value_is olds values olds_before t node at))
      (stands_by (image_kind node) news values (term_value olds values) (term_value news values) images nought node image refl
      (value_is news values before nought (constant (pos 0)) zero_is)
      (record {
        follows = value_is news values before;
        each = λ p found. (each p found).stands values many;
        stands = subst (λ n. StandsOver n node) (sym many) stands;
      }) is);
  reach = image_reach (image_kind node) olds news cells nought images node image refl before zero_is (λ p found. (each p found).reach) is ∙ sym (reach_is olds cells olds_before t node at);
  bounded = image_bounded olds news cells images nought t node image olds_before before zero_is at each is;
}

truth_more : (nodes more : List GroundNode) (values : List ℤ) (o : Option ℕ) (b : Bool) → IfSome o (λ g. g < length nodes) → IsTruth (term_value nodes values) o b → IsTruth (term_value (nodes ++ more) values) o b
truth_more nodes more values None b below h = h
truth_more nodes more values (Some g) b below h = value_more nodes more values g below ∙ h

guard_more : (nodes more : List GroundNode) (o : Option ℕ) → IfSome o (λ g. g < length nodes) → IfSome o (λ g. g < length (nodes ++ more))
guard_more nodes more None below = tt
guard_more nodes more (Some g) below = omega (arith, below, length-append nodes more)

bounded_guard_more : (nodes more : List GroundNode) (cells : List Cell) → PartsStandBefore nodes → (o : Option ℕ) → IfSome o (λ g. g < length nodes) → IfSome o (IsBoundedBelow nodes cells) → IfSome o (IsBoundedBelow (nodes ++ more) cells)
bounded_guard_more nodes more cells before None below h = tt
bounded_guard_more nodes more cells before (Some g) below h = bounded_more nodes more cells before g below h

-- what stands for a term does so among more nodes
pub translated_more : (cells : List Cell) (olds nodes more : List GroundNode) (t : ℕ) (image : Image) → PartsStandBefore nodes → Translated cells olds nodes t image → Translated cells olds (nodes ++ more) t image
translated_more cells olds nodes more t image before h = record {
  there = record { total = omega (arith, h.there.total, length-append nodes more); guard = guard_more nodes more image.guard h.there.guard };
  stands = λ values many. let s = h.stands values many in record {
    number = s.number;
    has = s.has;
    total = value_more nodes more values image.total h.there.total ∙ s.total;
    guard = truth_more nodes more values image.guard s.has h.there.guard s.guard;
    is = s.is;
  };
  reach = reach_more nodes more cells image.total h.there.total ∙ h.reach;
  bounded = λ b. let was = h.bounded b in (bounded_more nodes more cells before image.total h.there.total was.0, bounded_guard_more nodes more cells before image.guard h.there.guard was.1);
}

-- one node more
pub translates_more : (cells : List Cell) (olds news later : List GroundNode) (nought : ℕ) (images : List Image) (node : GroundNode) (image : Image) → PartsStandBefore olds → All (StandsOver (length cells)) olds → Translates cells olds news nought images
    → IsNodeAt olds (length images) node → Grows node 3 news later → IsImage later nought images node image → Translates cells olds later nought (images ++ image ∷ [])
translates_more cells olds news later nought images node image olds_before stands h at grows is =
    let before = grows.before h.before in
    let zero_is = subst (λ ns. IsNodeAt ns nought (constant (pos 0))) (sym grows.is) (is_more news grows.more nought (constant (pos 0)) h.is_nought) in
    let each = λ (t : ℕ) (below : t < length images). subst (λ ns. Translated cells olds ns t (image_at images t)) (sym grows.is) (translated_more cells olds news grows.more t (image_at images t) h.before (h.each t below)) in
    let over : StandsOver (length cells) node = subst (StandsOver (length cells)) (get_or_from_slice_get olds (length images) node undefined at) (All-get_or (StandsOver (length cells)) olds (length images) undefined (slice_get_within olds (length images) node at) stands) in
    let last = translated_node cells olds later images nought (length images) node image olds_before before over zero_is at
    (λ p found. each p (All-contains (λ part. part < length images) (parts_of node) p (olds_before (length images) node at) found)) is in
    record {
      before = before;
      is_nought = zero_is;
      each = λ t below. elim (lt_or_eq t (length images) (subst (λ n. t < n) (length_push images image) below)) as (λ _. Translated cells olds later t (image_at (images ++ image ∷ []) t)) [
        | inl less ↦ subst (Translated cells olds later t) (sym (get_or_append_left images (image ∷ []) nowhere t less)) (each t less)
        | inr same ↦ subst (λ k. Translated cells olds later k (image_at (images ++ image ∷ []) k)) (sym same) (subst (Translated cells olds later (length images)) (sym (get_or_at images image [] nowhere (length images) refl)) last)
      ];
      safe = subst (All (IsSafeOver (length cells))) (sym grows.is) (All-append (IsSafeOver (length cells)) news grows.more h.safe (grows.safe (length cells) over));
      few = omega (arith, h.few, grows.few, ap length grows.is, length-append news grows.more, length_push images image);
    }
