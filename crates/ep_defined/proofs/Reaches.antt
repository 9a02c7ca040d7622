-- Terms among more nodes, and how far what stands for a node reaches.
use Rattle.std.proofs.Common.{◌≡◌, ℕ, zero, suc, ◌<◌, ℤ, pos, List, [], ◌∷◌, ◌++◌, length, Option, Some, None, refl, sym, ap, subst, ◌∙◌, arith, slice_get, slice_index_or}
use Rattle.std.specs.List.{All, Contains}
use Rattle.std.proofs.lemmas.List.{get_or_append_left}
use Rattle.std.proofs.lemmas.List.Elements.{All-contains}
use Rattle.std.proofs.lemmas.Option.{slice_get_within, same_Some, get_or_from_slice_get}
use Rattle.ep_base.specs.Intervals.{Interval, IsWithinReach, truth_interval}
use Rattle.ep_base.specs.Reads.{IsWithinNumbers}
use Rattle.ep_defined.specs.Growing.{IsNodeAt}
use Rattle.ep_defined.specs.Images.{IsConjunction, IsImageBy, IsWholeImage, guards_in, image_kind, made_safe, over_totals, total_at}
use Rattle.ep_defined.specs.Translations.{IsBoundedBelow}
use Rattle.ep_defined.specs.declared.images.Image.{Image}
use Rattle.ep_defined.specs.declared.kinds.Kind.{Kind}
use Rattle.ep_defined.proofs.KindSteps.{safe_parts}
use Rattle.ep_ground.proofs.SameParts.{reach_as, weights_same}
use Rattle.ep_ground.proofs.TermLaws.{reach_is, reach_more}
use Rattle.ep_ground.specs.Bounds.{node_reach, term_reach}
use Rattle.ep_ground.specs.Grounds.{LeadsTo, itself, by_part}
use Rattle.ep_ground.specs.Nodes.{GroundNode, constant, undefined, cell, sum, product, quotient, remainder, power, absolute, least, greatest, pick, whole, safe_quotient, safe_remainder, safe_pick, compare, lex, member, negation, all_of, any_of, same_truth, all_different, counts, at_least, at_most, table, parts_of, coefficients_of}
use Rattle.ep_ground.specs.SameTrees.{with_parts}
use Rattle.ep_ground.specs.Terms.{PartsStandBefore}
use Rattle.ep_ground.specs.declared.cells.Cell.{Cell}

pub get_more : {X : Type 0} (xs ys : List X) (k : ℕ) → k < length xs → slice_get (xs ++ ys) k ≡ slice_get xs k
get_more [] ys k below = absurd (omega (arith, below))
get_more (x ∷ xs) ys zero below = refl
get_more (x ∷ xs) ys (suc k) below = get_more xs ys k (omega (arith, below))

-- the node of a term stays
pub is_more : (nodes more : List GroundNode) (t : ℕ) (node : GroundNode) → IsNodeAt nodes t node → IsNodeAt (nodes ++ more) t node
is_more nodes more t node is = get_more nodes more t (slice_get_within nodes t node is) ∙ is

pub leads_more : (nodes more : List GroundNode) → PartsStandBefore nodes → (t u : ℕ) → t < length nodes → LeadsTo (nodes ++ more) t u → LeadsTo nodes t u × (u < length nodes)
leads_more nodes more before t _ below (itself _) = (itself t, below)
leads_more nodes more before t u below (by_part _ part _ node is found rest) =
    let here = sym (get_more nodes more t below) ∙ is in
    let inner = leads_more nodes more before part u (let h = All-contains (λ p. p < t) (parts_of node) part (before t node here) found in omega (arith, h, below)) rest in
    (by_part t part u node here found inner.0, inner.1)

-- a term that stays within bounds does so among more nodes
pub bounded_more : (nodes more : List GroundNode) (cells : List Cell) → PartsStandBefore nodes → (t : ℕ) → t < length nodes → IsBoundedBelow nodes cells t → IsBoundedBelow (nodes ++ more) cells t
bounded_more nodes more cells before t below h = λ u leads.
    let inner = leads_more nodes more before t u below leads in
    let was = h u inner.0 in (
      subst IsWithinReach (sym (reach_more nodes more cells u inner.1)) was.0,
      subst (λ n. All IsWithinNumbers (coefficients_of n)) (sym (get_or_append_left nodes more undefined u inner.1)) was.1,
    )

-- a node stays within bounds where it does itself and its parts do
pub bounded_node : (nodes : List GroundNode) (cells : List Cell) → PartsStandBefore nodes → (t : ℕ) (node : GroundNode) → IsNodeAt nodes t node → IsWithinReach (node_reach cells (term_reach nodes cells) node) → All IsWithinNumbers (coefficients_of node) → ((p : ℕ) → Contains (parts_of node) p → IsBoundedBelow nodes cells p) → IsBoundedBelow nodes cells t
bounded_node nodes cells before t node is reach weights parts = λ u leads. by u leads
  where
    by : (u : ℕ) → LeadsTo nodes t u → IsWithinReach (term_reach nodes cells u) × All IsWithinNumbers (coefficients_of (slice_index_or nodes u undefined))
    by _ (itself _) = (
      subst IsWithinReach (sym (reach_is nodes cells before t node is)) reach,
      subst (λ n. All IsWithinNumbers (coefficients_of n)) (sym (get_or_from_slice_get nodes t node undefined is)) weights,
    )
    by u (by_part _ part _ other at found rest) =
        let same : other ≡ node = same_Some other node (sym at ∙ is) in
        parts part (subst (λ n. Contains (parts_of n) part) same found) u rest

-- and then its parts do
pub bounded_part : (nodes : List GroundNode) (cells : List Cell) (t : ℕ) (node : GroundNode) → IsNodeAt nodes t node → IsBoundedBelow nodes cells t → (p : ℕ) → Contains (parts_of node) p → IsBoundedBelow nodes cells p
bounded_part nodes cells t node is h p found = λ u leads. h u (by_part t p u node is found leads)

safe_reach : (cells : List Cell) (r : ℕ → Interval) (node : GroundNode) → node_reach cells r (made_safe node) ≡ node_reach cells r node
unfolding node_reach made_safe
safe_reach cells r (constant n) = refl
safe_reach cells r undefined = refl
safe_reach cells r (cell k) = refl
safe_reach cells r (sum c parts) = refl
safe_reach cells r (product a b) = refl
safe_reach cells r (quotient a b) = refl
safe_reach cells r (remainder a b) = refl
safe_reach cells r (power a n) = refl
safe_reach cells r (absolute a) = refl
safe_reach cells r (least ts) = refl
safe_reach cells r (greatest ts) = refl
safe_reach cells r (pick ts keys indices) = refl
safe_reach cells r (whole a ts) = refl
safe_reach cells r (safe_quotient a b) = refl
safe_reach cells r (safe_remainder a b) = refl
safe_reach cells r (safe_pick ts keys indices) = refl
safe_reach cells r (compare op a b) = refl
safe_reach cells r (lex op ts us) = refl
safe_reach cells r (member a ns) = refl
safe_reach cells r (negation a) = refl
safe_reach cells r (all_of ts) = refl
safe_reach cells r (any_of ts) = refl
safe_reach cells r (same_truth a b) = refl
safe_reach cells r (all_different ts) = refl
safe_reach cells r (counts ts ns us) = refl
safe_reach cells r (at_least ts cs ns) = refl
safe_reach cells r (at_most ts cs ns) = refl
safe_reach cells r (table ts rows) = refl

truth_with : (f : ℕ → ℕ) (node : GroundNode) → image_kind node ≡ Kind.Truth → image_kind (with_parts f (made_safe node)) ≡ Kind.Truth
unfolding image_kind made_safe with_parts
truth_with f (constant n) e = absurd (cc)
truth_with f undefined e = absurd (cc)
truth_with f (cell k) e = absurd (cc)
truth_with f (sum c parts) e = absurd (cc)
truth_with f (product a b) e = absurd (cc)
truth_with f (quotient a b) e = absurd (cc)
truth_with f (remainder a b) e = absurd (cc)
truth_with f (power a n) e = absurd (cc)
truth_with f (absolute a) e = absurd (cc)
truth_with f (least ts) e = absurd (cc)
truth_with f (greatest ts) e = absurd (cc)
truth_with f (pick ts keys indices) e = absurd (cc)
truth_with f (whole a ts) e = absurd (cc)
truth_with f (safe_quotient a b) e = absurd (cc)
truth_with f (safe_remainder a b) e = absurd (cc)
truth_with f (safe_pick ts keys indices) e = absurd (cc)
truth_with f (compare op a b) e = refl
truth_with f (lex op ts us) e = refl
truth_with f (member a ns) e = refl
truth_with f (negation a) e = refl
truth_with f (all_of ts) e = refl
truth_with f (any_of ts) e = refl
truth_with f (same_truth a b) e = refl
truth_with f (all_different ts) e = refl
truth_with f (counts ts ns us) e = refl
truth_with f (at_least ts cs ns) e = refl
truth_with f (at_most ts cs ns) e = refl
truth_with f (table ts rows) e = refl

pub truth_reach : (cells : List Cell) (r : ℕ → Interval) (node : GroundNode) → image_kind node ≡ Kind.Truth → node_reach cells r node ≡ truth_interval
unfolding image_kind node_reach
truth_reach cells r (constant n) e = absurd (cc)
truth_reach cells r undefined e = absurd (cc)
truth_reach cells r (cell k) e = absurd (cc)
truth_reach cells r (sum c parts) e = absurd (cc)
truth_reach cells r (product a b) e = absurd (cc)
truth_reach cells r (quotient a b) e = absurd (cc)
truth_reach cells r (remainder a b) e = absurd (cc)
truth_reach cells r (power a n) e = absurd (cc)
truth_reach cells r (absolute a) e = absurd (cc)
truth_reach cells r (least ts) e = absurd (cc)
truth_reach cells r (greatest ts) e = absurd (cc)
truth_reach cells r (pick ts keys indices) e = absurd (cc)
truth_reach cells r (whole a ts) e = absurd (cc)
truth_reach cells r (safe_quotient a b) e = absurd (cc)
truth_reach cells r (safe_remainder a b) e = absurd (cc)
truth_reach cells r (safe_pick ts keys indices) e = absurd (cc)
truth_reach cells r (compare op a b) e = refl
truth_reach cells r (lex op ts us) e = refl
truth_reach cells r (member a ns) e = refl
truth_reach cells r (negation a) e = refl
truth_reach cells r (all_of ts) e = refl
truth_reach cells r (any_of ts) e = refl
truth_reach cells r (same_truth a b) e = refl
truth_reach cells r (all_different ts) e = refl
truth_reach cells r (counts ts ns us) e = refl
truth_reach cells r (at_least ts cs ns) e = refl
truth_reach cells r (at_most ts cs ns) e = refl
truth_reach cells r (table ts rows) e = refl

pub truth_weights : (node : GroundNode) → image_kind node ≡ Kind.Truth → coefficients_of node ≡ []
unfolding image_kind coefficients_of
truth_weights (constant n) e = absurd (cc)
truth_weights undefined e = absurd (cc)
truth_weights (cell k) e = absurd (cc)
truth_weights (sum c parts) e = absurd (cc)
truth_weights (product a b) e = absurd (cc)
truth_weights (quotient a b) e = absurd (cc)
truth_weights (remainder a b) e = absurd (cc)
truth_weights (power a n) e = absurd (cc)
truth_weights (absolute a) e = absurd (cc)
truth_weights (least ts) e = absurd (cc)
truth_weights (greatest ts) e = absurd (cc)
truth_weights (pick ts keys indices) e = absurd (cc)
truth_weights (whole a ts) e = absurd (cc)
truth_weights (safe_quotient a b) e = absurd (cc)
truth_weights (safe_remainder a b) e = absurd (cc)
truth_weights (safe_pick ts keys indices) e = absurd (cc)
truth_weights (compare op a b) e = refl
truth_weights (lex op ts us) e = refl
truth_weights (member a ns) e = refl
truth_weights (negation a) e = refl
truth_weights (all_of ts) e = refl
truth_weights (any_of ts) e = refl
truth_weights (same_truth a b) e = refl
truth_weights (all_different ts) e = refl
truth_weights (counts ts ns us) e = refl
truth_weights (at_least ts cs ns) e = refl
truth_weights (at_most ts cs ns) e = refl
truth_weights (table ts rows) e = refl

pub weights_with : (f : ℕ → ℕ) (node : GroundNode) → coefficients_of (with_parts f (made_safe node)) ≡ coefficients_of node
unfolding coefficients_of made_safe with_parts
weights_with f (constant n) = refl
weights_with f undefined = refl
weights_with f (cell k) = refl
weights_with f (sum c parts) = weights_same f parts
weights_with f (product a b) = refl
weights_with f (quotient a b) = refl
weights_with f (remainder a b) = refl
weights_with f (power a n) = refl
weights_with f (absolute a) = refl
weights_with f (least ts) = refl
weights_with f (greatest ts) = refl
weights_with f (pick ts keys indices) = refl
weights_with f (whole a ts) = refl
weights_with f (safe_quotient a b) = refl
weights_with f (safe_remainder a b) = refl
weights_with f (safe_pick ts keys indices) = refl
weights_with f (compare op a b) = refl
weights_with f (lex op ts us) = refl
weights_with f (member a ns) = refl
weights_with f (negation a) = refl
weights_with f (all_of ts) = refl
weights_with f (any_of ts) = refl
weights_with f (same_truth a b) = refl
weights_with f (all_different ts) = refl
weights_with f (counts ts ns us) = refl
weights_with f (at_least ts cs ns) = refl
weights_with f (at_most ts cs ns) = refl
weights_with f (table ts rows) = refl

-- how far the node over totals reaches
pub totals_reach : (cells : List Cell) (r q : ℕ → Interval) (images : List Image) (node : GroundNode) → ((p : ℕ) → Contains (parts_of node) p → q (total_at images p) ≡ r p) → node_reach cells q (over_totals images node) ≡ node_reach cells r node
totals_reach cells r q images node same =
    sym (reach_as cells r q (total_at images) (made_safe node) (λ p found. sym (same p (subst (λ ts. Contains ts p) (safe_parts node) found))))
    ∙ safe_reach cells r node

conjunction_reach : (nodes : List GroundNode) (cells : List Cell) → PartsStandBefore nodes → (gs : List ℕ) (plain t : ℕ) → term_reach nodes cells plain ≡ truth_interval → IsConjunction nodes (gs ++ plain ∷ []) (Some t) → term_reach nodes cells t ≡ truth_interval
unfolding IsConjunction node_reach
conjunction_reach nodes cells before [] plain t e is = ap (term_reach nodes cells) is ∙ e
conjunction_reach nodes cells before (g ∷ []) plain t e is = reach_is nodes cells before t (all_of (g ∷ plain ∷ [])) is
conjunction_reach nodes cells before (g ∷ k ∷ gs) plain t e is = reach_is nodes cells before t (all_of (g ∷ k ∷ (gs ++ plain ∷ []))) is

nothing_reach : (cells : List Cell) (q r : ℕ → Interval) (node : GroundNode) → image_kind node ≡ Kind.Nothing → node_reach cells q (constant (pos 0)) ≡ node_reach cells r node
unfolding image_kind node_reach
nothing_reach cells q r (constant n) e = absurd (cc)
nothing_reach cells q r undefined e = refl
nothing_reach cells q r (cell k) e = absurd (cc)
nothing_reach cells q r (sum c parts) e = absurd (cc)
nothing_reach cells q r (product a b) e = absurd (cc)
nothing_reach cells q r (quotient a b) e = absurd (cc)
nothing_reach cells q r (remainder a b) e = absurd (cc)
nothing_reach cells q r (power a n) e = absurd (cc)
nothing_reach cells q r (absolute a) e = absurd (cc)
nothing_reach cells q r (least ts) e = absurd (cc)
nothing_reach cells q r (greatest ts) e = absurd (cc)
nothing_reach cells q r (pick ts keys indices) e = absurd (cc)
nothing_reach cells q r (whole a ts) e = absurd (cc)
nothing_reach cells q r (safe_quotient a b) e = absurd (cc)
nothing_reach cells q r (safe_remainder a b) e = absurd (cc)
nothing_reach cells q r (safe_pick ts keys indices) e = absurd (cc)
nothing_reach cells q r (compare op a b) e = absurd (cc)
nothing_reach cells q r (lex op ts us) e = absurd (cc)
nothing_reach cells q r (member a ns) e = absurd (cc)
nothing_reach cells q r (negation a) e = absurd (cc)
nothing_reach cells q r (all_of ts) e = absurd (cc)
nothing_reach cells q r (any_of ts) e = absurd (cc)
nothing_reach cells q r (same_truth a b) e = absurd (cc)
nothing_reach cells q r (all_different ts) e = absurd (cc)
nothing_reach cells q r (counts ts ns us) e = absurd (cc)
nothing_reach cells q r (at_least ts cs ns) e = absurd (cc)
nothing_reach cells q r (at_most ts cs ns) e = absurd (cc)
nothing_reach cells q r (table ts rows) e = absurd (cc)

whole_reach : (news : List GroundNode) (cells : List Cell) (r : ℕ → Interval) (images : List Image) (node : GroundNode) (image : Image) → image_kind node ≡ Kind.Whole → ((p : ℕ) → Contains (parts_of node) p → term_reach news cells (total_at images p) ≡ r p) → IsWholeImage news images node image → term_reach news cells image.total ≡ node_reach cells r node
unfolding image_kind node_reach parts_of IsWholeImage
whole_reach news cells r images (constant n) image kind same is = absurd (cc)
whole_reach news cells r images undefined image kind same is = absurd (cc)
whole_reach news cells r images (cell k) image kind same is = absurd (cc)
whole_reach news cells r images (sum c parts) image kind same is = absurd (cc)
whole_reach news cells r images (product a b) image kind same is = absurd (cc)
whole_reach news cells r images (quotient a b) image kind same is = absurd (cc)
whole_reach news cells r images (remainder a b) image kind same is = absurd (cc)
whole_reach news cells r images (power a n) image kind same is = absurd (cc)
whole_reach news cells r images (absolute a) image kind same is = absurd (cc)
whole_reach news cells r images (least ts) image kind same is = absurd (cc)
whole_reach news cells r images (greatest ts) image kind same is = absurd (cc)
whole_reach news cells r images (pick ts keys indices) image kind same is = absurd (cc)
whole_reach news cells r images (whole a ts) image kind same is = ap (term_reach news cells) is.0 ∙ same a (0, omega arith, refl)
whole_reach news cells r images (safe_quotient a b) image kind same is = absurd (cc)
whole_reach news cells r images (safe_remainder a b) image kind same is = absurd (cc)
whole_reach news cells r images (safe_pick ts keys indices) image kind same is = absurd (cc)
whole_reach news cells r images (compare op a b) image kind same is = absurd (cc)
whole_reach news cells r images (lex op ts us) image kind same is = absurd (cc)
whole_reach news cells r images (member a ns) image kind same is = absurd (cc)
whole_reach news cells r images (negation a) image kind same is = absurd (cc)
whole_reach news cells r images (all_of ts) image kind same is = absurd (cc)
whole_reach news cells r images (any_of ts) image kind same is = absurd (cc)
whole_reach news cells r images (same_truth a b) image kind same is = absurd (cc)
whole_reach news cells r images (all_different ts) image kind same is = absurd (cc)
whole_reach news cells r images (counts ts ns us) image kind same is = absurd (cc)
whole_reach news cells r images (at_least ts cs ns) image kind same is = absurd (cc)
whole_reach news cells r images (at_most ts cs ns) image kind same is = absurd (cc)
whole_reach news cells r images (table ts rows) image kind same is = absurd (cc)

-- what stands for a node reaches as far as the node
pub image_reach : (kind : Kind) (olds news : List GroundNode) (cells : List Cell) (nought : ℕ) (images : List Image) (node : GroundNode) (image : Image) → image_kind node ≡ kind → PartsStandBefore news → IsNodeAt news nought (constant (pos 0))
    → ((p : ℕ) → Contains (parts_of node) p → term_reach news cells (total_at images p) ≡ term_reach olds cells p) → IsImageBy kind news nought images node image → term_reach news cells image.total ≡ node_reach cells (term_reach olds cells) node
unfolding IsImageBy
image_reach Kind.Nothing olds news cells nought images node image kind before zero_is same is = nothing node kind
  where
    nothing : (other : GroundNode) → image_kind other ≡ Kind.Nothing → term_reach news cells image.total ≡ node_reach cells (term_reach olds cells) other
    nothing other e = ap (term_reach news cells) is.total ∙ reach_is news cells before nought (constant (pos 0)) zero_is ∙ nothing_reach cells (term_reach news cells) (term_reach olds cells) other e
image_reach Kind.Number olds news cells nought images node image kind before zero_is same is =
    reach_is news cells before image.total (over_totals images node) is.total ∙ totals_reach cells (term_reach olds cells) (term_reach news cells) images node same
image_reach Kind.Truth olds news cells nought images node image kind before zero_is same is =
    conjunction_reach news cells before (guards_in images (parts_of node)) is.plain image.total
    (reach_is news cells before is.plain (over_totals images node) is.is ∙ truth_reach cells (term_reach news cells) (over_totals images node) (truth_with (total_at images) node kind)) is.total
    ∙ sym (truth_reach cells (term_reach olds cells) node kind)
image_reach Kind.Division olds news cells nought images node image kind before zero_is same is =
    reach_is news cells before image.total (over_totals images node) is.total ∙ totals_reach cells (term_reach olds cells) (term_reach news cells) images node same
image_reach Kind.Pick olds news cells nought images node image kind before zero_is same is =
    reach_is news cells before image.total (over_totals images node) is.total ∙ totals_reach cells (term_reach olds cells) (term_reach news cells) images node same
image_reach Kind.Whole olds news cells nought images node image kind before zero_is same is = whole_reach news cells (term_reach olds cells) images node image kind same is
