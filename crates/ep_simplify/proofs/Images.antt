-- One node more of an old ground, and what stands for it.
use Rattle.std.proofs.Common.{◌≡◌, ℕ, ◌-◌, ◌<◌, ◌≤◌, ◌^◌, inl, inr, true, false, ℤ, List, [], ◌∷◌, ◌++◌, length, Some, refl, sym, ap, subst, ◌∙◌, arith, slice_get}
use Rattle.std.specs.Prelude.{get_or, map, slice_index_or}
use Rattle.std.specs.List.{All, Contains}
use Rattle.std.proofs.lemmas.List.{get_or_append_left, get_or_at, length-append, length-map, length_push}
use Rattle.std.proofs.lemmas.List.Elements.{All-contains, All-get_or, All-nil, Contains-append_right, Contains-get_or}
use Rattle.std.proofs.lemmas.Option.{get_or_from_slice_get, none-some, slice_get_within}
use Rattle.ep_base.specs.Intervals.{IsWithinReach}
use Rattle.ep_base.specs.Reads.{IsWithinNumbers}
use Rattle.ep_defined.proofs.Parts.{none_there, of_cons}
use Rattle.ep_defined.proofs.Reaches.{leads_more}
use Rattle.ep_defined.specs.Growing.{IsNodeAt, IsSafeOver}
use Rattle.ep_ground.proofs.SameParts.{node_as, parts_with, reach_as, weights_same}
use Rattle.ep_ground.proofs.TermLaws.{reach_is, reach_more, value_is, value_more}
use Rattle.ep_ground.specs.Bounds.{node_reach, term_reach}
use Rattle.ep_ground.specs.Grounds.{GroundState, LeadsTo, StandsOver, itself, by_part, additions_in}
use Rattle.ep_ground.specs.Nodes.{GroundNode, constant, undefined, cell, sum, product, quotient, remainder, power, absolute, least, greatest, pick, whole, safe_quotient, safe_remainder, safe_pick, compare, lex, member, negation, all_of, any_of, same_truth, all_different, counts, at_least, at_most, table, coefficients_of, parts_of, is_partial}
use Rattle.ep_ground.specs.SameTrees.{with_parts}
use Rattle.ep_ground.specs.Terms.{PartsStandBefore, term_value}
use Rattle.ep_ground.specs.declared.cells.Cell.{Cell}
use Rattle.ep_reach.proofs.Narrower.{narrower_near, node_narrower}
use Rattle.ep_reach.proofs.Nodes.{all_at}
use Rattle.ep_reach.specs.Narrowing.{IsNarrower}
use Rattle.ep_reach.specs.Reaching.{HasFewParts, IsNearThroughout}
use Rattle.ep_simplify.proofs.Taking.{asks_through, none_more}
use Rattle.ep_simplify.proofs.Untold.{few_asked}
use Rattle.ep_simplify.proofs.Values.{less_or_last}
use Rattle.ep_numbers.specs.Spans.{intervals_of}
use Rattle.ep_simplify.specs.Decided.{IsOpen}
use Rattle.ep_simplify.specs.Settling.{AreNear, AsksNoMore, IsBelowPart, IsNearOver, IsNews, IsSettled, IsUntold, SettlesNode, reaches_of}
use Rattle.ep_simplify.specs.declared.news.News.{News}
use Rattle.ep_simplify.specs.Standing.{ComesOf, Stand, StandsInFor, standing_at}

-- ---- the node over the terms that stand for its parts

safe_with : (f : ℕ → ℕ) (cells : ℕ) (node : GroundNode) → is_partial node ≡ false → StandsOver cells node → IsSafeOver cells (with_parts f node)
unfolding is_partial StandsOver with_parts
safe_with f cells (constant n) total stands = record { whole = refl; stands = tt }
safe_with f cells undefined total stands = absurd cc
safe_with f cells (cell k) total stands = record { whole = refl; stands = stands }
safe_with f cells (sum c parts) total stands = record { whole = refl; stands = tt }
safe_with f cells (product a b) total stands = record { whole = refl; stands = tt }
safe_with f cells (quotient a b) total stands = absurd cc
safe_with f cells (remainder a b) total stands = absurd cc
safe_with f cells (power a n) total stands = record { whole = refl; stands = tt }
safe_with f cells (absolute a) total stands = record { whole = refl; stands = tt }
safe_with f cells (least ts) total stands = record { whole = refl; stands = subst (λ n. 0 < n) (sym (length-map ts f)) stands }
safe_with f cells (greatest ts) total stands = record { whole = refl; stands = subst (λ n. 0 < n) (sym (length-map ts f)) stands }
safe_with f cells (pick ts keys indices) total stands = absurd cc
safe_with f cells (whole a ts) total stands = absurd cc
safe_with f cells (safe_quotient a b) total stands = record { whole = refl; stands = tt }
safe_with f cells (safe_remainder a b) total stands = record { whole = refl; stands = tt }
safe_with f cells (safe_pick ts keys indices) total stands = record { whole = refl; stands = tt }
safe_with f cells (compare op a b) total stands = record { whole = refl; stands = tt }
safe_with f cells (lex op ts us) total stands = record { whole = refl; stands = tt }
safe_with f cells (member a ns) total stands = record { whole = refl; stands = tt }
safe_with f cells (negation a) total stands = record { whole = refl; stands = tt }
safe_with f cells (all_of ts) total stands = record { whole = refl; stands = tt }
safe_with f cells (any_of ts) total stands = record { whole = refl; stands = tt }
safe_with f cells (same_truth a b) total stands = record { whole = refl; stands = tt }
safe_with f cells (all_different ts) total stands = record { whole = refl; stands = tt }
safe_with f cells (counts ts ns us) total stands = record { whole = refl; stands = tt }
safe_with f cells (at_least ts cs ns) total stands = record { whole = refl; stands = tt }
safe_with f cells (at_most ts cs ns) total stands = record { whole = refl; stands = tt }
safe_with f cells (table ts rows) total stands = record { whole = refl; stands = tt }

-- the node of an old ground over other terms is safe
pub safe_node : (f : ℕ → ℕ) (cells : ℕ) (nodes : List GroundNode) (t : ℕ) (node : GroundNode) → All (λ n. is_partial n ≡ false) nodes → All (StandsOver cells) nodes → slice_get nodes t ≡ Some node → IsSafeOver cells (with_parts f node)
safe_node f cells nodes t node total stands at =
    let below = slice_get_within nodes t node at in
    let same = get_or_from_slice_get nodes t node undefined at in
    safe_with f cells node (subst (λ n. is_partial n ≡ false) same (All-get_or (λ n. is_partial n ≡ false) nodes t undefined below total))
    (subst (StandsOver cells) same (All-get_or (StandsOver cells) nodes t undefined below stands))

asks_none : (node other : GroundNode) → coefficients_of other ≡ coefficients_of node → additions_in (Some other) ≡ additions_in (Some node) → AsksNoMore node other
asks_none node other weights few = record {
  coefficients = subst (All IsWithinNumbers) (sym weights);
  additions = omega (arith, few);
}

pub asks_with : (f : ℕ → ℕ) (node : GroundNode) → AsksNoMore node (with_parts f node)
unfolding with_parts coefficients_of additions_in
asks_with f (constant n) = asks_none (constant n) (constant n) refl refl
asks_with f undefined = asks_none undefined undefined refl refl
asks_with f (cell k) = asks_none (cell k) (cell k) refl refl
asks_with f (sum c parts) = record {
  coefficients = subst (All IsWithinNumbers) (sym (weights_same f parts));
  additions = omega (arith, length-map {B = ℤ × ℕ} parts (λ p. (p.0, f p.1)));
}
asks_with f (product a b) = record { coefficients = λ h. h; additions = omega arith }
asks_with f (quotient a b) = record { coefficients = λ h. h; additions = omega arith }
asks_with f (remainder a b) = record { coefficients = λ h. h; additions = omega arith }
asks_with f (power a n) = record { coefficients = λ h. h; additions = omega arith }
asks_with f (absolute a) = record { coefficients = λ h. h; additions = omega arith }
asks_with f (least ts) = record { coefficients = λ h. h; additions = omega arith }
asks_with f (greatest ts) = record { coefficients = λ h. h; additions = omega arith }
asks_with f (pick ts keys indices) = record { coefficients = λ h. h; additions = omega arith }
asks_with f (whole a ts) = record { coefficients = λ h. h; additions = omega arith }
asks_with f (safe_quotient a b) = record { coefficients = λ h. h; additions = omega arith }
asks_with f (safe_remainder a b) = record { coefficients = λ h. h; additions = omega arith }
asks_with f (safe_pick ts keys indices) = record { coefficients = λ h. h; additions = omega arith }
asks_with f (compare op a b) = record { coefficients = λ h. h; additions = omega arith }
asks_with f (lex op ts us) = record { coefficients = λ h. h; additions = omega arith }
asks_with f (member a ns) = record { coefficients = λ h. h; additions = omega arith }
asks_with f (negation a) = record { coefficients = λ h. h; additions = omega arith }
asks_with f (all_of ts) = record { coefficients = λ h. h; additions = omega arith }
asks_with f (any_of ts) = record { coefficients = λ h. h; additions = omega arith }
asks_with f (same_truth a b) = record { coefficients = λ h. h; additions = omega arith }
asks_with f (all_different ts) = record { coefficients = λ h. h; additions = omega arith }
asks_with f (counts ts ns us) = record { coefficients = λ h. h; additions = omega arith }
asks_with f (at_least ts cs ns) = record { coefficients = λ h. h; additions = omega arith }
asks_with f (at_most ts cs ns) = record { coefficients = λ h. h; additions = omega arith }
asks_with f (table ts rows) = record { coefficients = λ h. h; additions = omega arith }

-- what stands in a mapped list is the image of an element
pub of_map : (f : ℕ → ℕ) (ts : List ℕ) (q : ℕ) → Contains (map f ts) q → (p : ℕ) × Contains ts p × (f p ≡ q)
of_map f [] q found = none_there q found
of_map f (t ∷ ts) q found = elim (of_cons (f t) (map f ts) q found) as (λ _. (p : ℕ) × Contains (t ∷ ts) p × (f p ≡ q)) [
  | inl same ↦ (t, (0, omega arith, refl), same)
  | inr more ↦ let h = of_map f ts q more in (h.0, Contains-append_right (t ∷ []) ts h.0 h.1, h.2)
]

-- the parts of such a node stand before
pub parts_stand : (cells : List Cell) (olds news : List GroundNode) (images : List ℕ) (node : GroundNode) → Stand cells olds news images → All (λ p. p < length images) (parts_of node) → (q : ℕ) → Contains (parts_of (with_parts (standing_at images) node)) q → q < length news
parts_stand cells olds news images node h below q found =
    let p = of_map (standing_at images) (parts_of node) q (subst (λ ts. Contains ts q) (parts_with (standing_at images) node) found) in
    subst (λ k. k < length news) p.2 (h.each p.0 (All-contains (λ k. k < length images) (parts_of node) p.0 below p.1)).there

-- ---- more nodes

stands_more : (cells : List Cell) (olds news more : List GroundNode) (t image : ℕ) → StandsInFor cells olds news t image → StandsInFor cells olds (news ++ more) t image
stands_more cells olds news more t image h = record {
  there = omega (arith, h.there, length-append news more);
  value = λ values are. value_more news more values image h.there ∙ h.value values are;
  reach = subst (λ i. IsNarrower i (term_reach olds cells t)) (sym (reach_more news more cells image h.there)) h.reach;
}

-- an image that is there stays
stays : (images : List ℕ) (image t : ℕ) → t < length images → standing_at (images ++ image ∷ []) t ≡ standing_at images t
stays images image t below = get_or_append_left images (image ∷ []) 0 t below

comes_more : (olds news more : List GroundNode) (images : List ℕ) (image t u : ℕ) → u < length news → ComesOf olds news images t u → ComesOf olds (news ++ more) (images ++ image ∷ []) t u
comes_more olds news more images image t u below h = record {
  old = h.old;
  leads = h.leads;
  below = omega (arith, h.below, length_push images image);
  is = stays images image h.old h.below ∙ h.is;
  asks = subst (AsksNoMore (slice_index_or olds h.old undefined)) (sym (get_or_append_left news more undefined u below)) h.asks;
}

-- ---- one term more

-- the node over the images reaches no farther than the old term
made_reach : (cells : List Cell) (olds old : List GroundNode) (images : List ℕ) (node : GroundNode) → PartsStandBefore olds → Stand cells olds old images → IsNodeAt olds (length images) node
    → IsNarrower (node_reach cells (term_reach old cells) (with_parts (standing_at images) node)) (term_reach olds cells (length images))
made_reach cells olds old images node before h at =
    let below = before (length images) node at in
    subst (λ i. IsNarrower i (term_reach olds cells (length images)))
    (reach_as cells (λ p. term_reach old cells (standing_at images p)) (term_reach old cells) (standing_at images) node (λ p found. refl))
    (subst (IsNarrower (node_reach cells (λ p. term_reach old cells (standing_at images p)) node)) (sym (reach_is olds cells before (length images) node at))
    (node_narrower cells (λ p. term_reach old cells (standing_at images p)) (term_reach olds cells) node
    (λ p found. (h.each p (All-contains (λ k. k < length images) (parts_of node) p below found)).reach)))

-- it is near where all old nodes are
pub made_near : (g : GroundState) (old : List GroundNode) (images : List ℕ) (node made : GroundNode) → PartsStandBefore g.nodes → Stand g.cells g.nodes old images → IsNodeAt g.nodes (length images) node → made ≡ with_parts (standing_at images) node → IsNearThroughout g
    → IsNearOver g.cells old made
made_near g old images node made before h at same near =
    let other = with_parts (standing_at images) node in
    let asks = asks_with (standing_at images) node in
    subst (IsNearOver g.cells old) (sym same) (record {
      reach = narrower_near (node_reach g.cells (term_reach old g.cells) other) (term_reach g.nodes g.cells (length images)) (made_reach g.cells g.nodes old images node before h at) (near.reaches (length images) (slice_get_within g.nodes (length images) node at));
      coefficients = asks.coefficients (all_at (λ n. All IsWithinNumbers (coefficients_of n)) g.nodes (length images) node at near.coefficients);
      few = few_asked node other asks (all_at HasFewParts g.nodes (length images) node at near.parts);
    })

one_stands : (cells : List Cell) (olds old new : List GroundNode) (images : List ℕ) (node : GroundNode) (image : ℕ) → PartsStandBefore olds → Stand cells olds old images → IsNodeAt olds (length images) node
    → SettlesNode cells old (with_parts (standing_at images) node) new image → StandsInFor cells olds new (length images) image
one_stands cells olds old new images node image before h at s =
    let below = before (length images) node at in
    record {
      there = s.there;
      value = λ values are.
          s.value values are
          ∙ sym (node_as values (term_value olds values) (term_value old values) (standing_at images) node
          (λ p found. sym ((h.each p (All-contains (λ k. k < length images) (parts_of node) p below found)).value values are)))
          ∙ sym (value_is olds values before (length images) node at);
      reach = s.reach (term_reach olds cells (length images)) (made_reach cells olds old images node before h at);
    }

one_comes : (cells : List Cell) (olds old new : List GroundNode) (images : List ℕ) (node : GroundNode) (image : ℕ) → PartsStandBefore olds → PartsStandBefore old → Stand cells olds old images → IsNodeAt olds (length images) node
    → (s : SettlesNode cells old (with_parts (standing_at images) node) new image) → (u : ℕ) → LeadsTo new image u → ComesOf olds new (images ++ image ∷ []) (length images) u
one_comes cells olds old new images node image before news_before h at s u leads =
    elim (s.below u leads) as (λ _. ComesOf olds new (images ++ image ∷ []) (length images) u) [
      | inl own ↦ record {
        old = length images;
        leads = itself (length images);
        below = omega (arith, length_push images image);
        is = get_or_at images image [] 0 (length images) refl ∙ sym own.0;
        asks = subst (λ n. AsksNoMore n (slice_index_or new u undefined)) (sym (get_or_from_slice_get olds (length images) node undefined at))
            (subst (λ k. AsksNoMore node (slice_index_or new k undefined)) (sym own.0)
            (asks_through node (with_parts (standing_at images) node) (slice_index_or new image undefined) (asks_with (standing_at images) node) own.1));
      }
      | inr part ↦ further part
    ]
  where
    further : IsBelowPart old (with_parts (standing_at images) node) u → ComesOf olds new (images ++ image ∷ []) (length images) u
    further part =
        let p = of_map (standing_at images) (parts_of node) part.part (subst (λ ts. Contains ts part.part) (parts_with (standing_at images) node) part.is_part) in
        let low = All-contains (λ k. k < length images) (parts_of node) p.0 (before (length images) node at) p.1 in
        let leads_old = subst (λ k. LeadsTo old k u) (sym p.2) part.leads in
        let comes = h.back p.0 low u leads_old in
        let there = (leads_more old [] news_before (standing_at images p.0) u (h.each p.0 low).there (subst (λ ns. LeadsTo ns (standing_at images p.0) u) (none_more old) leads_old)).1 in
        let more = comes_more olds old s.more images image p.0 u there comes in
        subst (λ ns. ComesOf olds ns (images ++ image ∷ []) (length images) u) (sym s.is) (record {
          old = more.old;
          leads = by_part (length images) p.0 more.old node at p.1 more.leads;
          below = more.below;
          is = more.is;
          asks = more.asks;
        })

pub stand_more : (cells : List Cell) (olds old new : List GroundNode) (images : List ℕ) (node : GroundNode) (image : ℕ) → PartsStandBefore olds → PartsStandBefore old → Stand cells olds old images → IsNodeAt olds (length images) node
    → SettlesNode cells old (with_parts (standing_at images) node) new image → Stand cells olds new (images ++ image ∷ [])
stand_more cells olds old new images node image before news_before h at s = record {
  each = λ t below. elim (less_or_last t (length images) (omega (arith, below, length_push images image))) as (λ _. StandsInFor cells olds new t (standing_at (images ++ image ∷ []) t)) [
    | inl less ↦ subst (StandsInFor cells olds new t) (sym (stays images image t less)) (subst (λ ns. StandsInFor cells olds ns t (standing_at images t)) (sym s.is) (stands_more cells olds old s.more t (standing_at images t) (h.each t less)))
    | inr same ↦ subst (λ k. StandsInFor cells olds new k (standing_at (images ++ image ∷ []) k)) (sym same)
        (subst (StandsInFor cells olds new (length images)) (sym (get_or_at images image [] 0 (length images) refl)) (one_stands cells olds old new images node image before h at s))
  ];
  back = λ t below u leads. elim (less_or_last t (length images) (omega (arith, below, length_push images image))) as (λ _. ComesOf olds new (images ++ image ∷ []) t u) [
    | inl less ↦ earlier t u less (subst (λ k. LeadsTo new k u) (stays images image t less) leads)
    | inr same ↦ subst (λ k. ComesOf olds new (images ++ image ∷ []) k u) (sym same)
        (one_comes cells olds old new images node image before news_before h at s u (subst (λ k. LeadsTo new k u) (ap (standing_at (images ++ image ∷ [])) same ∙ get_or_at images image [] 0 (length images) refl) leads))
  ];
  few = omega (arith, h.few, s.few, ap length s.is, length-append old s.more, length_push images image);
}
  where
    earlier : (t u : ℕ) → t < length images → LeadsTo new (standing_at images t) u → ComesOf olds new (images ++ image ∷ []) t u
    earlier t u less leads =
        let inner = leads_more old s.more news_before (standing_at images t) u (h.each t less).there (subst (λ ns. LeadsTo ns (standing_at images t) u) s.is leads) in
        subst (λ ns. ComesOf olds ns (images ++ image ∷ []) t u) (sym s.is) (comes_more olds old s.more images image t u inner.1 (h.back t less u inner.0))

-- nothing stands for any term yet
pub started : (cells : List Cell) (olds news : List GroundNode) → news ≡ [] → Stand cells olds news []
started cells olds news none = record {
  each = λ t below. absurd (omega (arith, below));
  back = λ t below. absurd (omega (arith, below));
  few = omega (arith, ap length none);
}

-- they are near
pub none_near : (news : News) → news.arena ≡ [] → news.near ≡ true → AreNear news
none_near news none near = record { near = near; few = subst (All HasFewParts) (sym none) (All-nil HasFewParts) }

-- no new nodes yet
pub no_news : (cells : List Cell) (news : News) → news.arena ≡ [] → news.spans.items ≡ [] → IsNews cells news
unfolding reaches_of
no_news cells news none no_spans = record {
  before = subst PartsStandBefore (sym none) (λ t node at. absurd (no_node t node at));
  safe = subst (All (IsSafeOver (length cells))) (sym none) (All-nil (IsSafeOver (length cells)));
  undecided = subst (λ ns. All (IsOpen ns) ns) (sym none) (All-nil (IsOpen []));
  reaches = λ near. ap intervals_of no_spans ∙ ap (λ ns. reaches_of ns cells) (sym none);
  within = λ near. subst (All IsWithinReach) (sym (ap intervals_of no_spans)) (All-nil IsWithinReach);
  untold = λ near. subst (λ ns. All (IsUntold cells ns) ns) (sym none) (All-nil (IsUntold cells []));
}
  where
    no_node : (t : ℕ) (node : GroundNode) → slice_get [] t ≡ Some node → ⊥
    no_node t node at = none-some node at

-- the parts of the node over images are new terms
pub all_parts_stand : (cells : List Cell) (olds news : List GroundNode) (images : List ℕ) (node made : GroundNode) → Stand cells olds news images → All (λ p. p < length images) (parts_of node) → made ≡ with_parts (standing_at images) node → All (λ q. q < length news) (parts_of made)
all_parts_stand cells olds news images node made h below same =
    subst (λ m. All (λ q. q < length news) (parts_of m)) (sym same)
    (λ k d l. parts_stand cells olds news images node h below (get_or (parts_of (with_parts (standing_at images) node)) k d) (Contains-get_or (parts_of (with_parts (standing_at images) node)) k d l))

-- what stands once one more node is settled
pub one_more : (cells : List Cell) (olds : List GroundNode) (old new : News) (images later : List ℕ) (node made : GroundNode) (image : ℕ) → PartsStandBefore olds → Stand cells olds old.arena images → IsNews cells old → IsNodeAt olds (length images) node → made ≡ with_parts (standing_at images) node
    → IsSettled cells old made new image → later ≡ images ++ image ∷ [] → Stand cells olds new.arena later
one_more cells olds old new images later node made image before stand h at same s e =
    subst (Stand cells olds new.arena) (sym e)
    (stand_more cells olds old.arena new.arena images node image before h.before stand at (subst (λ m. SettlesNode cells old.arena m new.arena image) same s.settles))

-- fewer new nodes than old ones leave room for one more
pub has_room : (news images t end : ℕ) → news ≤ images → images ≡ t → t < end → end < 2 ^ 32 → news < 2 ^ 32 - 1
has_room news images t end few many before fits = grind (arith)
