-- One node more of an old ground, and what stands for it.
use Rattle.std.proofs.Common.{◌≡◌, ℕ, ◌+◌, ◌-◌, ◌*◌, ◌<◌, ◌≤◌, ◌^◌, ◌⊎◌, inl, inr, false, List, [], ◌∷◌, ◌++◌, length, Some, refl, sym, ap, subst, ◌∙◌, arith, slice_get, get_or}
use Rattle.std.specs.List.{All, Contains}
use Rattle.std.proofs.lemmas.List.{get_or_append_left, get_or_at, length-append, length_push}
use Rattle.std.proofs.lemmas.List.Elements.{All-contains, All-nil, All-weaker, Contains-get_or}
use Rattle.std.proofs.lemmas.Option.{get_or_from_slice_get, none-some}
use Rattle.ep_base.specs.Intervals.{IsWithinReach}
use Rattle.ep_base.specs.Reads.{IsWithinNumbers}
use Rattle.ep_defined.proofs.Reaches.{bounded_more, bounded_part, leads_more}
use Rattle.ep_defined.specs.Growing.{IsNodeAt, IsSafeOver}
use Rattle.ep_defined.specs.Translations.{IsBoundedBelow}
use Rattle.ep_ground.proofs.SameParts.{node_as, parts_with, reach_as}
use Rattle.ep_ground.proofs.TermLaws.{reach_is, reach_more, value_is, value_more}
use Rattle.ep_ground.specs.Bounds.{node_reach, term_reach}
use Rattle.ep_ground.specs.Grounds.{LeadsTo, StandsOver, additions_in, by_part, itself}
use Rattle.ep_ground.specs.Nodes.{GroundNode, undefined, coefficients_of, is_partial, parts_of}
use Rattle.ep_ground.specs.SameTrees.{with_parts}
use Rattle.ep_ground.specs.Terms.{PartsStandBefore, term_value}
use Rattle.ep_ground.specs.declared.cells.Cell.{Cell}
use Rattle.ep_numbers.specs.Spans.{intervals_of}
use Rattle.ep_reach.proofs.Nodes.{all_at}
use Rattle.ep_reach.specs.Reaching.{HasFewParts}
use Rattle.ep_share.proofs.Parts.{same_asked}
use Rattle.ep_share.specs.Cutting.{CanBeTaken, IsCut, IsMade, told_reach}
use Rattle.ep_share.specs.Standing.{ComesOf, IsSettled, SettlesNode, Stand, StandsInFor, additions_of, group_at}
use Rattle.ep_share.specs.declared.making.Making.{Making}
use Rattle.ep_simplify.proofs.Images.{asks_with, of_map, safe_node}
use Rattle.ep_simplify.proofs.Untold.{few_asked}
use Rattle.ep_simplify.proofs.Values.{less_or_last}
use Rattle.ep_simplify.specs.Settling.{IsBelowPart}
use Rattle.ep_simplify.specs.Standing.{standing_at}

-- ---- more nodes

stands_more : (cells : List Cell) (olds news more : List GroundNode) (t image : ℕ) → PartsStandBefore news → StandsInFor cells olds news t image → StandsInFor cells olds (news ++ more) t image
stands_more cells olds news more t image before h = record {
  there = omega (arith, h.there, length-append news more);
  value = λ values. value_more news more values image h.there ∙ h.value values;
  reach = reach_more news more cells image h.there ∙ h.reach;
  bounded = λ b. bounded_more news more cells before image h.there (h.bounded b);
}

-- what is there at a place stays
stays : (images : List ℕ) (image t : ℕ) → t < length images → standing_at (images ++ image ∷ []) t ≡ standing_at images t
stays images image t below = get_or_append_left images (image ∷ []) 0 t below

last_image : (images : List ℕ) (image : ℕ) → standing_at (images ++ image ∷ []) (length images) ≡ image
last_image images image = get_or_at images image [] 0 (length images) refl

group_stays : (groups : List (List ℕ)) (group : List ℕ) (t : ℕ) → t < length groups → group_at (groups ++ group ∷ []) t ≡ group_at groups t
group_stays groups group t below = get_or_append_left groups (group ∷ []) [] t below

last_group : (groups : List (List ℕ)) (group : List ℕ) (t : ℕ) → length groups ≡ t → group_at (groups ++ group ∷ []) t ≡ group
last_group groups group t same = get_or_at groups group [] [] t same

comes_more : (olds : List GroundNode) (groups : List (List ℕ)) (group : List ℕ) (t u : ℕ) → ComesOf olds groups t u → ComesOf olds (groups ++ group ∷ []) t u
comes_more olds groups group t u h = record {
  old = h.old;
  leads = h.leads;
  below = omega (arith, h.below, length_push groups group);
  is = subst (λ g. Contains g u) (sym (group_stays groups group h.old h.below)) h.is;
}

-- ---- one term more

-- what is known where a node of the old ground is settled over the images of its parts
pub record IsNext (cells : List Cell) (olds old new : List GroundNode) (images : List ℕ) (node : GroundNode) (image : ℕ) : Type 0 where
  pub olds_before : PartsStandBefore olds
  pub before : PartsStandBefore old
  pub stand : Stand cells olds old images
  pub at : IsNodeAt olds (length images) node
  pub settles : SettlesNode cells 8 old (with_parts (standing_at images) node) new image

-- a part of the node is a term with an image
low : (cells : List Cell) (olds old new : List GroundNode) (images : List ℕ) (node : GroundNode) (image : ℕ) → IsNext cells olds old new images node image → (p : ℕ) → Contains (parts_of node) p → p < length images
low cells olds old new images node image n p found = All-contains (λ k. k < length images) (parts_of node) p (n.olds_before (length images) node n.at) found

one_stands : (cells : List Cell) (olds old new : List GroundNode) (images : List ℕ) (node : GroundNode) (image : ℕ) → IsNext cells olds old new images node image → StandsInFor cells olds new (length images) image
one_stands cells olds old new images node image n = record {
  there = n.settles.there;
  value = λ values.
      n.settles.value values
      ∙ sym (node_as values (term_value olds values) (term_value old values) f node (λ p found. sym ((n.stand.each p (below p found)).value values)))
      ∙ sym (value_is olds values n.olds_before (length images) node n.at);
  reach = n.settles.reach ∙ reaches;
  bounded = λ b. n.settles.bounded (record {
    reach = subst IsWithinReach (sym reaches) (b (length images) (itself (length images))).0;
    coefficients = (asks_with f node).coefficients (subst (λ m. All IsWithinNumbers (coefficients_of m)) (get_or_from_slice_get olds (length images) node undefined n.at) (b (length images) (itself (length images))).1);
    parts = λ q found.
        let p = of_map f (parts_of node) q (subst (λ ts. Contains ts q) (parts_with f node) found) in
        subst (IsBoundedBelow old cells) p.2 ((n.stand.each p.0 (below p.0 p.1)).bounded (bounded_part olds cells (length images) node n.at b p.0 p.1));
  });
}
  where
    f : ℕ → ℕ
    f = standing_at images

    below : (p : ℕ) → Contains (parts_of node) p → p < length images
    below = low cells olds old new images node image n

    reaches : node_reach cells (term_reach old cells) (with_parts f node) ≡ term_reach olds cells (length images)
    reaches =
        sym (reach_as cells (term_reach olds cells) (term_reach old cells) f node (λ p found. sym (n.stand.each p (below p found)).reach))
        ∙ sym (reach_is olds cells n.olds_before (length images) node n.at)

one_comes : (cells : List Cell) (olds old new : List GroundNode) (images : List ℕ) (node : GroundNode) (image : ℕ) → (n : IsNext cells olds old new images node image) → (u : ℕ) → LeadsTo new image u → ComesOf olds (n.stand.groups ++ n.settles.terms ∷ []) (length images) u
one_comes cells olds old new images node image n u leads =
    elim (n.settles.below u leads) as (λ _. ComesOf olds (n.stand.groups ++ n.settles.terms ∷ []) (length images) u) [
      | inl own ↦ record {
        old = length images;
        leads = itself (length images);
        below = omega (arith, n.stand.long, length_push n.stand.groups n.settles.terms);
        is = subst (λ g. Contains g u) (sym (last_group n.stand.groups n.settles.terms (length images) n.stand.long)) own;
      }
      | inr part ↦ further part
    ]
  where
    further : IsBelowPart old (with_parts (standing_at images) node) u → ComesOf olds (n.stand.groups ++ n.settles.terms ∷ []) (length images) u
    further part =
        let p = of_map (standing_at images) (parts_of node) part.part (subst (λ ts. Contains ts part.part) (parts_with (standing_at images) node) part.is_part) in
        let comes = comes_more olds n.stand.groups n.settles.terms p.0 u (n.stand.back p.0 u (low cells olds old new images node image n p.0 p.1) (subst (λ k. LeadsTo old k u) (sym p.2) part.leads)) in
        record {
          old = comes.old;
          leads = by_part (length images) p.0 comes.old node n.at p.1 comes.leads;
          below = comes.below;
          is = comes.is;
        }

-- more nodes ask for the same
asked_more : (old more : List GroundNode) (terms : List ℕ) → All (λ t. t < length old) terms → additions_of (old ++ more) terms ≡ additions_of old terms
unfolding additions_of
asked_more old more terms there = same_asked old more terms there

pub stand_more : (cells : List Cell) (olds old new : List GroundNode) (images : List ℕ) (node : GroundNode) (image : ℕ) → IsNext cells olds old new images node image → Stand cells olds new (images ++ image ∷ [])
stand_more cells olds old new images node image n = record {
  each = λ t below. elim (split t below) as (λ _. StandsInFor cells olds new t (standing_at (images ++ image ∷ []) t)) [
    | inl less ↦ subst (StandsInFor cells olds new t) (sym (stays images image t less)) (subst (λ ns. StandsInFor cells olds ns t (standing_at images t)) (sym s.is) (stands_more cells olds old s.more t (standing_at images t) n.before (h.each t less)))
    | inr same ↦ subst (λ k. StandsInFor cells olds new k (standing_at (images ++ image ∷ []) k)) (sym same)
        (subst (StandsInFor cells olds new (length images)) (sym (last_image images image)) (one_stands cells olds old new images node image n))
  ];
  groups = h.groups ++ s.terms ∷ [];
  long = omega (arith, length_push h.groups s.terms, length_push images image, h.long);
  there = λ t below. elim (split t below) as (λ _. All (λ u. u < length new) (group_at (h.groups ++ s.terms ∷ []) t)) [
    | inl less ↦ subst (All (λ u. u < length new)) (sym (old_group t less)) (All-weaker (λ u. u < length old) (λ u. u < length new) (λ u l. omega (arith, l, longer)) (group_at h.groups t) (h.there t less))
    | inr same ↦ subst (All (λ u. u < length new)) (sym (new_group t same)) s.terms_there
  ];
  additions = λ t below. elim (split t below) as (λ _. additions_of new (group_at (h.groups ++ s.terms ∷ []) t) ≤ additions_in (slice_get olds t)) [
    | inl less ↦
        let same = ap (additions_of new) (old_group t less) ∙ ap (λ ns. additions_of ns (group_at h.groups t)) s.is ∙ asked_more old s.more (group_at h.groups t) (h.there t less) in
        subst (λ k. k ≤ additions_in (slice_get olds t)) (sym same) (h.additions t less)
    | inr same ↦
        let asks = (asks_with (standing_at images) node).additions in
        let now = ap (additions_of new) (new_group t same) in
        let was = ap (λ k. additions_in (slice_get olds k)) same ∙ ap additions_in n.at in
        omega (arith, s.additions, asks, now, was)
  ];
  back = λ t u below leads. elim (split t below) as (λ _. ComesOf olds (h.groups ++ s.terms ∷ []) t u) [
    | inl less ↦ comes_more olds h.groups s.terms t u
        (h.back t u less (leads_more old s.more n.before (standing_at images t) u (h.each t less).there (subst (λ ns. LeadsTo ns (standing_at images t) u) s.is (subst (λ k. LeadsTo new k u) (stays images image t less) leads))).0)
    | inr same ↦ subst (λ k. ComesOf olds (h.groups ++ s.terms ∷ []) k u) (sym same)
        (one_comes cells olds old new images node image n u (subst (λ k. LeadsTo new k u) (ap (standing_at (images ++ image ∷ [])) same ∙ last_image images image) leads))
  ];
  few = omega (arith, h.few, s.few, longer, length_push images image);
}
  where
    h : Stand cells olds old images
    h = n.stand

    s : SettlesNode cells 8 old (with_parts (standing_at images) node) new image
    s = n.settles

    longer : length new ≡ length old + length s.more
    longer = ap length s.is ∙ length-append old s.more

    split : (t : ℕ) → t < length (images ++ image ∷ []) → (t < length images) ⊎ (t ≡ length images)
    split t below = less_or_last t (length images) (omega (arith, below, length_push images image))

    old_group : (t : ℕ) → t < length images → group_at (h.groups ++ s.terms ∷ []) t ≡ group_at h.groups t
    old_group t less = group_stays h.groups s.terms t (omega (arith, less, h.long))

    new_group : (t : ℕ) → t ≡ length images → group_at (h.groups ++ s.terms ∷ []) t ≡ s.terms
    new_group t same = last_group h.groups s.terms t (h.long ∙ sym same)

-- nothing stands for any term yet
pub started : (cells : List Cell) (olds news : List GroundNode) → news ≡ [] → Stand cells olds news []
started cells olds news none = record {
  each = λ t below. absurd (omega (arith, below));
  groups = [];
  long = refl;
  there = λ t below. absurd (omega (arith, below));
  additions = λ t below. absurd (omega (arith, below));
  back = λ t u below leads. absurd (omega (arith, below));
  few = omega (arith, ap length none);
}

-- no new nodes yet
pub nothing_made : (cells : List Cell) (made : Making) → made.arena ≡ [] → made.spans.items ≡ [] → IsMade cells made
nothing_made cells made none no_spans = record {
  before = subst PartsStandBefore (sym none) (λ t node at. absurd (no_node t node at));
  different = λ s t node at_s at_t. absurd (no_node s node (subst (λ ns. slice_get ns s ≡ Some node) none at_s));
  safe = subst (All (IsSafeOver (length cells))) (sym none) (All-nil (IsSafeOver (length cells)));
  few = subst (All HasFewParts) (sym none) (All-nil HasFewParts);
  long = ap length no_spans ∙ sym (ap length none);
  within = subst (All IsWithinReach) (sym (ap intervals_of no_spans)) (All-nil IsWithinReach);
  exact = λ t below b. absurd (omega (arith, below, ap length none));
  cut = subst (All (IsCut (told_reach made.spans.items))) (sym none) (All-nil (IsCut (told_reach made.spans.items)));
}
  where
    no_node : (t : ℕ) (node : GroundNode) → slice_get [] t ≡ Some node → ⊥
    no_node t node at = none-some node at

-- the node over the images of its parts can be taken in
pub next_can : (cells : List Cell) (olds : List GroundNode) (made : Making) (images : List ℕ) (node other : GroundNode) → PartsStandBefore olds → Stand cells olds made.arena images → All (λ n. is_partial n ≡ false) olds → All (StandsOver (length cells)) olds → All HasFewParts olds
    → IsNodeAt olds (length images) node → other ≡ with_parts (standing_at images) node → CanBeTaken cells made other
next_can cells olds made images node other before h total stands few at same =
    subst (CanBeTaken cells made) (sym same) (record {
      parts = λ k d below. each (get_or (parts_of (with_parts f node)) k d) (Contains-get_or (parts_of (with_parts f node)) k d below);
      safe = safe_node f (length cells) olds (length images) node total stands at;
      few = few_asked node (with_parts f node) (asks_with f node) (all_at HasFewParts olds (length images) node at few);
    })
  where
    f : ℕ → ℕ
    f = standing_at images

    each : (q : ℕ) → Contains (parts_of (with_parts f node)) q → q < length made.arena
    each q found =
        let p = of_map f (parts_of node) q (subst (λ ts. Contains ts q) (parts_with f node) found) in
        subst (λ k. k < length made.arena) p.2 (h.each p.0 (All-contains (λ k. k < length images) (parts_of node) p.0 (before (length images) node at) p.1)).there

-- what stands once one more node is settled
pub one_more : (cells : List Cell) (olds : List GroundNode) (old new : Making) (images later : List ℕ) (node other : GroundNode) (image : ℕ) → PartsStandBefore olds → Stand cells olds old.arena images → IsMade cells old → IsNodeAt olds (length images) node → other ≡ with_parts (standing_at images) node
    → IsSettled cells 8 old other new image → later ≡ images ++ image ∷ [] → Stand cells olds new.arena later
one_more cells olds old new images later node other image before h made at same s e =
    subst (Stand cells olds new.arena) (sym e)
    (stand_more cells olds old.arena new.arena images node image (record {
      olds_before = before;
      before = made.before;
      stand = h;
      at = at;
      settles = subst (λ m. SettlesNode cells 8 old.arena m new.arena image) same s.settles;
    }))

-- there is room for what a node more needs
pub has_room : (news images t end most : ℕ) → news ≤ 8 * images → images ≡ t → t < end → end ≤ most → most ≡ 400000008 → news + 8 < 2 ^ 32 - 1
has_room news images t end most few many before fits is = omega (arith, few, many, before, fits, is)
