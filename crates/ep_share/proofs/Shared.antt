-- A ground whose sums were cut shares what they have in common, and keeps all else.
use Rattle.std.proofs.Common.{◌≡◌, ℕ, zero, suc, ◌*◌, ◌<◌, ◌≤◌, ℤ, pos, inl, inr, List, [], ◌∷◌, length, Some, refl, sym, ap, subst, ◌∙◌, arith, slice_get}
use Rattle.std.specs.Prelude.{slice_index_or, sum_by}
use Rattle.std.specs.List.{All, Contains, flat_map}
use Rattle.std.proofs.lemmas.Bool.{cases_lt}
use Rattle.std.proofs.lemmas.List.Elements.{All-contains, Contains-append_left, Contains-append_right}
use Rattle.std.proofs.lemmas.List.Sums.{sum_by-append, sum_by-cons}
use Rattle.std.proofs.lemmas.Option.{slice_get_within}
use Rattle.ep_base.specs.Intervals.{IsWithinReach}
use Rattle.ep_base.specs.Reads.{IsWithinNumbers}
use Rattle.ep_defined.proofs.Reaches.{bounded_part}
use Rattle.ep_defined.specs.Growing.{IsSafeOver}
use Rattle.ep_defined.specs.Translations.{IsBoundedBelow}
use Rattle.ep_ground.proofs.Taking.{contains_from_get}
use Rattle.ep_ground.specs.Bounds.{IsBounded, node_reach, term_reach}
use Rattle.ep_ground.specs.Grounds.{AsksForAdditions, GroundState, IsTermReached, IsWellFormed, KeepsSolutions, LeadsTo, additions, additions_in, itself, named_terms}
use Rattle.ep_ground.specs.Nodes.{sum, undefined, coefficients_of, parts_of}
use Rattle.ep_ground.specs.Terms.{term_value}
use Rattle.ep_reach.proofs.Nodes.{all_at}
use Rattle.ep_reach.proofs.Reaching.{beyond}
use Rattle.ep_share.proofs.Parts.{part_term}
use Rattle.ep_share.proofs.Totals.{both_ends, spread}
use Rattle.ep_share.proofs.TwoParts.{two_reach}
use Rattle.ep_share.specs.Cutting.{IsCut, IsMade, IsNearPair, pair_of, told_reach}
use Rattle.ep_share.specs.Sharing.{AreShared, HasTwo, IsNearSum, IsSmallSum}
use Rattle.ep_share.specs.Standing.{Stand, additions_of, group_at}
use Rattle.ep_share.specs.declared.making.Making.{Making}
use Rattle.ep_simplify.proofs.Additions.{sums_less}
use Rattle.ep_simplify.proofs.Images.{of_map}
use Rattle.ep_simplify.proofs.Simplified.{IsKept, each_named, new_named}
use Rattle.ep_simplify.proofs.Taking.{leads_through}
use Rattle.ep_simplify.specs.Standing.{IsSimplified, standing_at}

-- what is known of a ground whose terms have images that share their sums
pub record IsAllShared (g new : GroundState) (images : List ℕ) (made : Making) : Type 0 where
  pub stand : Stand g.cells g.nodes made.arena images
  pub is_made : IsMade g.cells made
  pub same : new.nodes ≡ made.arena
  pub many : length images ≡ length g.nodes
  pub simplified : IsSimplified g new images
  pub well_formed : IsWellFormed g

pub is_kept : (g new : GroundState) (images : List ℕ) (made : Making) → IsAllShared g new images made → IsKept g new images
is_kept g new images made h =
    record {
      there = λ t below. subst (λ ns. standing_at images t < length ns) (sym h.same) (h.stand.each t below).there;
      value = λ t below values are. ap (λ ns. term_value ns values (standing_at images t)) h.same ∙ (h.stand.each t below).value values;
      many = h.many;
      simplified = h.simplified;
      well_formed = h.well_formed;
      safe = subst (All (IsSafeOver (length g.cells))) (sym h.same) h.is_made.safe;
    }

-- ---- bounds

-- what a bounded ground reaches leads to terms within bounds
reached_bounded : (g : GroundState) → IsBounded g → (t : ℕ) → IsTermReached g t → IsBoundedBelow g.nodes g.cells t
reached_bounded g bounded t r = λ u leads.
    let further : IsTermReached g u = record { from = r.from; named = r.named; leads = leads_through g.nodes r.from t u r.leads leads } in
    (bounded.reaches u further, bounded.coefficients u further)

-- a term that the new ground reaches is below the image of one that the old one names
record IsBelowImage (g new : GroundState) (images : List ℕ) (u : ℕ) : Type 0 where
  old : ℕ
  named : Contains (named_terms g) old
  below : old < length images
  leads : LeadsTo new.nodes (standing_at images old) u

below_image : (g new : GroundState) (images : List ℕ) (made : Making) → IsAllShared g new images made → (u : ℕ) → IsTermReached new u → IsBelowImage g new images u
below_image g new images made h u r =
    let p = of_map (standing_at images) (named_terms g) r.from (subst (λ ts. Contains ts r.from) (new_named g new images h.simplified) r.named) in
    record {
      old = p.0;
      named = p.1;
      below = each_named g new images (is_kept g new images made h) p.0 p.1;
      leads = subst (λ k. LeadsTo new.nodes k u) (sym p.2) r.leads;
    }

new_bounded : (g new : GroundState) (images : List ℕ) (made : Making) → IsAllShared g new images made → IsBounded g → (u : ℕ) → IsTermReached new u → IsWithinReach (term_reach new.nodes new.cells u) × All IsWithinNumbers (coefficients_of (slice_index_or new.nodes u undefined))
new_bounded g new images made h bounded u r =
    let b = below_image g new images made h u r in
    let old = reached_bounded g bounded b.old (record { from = b.old; named = b.named; leads = itself b.old }) in
    subst (λ cs. IsWithinReach (term_reach new.nodes cs u) × All IsWithinNumbers (coefficients_of (slice_index_or new.nodes u undefined))) (sym h.simplified.cells)
    (subst (λ ns. IsBoundedBelow ns g.cells (standing_at images b.old)) (sym h.same) ((h.stand.each b.old b.below).bounded old) u b.leads)

pub bounded_after : (g new : GroundState) (images : List ℕ) (made : Making) → IsAllShared g new images made → IsBounded g → IsBounded new
bounded_after g new images made h bounded = record {
  cells = subst (All (λ one. All IsWithinNumbers one.values)) (sym h.simplified.cells) bounded.cells;
  reaches = λ u r. (new_bounded g new images made h bounded u r).0;
  coefficients = λ u r. (new_bounded g new images made h bounded u r).1;
}

pub few_nodes : (g new : GroundState) (images : List ℕ) (made : Making) → IsAllShared g new images made → length new.nodes ≤ 8 * length g.nodes
few_nodes g new images made h = omega (arith, h.stand.few, h.many, ap length h.same)

-- ---- additions

-- what stands in one of some lists stands in all of them together
in_one : (group : ℕ → List ℕ) (ts : List ℕ) (t u : ℕ) → Contains ts t → Contains (group t) u → Contains (flat_map group ts) u
in_one group [] t u (k, below, same) inside = absurd (omega (arith, below))
in_one group (s ∷ ts) t u (zero, below, same) inside = Contains-append_left (group s) (flat_map group ts) u (subst (λ r. Contains (group r) u) (sym same) inside)
in_one group (s ∷ ts) t u (suc k, below, same) inside = Contains-append_right (group s) (flat_map group ts) u (in_one group ts t u (k, omega (arith, below), same) inside)

-- the sum over lists is no greater where that over each is
groups_less : (f g : ℕ → ℕ) (group : ℕ → List ℕ) (ts : List ℕ) → ((t : ℕ) → Contains ts t → sum_by f (group t) ≤ g t) → sum_by f (flat_map group ts) ≤ sum_by g ts
groups_less f g group [] less = omega arith
groups_less f g group (t ∷ ts) less =
    let first = less t (0, omega arith, refl) in
    let rest = groups_less f g group ts (λ s found. less s (Contains-append_right (t ∷ []) ts s found)) in
    omega (arith, sum_by-append f (group t) (flat_map group ts), sum_by-cons g t ts, first, rest)

pub fewer_additions : (g new : GroundState) (images : List ℕ) (made : Making) → IsAllShared g new images made → (more fewer : ℕ) → AsksForAdditions g more → AsksForAdditions new fewer → fewer ≤ more
unfolding additions additions_of
fewer_additions g new images made h more fewer old_asks new_asks =
    let f = λ (u : ℕ). additions_in (slice_get new.nodes u) in
    let group = group_at h.stand.groups in
    let each = sums_less f f (λ u. u) new_asks.terms (flat_map group old_asks.terms) new_asks.are_reached.ascending
    (λ u found. record { from = u; there = comes u ((new_asks.are_reached.reached u).0 found); is = refl; less = omega arith }) in
    let all = groups_less f (λ t. additions_in (slice_get g.nodes t)) group old_asks.terms (λ t found. asked t ((old_asks.are_reached.reached t).0 found)) in
    omega (arith, each, all, old_asks.number, new_asks.number)
  where
    comes : (u : ℕ) → IsTermReached new u → Contains (flat_map (group_at h.stand.groups) old_asks.terms) u
    comes u r =
        let b = below_image g new images made h u r in
        let c = h.stand.back b.old u b.below (subst (λ ns. LeadsTo ns (standing_at images b.old) u) h.same b.leads) in
        in_one (group_at h.stand.groups) old_asks.terms c.old u ((old_asks.are_reached.reached c.old).1 (record { from = b.old; named = b.named; leads = c.leads })) c.is

    asked : (t : ℕ) → IsTermReached g t → sum_by (λ u. additions_in (slice_get new.nodes u)) (group_at h.stand.groups t) ≤ additions_in (slice_get g.nodes t)
    asked t r = elim (cases_lt t (length images)) as (λ _. sum_by (λ u. additions_in (slice_get new.nodes u)) (group_at h.stand.groups t) ≤ additions_in (slice_get g.nodes t)) [
      | inl below ↦ subst (λ ns. sum_by (λ u. additions_in (slice_get ns u)) (group_at h.stand.groups t) ≤ additions_in (slice_get g.nodes t)) (sym h.same) (h.stand.additions t below)
      | inr behind ↦ subst (λ us. sum_by (λ u. additions_in (slice_get new.nodes u)) us ≤ additions_in (slice_get g.nodes t)) (beyond h.stand.groups t [] (omega (arith, behind, h.stand.long))) (omega arith)
    ]

-- one ground asks for one number of additions
pub same_additions : (g : GroundState) (more fewer : ℕ) → AsksForAdditions g more → AsksForAdditions g fewer → fewer ≤ more
unfolding additions
same_additions g more fewer one other =
    let f = λ (u : ℕ). additions_in (slice_get g.nodes u) in
    let each = sums_less f f (λ u. u) other.terms one.terms other.are_reached.ascending
    (λ u found. record { from = u; there = (one.are_reached.reached u).1 ((other.are_reached.reached u).0 found); is = refl; less = omega arith }) in
    omega (arith, each, one.number, other.number)

-- a ground keeps what it keeps
pub kept_itself : (g : GroundState) → KeepsSolutions g g
kept_itself g = record { cells = refl; same = λ values. (λ h. h, λ h. h); senses = refl; objective = λ values h. refl }

-- ---- what sums have in common

-- what is known of a small sum that a new ground reaches
record IsCutSum (g : GroundState) (made : Making) (t : ℕ) (parts : List (ℤ × ℕ)) : Type 0 where
  number : ℤ
  at : slice_get made.arena t ≡ Some (sum number parts)
  few : length parts ≤ 8
  bounded : (p : ℤ × ℕ) → Contains parts p → IsBoundedBelow made.arena g.cells p.1
  below : (p : ℤ × ℕ) → Contains parts p → p.1 < length made.arena

cut_sum : (g new : GroundState) (images : List ℕ) (made : Making) → IsAllShared g new images made → IsBounded g → (t : ℕ) (parts : List (ℤ × ℕ)) → IsSmallSum new t parts → IsCutSum g made t parts
unfolding parts_of
cut_sum g new images made h bounded t parts s =
    let at : slice_get made.arena t ≡ Some (sum s.number parts) = subst (λ ns. slice_get ns t ≡ Some (sum s.number parts)) h.same s.is in
    let all = subst (λ ns. IsBoundedBelow ns g.cells t) h.same (subst (λ cs. IsBoundedBelow new.nodes cs t) h.simplified.cells (reached_bounded new (bounded_after g new images made h bounded) t s.reached)) in
    record {
      number = s.number;
      at = at;
      few = s.few;
      bounded = λ p found. bounded_part made.arena g.cells t (sum s.number parts) at all p.1 (part_term parts p found);
      below = λ p found.
          let less = All-contains (λ q. q < t) (parts_of (sum s.number parts)) p.1 (h.is_made.before t (sum s.number parts) at) (part_term parts p found) in
          omega (arith, less, slice_get_within made.arena t (sum s.number parts) at);
    }

-- a small sum with two parts that have a near sum is that pair
is_pair : (g new : GroundState) (images : List ℕ) (made : Making) → IsAllShared g new images made → (t : ℕ) (parts : List (ℤ × ℕ)) → (s : IsCutSum g made t parts) → (p q : ℤ × ℕ) → HasTwo parts p q → IsNearSum new p q → slice_get made.arena t ≡ Some (pair_of p q)
is_pair g new images made h t parts s p q two near =
    let has_p = contains_from_get parts two.first p two.at_first in
    let has_q = contains_from_get parts two.second q two.at_second in
    let told = told_reach made.spans.items in
    let reach = term_reach made.arena g.cells in
    let one : told p.1 ≡ reach p.1 = h.is_made.exact p.1 (s.below p has_p) (s.bounded p has_p) in
    let other : told q.1 ≡ reach q.1 = h.is_made.exact q.1 (s.below q has_q) (s.bounded q has_q) in
    let here : IsWithinReach (node_reach g.cells reach (sum (pos 0) (p ∷ q ∷ []))) =
    subst (λ ns. IsWithinReach (node_reach g.cells (term_reach ns g.cells) (sum (pos 0) (p ∷ q ∷ [])))) h.same
    (subst (λ cs. IsWithinReach (node_reach cs (term_reach new.nodes cs) (sum (pos 0) (p ∷ q ∷ [])))) h.simplified.cells near) in
    let by_table : IsNearPair told p q =
    subst IsWithinReach (two_reach g.cells reach p q ∙ sym (two_reach [] told p q ∙ (λ i. both_ends (spread (λ t. one i) p) (spread (λ t. other i) q)))) here in
    s.at ∙ ap (λ n. Some n) (all_at (IsCut told) made.arena t (sum s.number parts) s.at h.is_made.cut s.number parts refl s.few p q two by_table)

pub all_shared : (g new : GroundState) (images : List ℕ) (made : Making) → IsAllShared g new images made → IsBounded g → AreShared new
all_shared g new images made h bounded = λ s t apart ps qs one other p q two_one two_other near.
    apart (h.is_made.different s t (pair_of p q)
    (is_pair g new images made h s ps (cut_sum g new images made h bounded s ps one) p q two_one near)
    (is_pair g new images made h t qs (cut_sum g new images made h bounded t qs other) p q two_other near))
