-- Terms that stand for nodes: those of nodes that were taken in, parts alone, and sums of parts that were cut.
use Rattle.std.proofs.Common.{◌≡◌, ℕ, zero, suc, ◌+◌, ◌-◌, ◌<◌, ◌≤◌, ◌⊎◌, inl, inr, ℤ, pos, ◌≤ℤ◌, List, [], ◌∷◌, ◌++◌, length, Some, refl, sym, ap, subst, ◌∙◌, arith, slice_get}
use Rattle.std.specs.Prelude.{map, slice_index_or, sum_by}
use Rattle.std.specs.List.{All, Contains}
use Rattle.std.proofs.lemmas.List.{append_assoc, length-append, length-map}
use Rattle.std.proofs.lemmas.List.Elements.{All-append, All-cons, All-contains, All-head, All-map, All-nil, All-tail, All-weaker, Contains-append_left, Contains-append_right}
use Rattle.std.proofs.lemmas.List.Sums.{sum_by-append, sum_by-cons}
use Rattle.std.proofs.lemmas.Option.{same_Some, slice_get-get_or, slice_get_within}
use Rattle.ep_base.specs.Intervals.{IsWithinReach}
use Rattle.ep_base.specs.Reads.{IsWithinNumbers}
use Rattle.ep_defined.proofs.Reaches.{bounded_more, bounded_node, leads_more}
use Rattle.ep_defined.specs.Translations.{IsBoundedBelow}
use Rattle.ep_ground.proofs.SameParts.{node_same, reach_same}
use Rattle.ep_ground.proofs.TermLaws.{reach_is, reach_more, value_is, value_more}
use Rattle.ep_ground.specs.Bounds.{node_reach, term_reach}
use Rattle.ep_ground.specs.Grounds.{LeadsTo, StandsOver, additions_in, by_part, itself}
use Rattle.ep_ground.specs.Nodes.{GroundNode, sum, undefined, coefficients_of, is_partial, parts_of}
use Rattle.ep_ground.specs.Terms.{PartsStandBefore, term_value}
use Rattle.ep_ground.specs.declared.cells.Cell.{Cell}
use Rattle.ep_reach.proofs.Narrower.{node_narrower}
use Rattle.ep_reach.specs.Narrowing.{IsNarrower}
use Rattle.ep_share.proofs.Parts.{part_term, same_asked, term_part}
use Rattle.ep_share.proofs.Totals.{one_spread, one_worth, spread, spread_one, sum_spread, sum_worth}
use Rattle.ep_share.specs.Cutting.{AreBoundedParts, ArePartsOf, CanBeTaken, IsBoundedOver, IsMade, IsTaken, StandsForParts}
use Rattle.ep_share.specs.Standing.{IsSettled, additions_of}
use Rattle.ep_share.specs.declared.making.Making.{Making}
use Rattle.ep_simplify.proofs.Taking.{GoesOn, goes_on, none_more}
use Rattle.ep_simplify.specs.Settling.{IsBelowPart}

-- ---- a node that was taken in

pub taken_settles : (cells : List Cell) (old new : Making) (node : GroundNode) (term : ℕ) → IsMade cells old → All (λ t. t < length old.arena) (parts_of node) → IsTaken cells old node new term → IsSettled cells 1 old node new term
unfolding additions_of
taken_settles cells old new node term h below t = record {
  made = t.made;
  settles = record {
    more = g.more;
    is = g.is;
    few = g.few;
    there = there;
    value = λ values.
        value_is new.arena values t.made.before term node t.is
        ∙ node_same values (term_value new.arena values) (term_value old.arena values) node
        (λ p found. ap (λ ns. term_value ns values p) g.is ∙ value_more old.arena g.more values p (each p found));
    reach = reaches;
    bounded = λ b.
        bounded_node new.arena cells t.made.before term node t.is (subst IsWithinReach (sym reaches ∙ reach_is new.arena cells t.made.before term node t.is) b.reach) b.coefficients
        (λ p found. subst (λ ns. IsBoundedBelow ns cells p) (sym g.is) (bounded_more old.arena g.more cells h.before p (each p found) (b.parts p found)));
    terms = term ∷ [];
    terms_there = All-cons (λ u. u < length new.arena) term [] there (All-nil (λ u. u < length new.arena));
    additions = omega (arith, sum_by-cons (λ u. additions_in (slice_get new.arena u)) term [] ∙ ap (λ o. additions_in o + 0) t.is);
    below = under;
  };
}
  where
    g : GoesOn old.arena new.arena node
    g = goes_on old.arena new.arena node t.interned

    there : term < length new.arena
    there = slice_get_within new.arena term node t.is

    each : (p : ℕ) → Contains (parts_of node) p → p < length old.arena
    each p found = All-contains (λ q. q < length old.arena) (parts_of node) p below found

    reaches : term_reach new.arena cells term ≡ node_reach cells (term_reach old.arena cells) node
    reaches =
        reach_is new.arena cells t.made.before term node t.is
        ∙ reach_same cells (term_reach new.arena cells) (term_reach old.arena cells) node
        (λ p found. ap (λ ns. term_reach ns cells p) g.is ∙ reach_more old.arena g.more cells p (each p found))

    under : (u : ℕ) → LeadsTo new.arena term u → Contains (term ∷ []) u ⊎ IsBelowPart old.arena node u
    under _ (itself _) = inl (0, omega arith, refl)
    under u (by_part _ part _ other at found rest) =
        let same : other ≡ node = same_Some other node (sym at ∙ t.is) in
        let is_part = subst (λ n. Contains (parts_of n) part) same found in
        inr (record {
          part = part;
          is_part = is_part;
          leads = (leads_more old.arena g.more h.before part u (each part is_part) (subst (λ ns. LeadsTo ns part u) g.is rest)).0;
        })

pub settles_more : (cells : List Cell) (old new : Making) (node : GroundNode) (term : ℕ) → IsSettled cells 1 old node new term → IsSettled cells 8 old node new term
settles_more cells old new node term h = record {
  made = h.made;
  settles = record {
    more = h.settles.more;
    is = h.settles.is;
    few = omega (arith, h.settles.few);
    there = h.settles.there;
    value = h.settles.value;
    reach = h.settles.reach;
    bounded = h.settles.bounded;
    terms = h.settles.terms;
    terms_there = h.settles.terms_there;
    additions = h.settles.additions;
    below = h.settles.below;
  };
}

-- ---- a part alone

ascends_below : (nodes : List GroundNode) (cells : List Cell) → PartsStandBefore nodes → (n t : ℕ) → t < n → t < length nodes → IsNarrower (term_reach nodes cells t) (term_reach nodes cells t)
ascends_below nodes cells before zero t less below = absurd (omega (arith, less))
ascends_below nodes cells before (suc n) t less below =
    let node = slice_index_or nodes t undefined in
    let at : slice_get nodes t ≡ Some node = slice_get-get_or nodes t undefined below in
    subst (λ i. IsNarrower i i) (sym (reach_is nodes cells before t node at))
    (node_narrower cells (term_reach nodes cells) (term_reach nodes cells) node
    (λ p found. let l = All-contains (λ q. q < t) (parts_of node) p (before t node at) found in ascends_below nodes cells before n p (omega (arith, l, less)) (omega (arith, l, below))))

-- the lower end of a term's reach is below the upper one
ascends : (nodes : List GroundNode) (cells : List Cell) → PartsStandBefore nodes → (t : ℕ) → t < length nodes → (term_reach nodes cells t).low ≤ℤ (term_reach nodes cells t).high
ascends nodes cells before t below = (ascends_below nodes cells before (suc t) t (omega arith) below).low.1

pub lone_settles : (cells : List Cell) (made : Making) (number : ℤ) (parts : List (ℤ × ℕ)) (term : ℕ) → IsMade cells made → number ≡ pos 0 → parts ≡ (pos 1, term) ∷ [] → ArePartsOf (length made.arena) parts → IsSettled cells 1 made (sum number parts) made term
unfolding parts_of coefficients_of additions_of
lone_settles cells made number parts term h none alone below =
    let same : sum number parts ≡ sum (pos 0) ((pos 1, term) ∷ []) = λ i. sum (none i) (alone i) in
    let there : term < length made.arena = subst (ArePartsOf (length made.arena)) alone below 0 (pos 1, term) (omega arith) in
    subst (λ n. IsSettled cells 1 made n made term) (sym same) (record {
      made = h;
      settles = record {
        more = [];
        is = none_more made.arena;
        few = omega arith;
        there = there;
        value = λ values. sym (sum_worth values (term_value made.arena values) (pos 0) ((pos 1, term) ∷ []) ∙ one_worth (term_value made.arena values term));
        reach = sym (sum_spread cells (term_reach made.arena cells) (pos 0) ((pos 1, term) ∷ []) ∙ one_spread (spread (term_reach made.arena cells) (pos 1, term)) ∙ spread_one (term_reach made.arena cells term) (ascends made.arena cells h.before term there));
        bounded = λ b. b.parts term (0, omega arith, refl);
        terms = [];
        terms_there = All-nil (λ u. u < length made.arena);
        additions = omega arith;
        below = λ u leads. inr (record { part = term; is_part = (0, omega arith, refl); leads = leads });
      };
    })

-- ---- sums of parts that were cut

-- the parts of a sum whose node is within bounds are so
bounded_parts : (nodes : List GroundNode) (cells : List Cell) (parts : List (ℤ × ℕ)) → All IsWithinNumbers (map (λ p. p.0) parts) → ((t : ℕ) → Contains (map (λ p. p.1) parts) t → IsBoundedBelow nodes cells t) → AreBoundedParts nodes cells parts
bounded_parts nodes cells [] near below = All-nil (λ p. IsBoundedBelow nodes cells p.1 × IsWithinNumbers p.0)
bounded_parts nodes cells (p ∷ parts) near below =
    All-cons (λ q. IsBoundedBelow nodes cells q.1 × IsWithinNumbers q.0) p parts
    (below p.1 (0, omega arith, refl), All-head IsWithinNumbers p.0 (map (λ q. q.0) parts) near)
    (bounded_parts nodes cells parts (All-tail IsWithinNumbers p.0 (map (λ q. q.0) parts) near) (λ t found. below t (Contains-append_right (p.1 ∷ []) (map (λ q. q.1) parts) t found)))

-- and the other way round
bounded_over : (nodes : List GroundNode) (cells : List Cell) (number : ℤ) (parts : List (ℤ × ℕ)) → IsWithinReach (node_reach cells (term_reach nodes cells) (sum number parts)) → AreBoundedParts nodes cells parts → IsBoundedOver nodes cells (sum number parts)
unfolding parts_of coefficients_of
bounded_over nodes cells number parts reach h = record {
  reach = reach;
  coefficients = All-map IsWithinNumbers (λ (p : ℤ × ℕ). p.0) parts (All-weaker (λ (p : ℤ × ℕ). IsBoundedBelow nodes cells p.1 × IsWithinNumbers p.0) (λ p. IsWithinNumbers p.0) (λ p b. b.1) parts h);
  parts = λ t found. All-contains (IsBoundedBelow nodes cells) (map (λ p. p.1) parts) t
      (All-map (IsBoundedBelow nodes cells) (λ (p : ℤ × ℕ). p.1) parts (All-weaker (λ (p : ℤ × ℕ). IsBoundedBelow nodes cells p.1 × IsWithinNumbers p.0) (λ p. IsBoundedBelow nodes cells p.1) (λ p b. b.0) parts h)) found;
}

-- a part with a term of a sum
of_terms : (parts : List (ℤ × ℕ)) (t : ℕ) → Contains (map (λ p. p.1) parts) t → (p : ℤ × ℕ) × Contains parts p × (p.1 ≡ t)
of_terms [] t (k, below, same) = absurd (omega (arith, below))
of_terms (p ∷ parts) t (zero, below, same) = (p, (0, omega arith, refl), same)
of_terms (p ∷ parts) t (suc k, below, same) =
    let r = of_terms parts t (k, omega (arith, below), same) in
    (r.0, Contains-append_right (p ∷ []) parts r.0 r.1, r.2)

counts_fit : (first second left parts : ℕ) → first + left ≤ parts → (0 < parts → 0 < left) → second ≤ left - 1 → first + second ≤ parts - 1
counts_fit first second zero zero h some g = omega (arith, h, g)
counts_fit first second zero (suc parts) h some g = absurd (let l = some (omega arith) in omega (arith, l))
counts_fit first second (suc left) parts h some g = omega (arith, h, g)

nodes_fit : (first second left parts : ℕ) → first + left ≤ parts → (0 < parts → 0 < left) → second ≤ 1 → parts ≤ 8 → first + second ≤ 8
nodes_fit first second zero zero h some g small = omega (arith, h, g)
nodes_fit first second zero (suc parts) h some g small = absurd (let l = some (omega arith) in omega (arith, l))
nodes_fit first second (suc left) parts h some g small = omega (arith, h, g, small)

pub parts_settle : (cells : List Cell) (old mid new : Making) (number : ℤ) (parts left : List (ℤ × ℕ)) (term : ℕ) → length parts ≤ 8 → StandsForParts cells old.arena parts mid.arena left → IsSettled cells 1 mid (sum number left) new term → IsSettled cells 8 old (sum number parts) new term
unfolding parts_of coefficients_of additions_of additions_in
parts_settle cells old mid new number parts left term small h s = record {
  made = s.made;
  settles = record {
    more = h.more ++ s.settles.more;
    is = s.settles.is ∙ ap (λ ns. ns ++ s.settles.more) h.is ∙ append_assoc old.arena h.more s.settles.more;
    few = let n = nodes_fit (length h.more) (length s.settles.more) (length left) (length parts) h.few h.some s.settles.few small in omega (arith, n, length-append h.more s.settles.more);
    there = s.settles.there;
    value = λ values. s.settles.value values ∙ h.value values number;
    reach = s.settles.reach ∙ h.reach number;
    bounded = λ b. s.settles.bounded (bounded_over mid.arena cells number left (subst IsWithinReach (sym (h.reach number)) b.reach) (h.bounded (bounded_parts old.arena cells parts b.coefficients b.parts)));
    terms = h.terms ++ s.settles.terms;
    terms_there = All-append (λ t. t < length new.arena) h.terms s.settles.terms
        (All-weaker (λ t. t < length mid.arena) (λ t. t < length new.arena) (λ t below. omega (arith, below, ap length s.settles.is, length-append mid.arena s.settles.more)) h.terms h.terms_there) s.settles.terms_there;
    additions =
        let before = ap (λ ns. sum_by (λ t. additions_in (slice_get ns t)) h.terms) s.settles.is ∙ same_asked mid.arena s.settles.more h.terms h.terms_there in
        let first : sum_by (λ t. additions_in (slice_get new.arena t)) h.terms + length left ≤ length parts = omega (arith, before, h.additions) in
        let n = counts_fit (sum_by (λ t. additions_in (slice_get new.arena t)) h.terms) (sum_by (λ t. additions_in (slice_get new.arena t)) s.settles.terms) (length left) (length parts) first h.some s.settles.additions in
        omega (arith, n, sum_by-append (λ t. additions_in (slice_get new.arena t)) h.terms s.settles.terms);
    below = λ u leads. elim (s.settles.below u leads) as (λ _. Contains (h.terms ++ s.settles.terms) u ⊎ IsBelowPart old.arena (sum number parts) u) [
      | inl one ↦ inl (Contains-append_right h.terms s.settles.terms u one)
      | inr part ↦ under u part
    ];
  };
}
  where
    under : (u : ℕ) → IsBelowPart mid.arena (sum number left) u → Contains (h.terms ++ s.settles.terms) u ⊎ IsBelowPart old.arena (sum number parts) u
    under u part =
        let p = of_terms left part.part part.is_part in
        elim (h.below p.0 u p.1 (subst (λ t. LeadsTo mid.arena t u) (sym p.2) part.leads)) as (λ _. Contains (h.terms ++ s.settles.terms) u ⊎ IsBelowPart old.arena (sum number parts) u) [
          | inl one ↦ inl (Contains-append_left h.terms s.settles.terms u one)
          | inr one ↦ inr (record { part = one.part.1; is_part = part_term parts one.part one.is_part; leads = one.leads })
        ]

-- ---- what can be taken in

pub sum_can : (cells : List Cell) (made : Making) (number : ℤ) (parts : List (ℤ × ℕ)) → length parts ≤ 8 → ArePartsOf (length made.arena) parts → CanBeTaken cells made (sum number parts)
unfolding parts_of coefficients_of is_partial StandsOver
sum_can cells made number parts small below = record {
  parts = term_part (λ t. t < length made.arena) parts below;
  safe = record { whole = refl; stands = tt };
  few = omega (arith, length-map parts (λ (p : ℤ × ℕ). p.0), small);
}

parts_of_terms : (nodes : ℕ) (parts : List (ℤ × ℕ)) → All (λ t. t < nodes) (map (λ p. p.1) parts) → ArePartsOf nodes parts
parts_of_terms nodes [] h = All-nil (λ p. p.1 < nodes)
parts_of_terms nodes (p ∷ parts) h = All-cons (λ q. q.1 < nodes) p parts (All-head (λ t. t < nodes) p.1 (map (λ q. q.1) parts) h) (parts_of_terms nodes parts (All-tail (λ t. t < nodes) p.1 (map (λ q. q.1) parts) h))

pub sum_parts : (cells : List Cell) (made : Making) (number : ℤ) (parts : List (ℤ × ℕ)) → CanBeTaken cells made (sum number parts) → ArePartsOf (length made.arena) parts
unfolding parts_of
sum_parts cells made number parts h = parts_of_terms (length made.arena) parts h.parts
