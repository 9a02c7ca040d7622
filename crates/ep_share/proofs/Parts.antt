-- Two parts of a sum as a term of their own.
use Rattle.std.proofs.Common.{◌≡◌, ℕ, zero, suc, ◌+◌, ◌<◌, ◌⊎◌, inl, inr, ℤ, pos, List, [], ◌∷◌, ◌++◌, length, Option, Some, refl, sym, ap, subst, ◌∙◌, arith, slice_get, get_or}
use Rattle.std.specs.Prelude.{map, sum_by}
use Rattle.std.specs.List.{All, Contains}
use Rattle.std.proofs.lemmas.Int.{ints}
use Rattle.std.proofs.lemmas.List.{append_assoc, length-append}
use Rattle.std.proofs.lemmas.List.Elements.{All-append, All-cons, All-contains, All-map, All-nil, All-weaker, Contains-append_left, Contains-append_right}
use Rattle.std.proofs.lemmas.List.Sums.{sum_by-append, sum_by-cons}
use Rattle.std.proofs.lemmas.Option.{same_Some, slice_get_within}
use Rattle.ep_base.specs.Intervals.{Interval, IsWithinReach}
use Rattle.ep_base.specs.Reads.{IsWithinNumbers}
use Rattle.ep_defined.proofs.Reaches.{bounded_more, bounded_node, get_more, leads_more}
use Rattle.ep_defined.specs.Translations.{IsBoundedBelow}
use Rattle.ep_ground.proofs.SameParts.{node_same, reach_same}
use Rattle.ep_ground.proofs.TermLaws.{reach_is, reach_more, value_is, value_more}
use Rattle.ep_ground.specs.Bounds.{node_reach, term_reach}
use Rattle.ep_ground.specs.Grounds.{LeadsTo, additions_in, by_part, itself}
use Rattle.ep_ground.specs.Nodes.{GroundNode, sum, parts_of}
use Rattle.ep_ground.specs.Terms.{node_value, term_value}
use Rattle.ep_ground.specs.declared.cells.Cell.{Cell}
use Rattle.ep_share.proofs.TwoParts.{pair_additions, pair_parts, pair_reach, pair_weights, pair_worth, two_reach}
use Rattle.ep_share.proofs.Splitting.{Joins, joined_length, splits_all, splits_cases, splits_holds, splits_itself, splits_length, splits_other, splits_rest}
use Rattle.ep_share.proofs.Totals.{both_ends, ends_ascend, ends_group, ends_swap, plus, plus_groups, plus_swaps, splits_total, spread, spread_ascends, spread_one, sum_spread, sum_worth, times_one, total, worth}
use Rattle.ep_share.specs.Cutting.{AreBoundedParts, IsBelowOne, IsMade, IsNearPair, IsTaken, StandsForParts, pair_of, told_reach}
use Rattle.ep_share.specs.declared.making.Making.{Making}
use Rattle.ep_simplify.proofs.Taking.{GoesOn, goes_on, none_more}

-- a part of a sum is one of its terms
pub part_term : (parts : List (ℤ × ℕ)) (p : ℤ × ℕ) → Contains parts p → Contains (map (λ q. q.1) parts) p.1
part_term [] p (k, below, same) = absurd (omega (arith, below))
part_term (q ∷ parts) p (zero, below, same) = (0, omega arith, ap (λ r. r.1) same)
part_term (q ∷ parts) p (suc k, below, same) = Contains-append_right (q.1 ∷ []) (map (λ r. r.1) parts) p.1 (part_term parts p (k, omega (arith, below), same))

pub term_part : (P : ℕ → Type 0) (parts : List (ℤ × ℕ)) → All (λ p. P p.1) parts → All P (map (λ p. p.1) parts)
term_part P parts h = All-map P (λ (p : ℤ × ℕ). p.1) parts h

-- sums over terms that are there have the same value among more nodes
pub same_value : (old more : List GroundNode) (values : List ℤ) (number : ℤ) (parts : List (ℤ × ℕ)) → All (λ p. p.1 < length old) parts → node_value values (term_value (old ++ more) values) (sum number parts) ≡ node_value values (term_value old values) (sum number parts)
unfolding parts_of
same_value old more values number parts there =
    node_same values (term_value (old ++ more) values) (term_value old values) (sum number parts)
    (λ t found. value_more old more values t (All-contains (λ u. u < length old) (map (λ p. p.1) parts) t (term_part (λ u. u < length old) parts there) found))

-- and the same reach
pub same_reach : (old more : List GroundNode) (cells : List Cell) (number : ℤ) (parts : List (ℤ × ℕ)) → All (λ p. p.1 < length old) parts → node_reach cells (term_reach (old ++ more) cells) (sum number parts) ≡ node_reach cells (term_reach old cells) (sum number parts)
unfolding parts_of
same_reach old more cells number parts there =
    reach_same cells (term_reach (old ++ more) cells) (term_reach old cells) (sum number parts)
    (λ t found. reach_more old more cells t (All-contains (λ u. u < length old) (map (λ p. p.1) parts) t (term_part (λ u. u < length old) parts there) found))

-- one part in place of two leaves the value of a sum as it is, where it has theirs together
joined_value : (values : List ℤ) (value : ℕ → Option ℤ) (number : ℤ) (parts left : List (ℤ × ℕ)) (p q x : ℤ × ℕ) → Joins parts p q left x → worth value x ≡ plus (worth value p) (worth value q) → node_value values value (sum number left) ≡ node_value values value (sum number parts)
joined_value values value number parts left p q x j same =
    sum_worth values value number left
    ∙ ap (plus (Some number))
    (splits_total plus (Some (pos 0)) (worth value) plus_swaps left x j.both j.put
    ∙ ap (λ w. plus w (total plus (Some (pos 0)) (worth value) j.both)) same
    ∙ sym (plus_groups (worth value p) (worth value q) (total plus (Some (pos 0)) (worth value) j.both))
    ∙ sym (splits_total plus (Some (pos 0)) (worth value) plus_swaps parts p j.one j.first ∙ ap (plus (worth value p)) (splits_total plus (Some (pos 0)) (worth value) plus_swaps j.one q j.both j.second)))
    ∙ sym (sum_worth values value number parts)

-- and its reach
joined_reach : (cells : List Cell) (reach : ℕ → Interval) (number : ℤ) (parts left : List (ℤ × ℕ)) (p q x : ℤ × ℕ) → Joins parts p q left x → spread reach x ≡ both_ends (spread reach p) (spread reach q) → node_reach cells reach (sum number left) ≡ node_reach cells reach (sum number parts)
joined_reach cells reach number parts left p q x j same =
    sum_spread cells reach number left
    ∙ ap (both_ends (record { low = number; high = number }))
    (splits_total both_ends (record { low = pos 0; high = pos 0 }) (spread reach) ends_swap left x j.both j.put
    ∙ ap (λ w. both_ends w (total both_ends (record { low = pos 0; high = pos 0 }) (spread reach) j.both)) same
    ∙ sym (ends_group (spread reach p) (spread reach q) (total both_ends (record { low = pos 0; high = pos 0 }) (spread reach) j.both))
    ∙ sym (splits_total both_ends (record { low = pos 0; high = pos 0 }) (spread reach) ends_swap parts p j.one j.first ∙ ap (both_ends (spread reach p)) (splits_total both_ends (record { low = pos 0; high = pos 0 }) (spread reach) ends_swap j.one q j.both j.second)))
    ∙ sym (sum_spread cells reach number parts)

-- what is known where two parts became a term
pub record IsPairTaken (cells : List Cell) (old new : Making) (parts left : List (ℤ × ℕ)) (p q : ℤ × ℕ) (term : ℕ) : Type 0 where
  pub made : IsMade cells old
  pub taken : IsTaken cells old (pair_of p q) new term
  pub joins : Joins parts p q left (pos 1, term)
  pub near : IsNearPair (told_reach old.spans.items) p q
  pub there : All (λ r. r.1 < length old.arena) parts

one_near : IsWithinNumbers (pos 1)
one_near = (omega (arith, ints), omega (arith, ints))

pub pair_stands : (cells : List Cell) (old new : Making) (parts left : List (ℤ × ℕ)) (p q : ℤ × ℕ) (term : ℕ) → IsPairTaken cells old new parts left p q term → StandsForParts cells old.arena parts new.arena left
pair_stands cells old new parts left p q term h = record {
  more = g.more;
  is = g.is;
  few = omega (arith, g.few, lengths);
  some = λ any. omega (arith, splits_length left (pos 1, term) h.joins.both h.joins.put);
  there = splits_all (λ r. r.1 < length new.arena) left (pos 1, term) h.joins.both h.joins.put term_there (All-weaker (λ (r : ℤ × ℕ). r.1 < length old.arena) (λ r. r.1 < length new.arena) (λ r below. omega (arith, below, longer)) h.joins.both both_there);
  value = λ values number.
      joined_value values (term_value new.arena values) number parts left p q (pos 1, term) h.joins (times_one (term_value new.arena values term) ∙ value_is new.arena values h.taken.made.before term (pair_of p q) h.taken.is ∙ pair_worth values (term_value new.arena values) p q)
      ∙ ap (λ ns. node_value values (term_value ns values) (sum number parts)) g.is ∙ same_value old.arena g.more values number parts h.there;
  reach = λ number.
      joined_reach cells (term_reach new.arena cells) number parts left p q (pos 1, term) h.joins pair_spread
      ∙ ap (λ ns. node_reach cells (term_reach ns cells) (sum number parts)) g.is ∙ same_reach old.arena g.more cells number parts h.there;
  bounded = λ b. splits_all (λ r. IsBoundedBelow new.arena cells r.1 × IsWithinNumbers r.0) left (pos 1, term) h.joins.both h.joins.put
      (pair_bounded b, one_near)
      (λ k d below. let r = get_or h.joins.both k d in (more_bounded r.1 (both_there k d below) (both_bounded b k d below).0, (both_bounded b k d below).1));
  terms = term ∷ [];
  terms_there = All-cons (λ t. t < length new.arena) term [] term_there (All-nil (λ t. t < length new.arena));
  additions = omega (arith, lengths, asked);
  below = λ r u found leads. elim (splits_cases left (pos 1, term) h.joins.both r h.joins.put found) as (λ _. Contains (term ∷ []) u ⊎ IsBelowOne old.arena parts u) [
    | inl same ↦ under u (subst (λ (s : ℤ × ℕ). LeadsTo new.arena s.1 u) (sym same) leads)
    | inr other ↦ inr (record {
      part = r;
      is_part = among r other;
      leads = was r.1 u (All-contains (λ s. s.1 < length old.arena) parts r h.there (among r other)) leads;
    })
  ];
}
  where
    g : GoesOn old.arena new.arena (pair_of p q)
    g = goes_on old.arena new.arena (pair_of p q) h.taken.interned

    longer : length new.arena ≡ length old.arena + length g.more
    longer = ap length g.is ∙ length-append old.arena g.more

    lengths : suc (length left) ≡ length parts
    lengths = joined_length parts p q left (pos 1, term) h.joins

    term_there : term < length new.arena
    term_there = slice_get_within new.arena term (pair_of p q) h.taken.is

    p_there : p.1 < length old.arena
    p_there = splits_holds (λ r. r.1 < length old.arena) parts p h.joins.one h.joins.first h.there

    one_there : All (λ r. r.1 < length old.arena) h.joins.one
    one_there = splits_rest (λ r. r.1 < length old.arena) parts p h.joins.one h.joins.first h.there

    q_there : q.1 < length old.arena
    q_there = splits_holds (λ r. r.1 < length old.arena) h.joins.one q h.joins.both h.joins.second one_there

    both_there : All (λ r. r.1 < length old.arena) h.joins.both
    both_there = splits_rest (λ r. r.1 < length old.arena) h.joins.one q h.joins.both h.joins.second one_there

    among : (r : ℤ × ℕ) → Contains h.joins.both r → Contains parts r
    among r found = splits_other parts p h.joins.one r h.joins.first (splits_other h.joins.one q h.joins.both r h.joins.second found)

    q_among : Contains parts q
    q_among = splits_other parts p h.joins.one q h.joins.first (splits_itself h.joins.one q h.joins.both h.joins.second)

    was : (t u : ℕ) → t < length old.arena → LeadsTo new.arena t u → LeadsTo old.arena t u
    was t u below leads = (leads_more old.arena g.more h.made.before t u below (subst (λ ns. LeadsTo ns t u) g.is leads)).0

    pair_spread : spread (term_reach new.arena cells) (pos 1, term) ≡ both_ends (spread (term_reach new.arena cells) p) (spread (term_reach new.arena cells) q)
    pair_spread =
        let r = term_reach new.arena cells in
        let is = reach_is new.arena cells h.taken.made.before term (pair_of p q) h.taken.is ∙ pair_reach cells r p q in
        let up : both_ends (spread r p) (spread r q) ≡ both_ends (spread r p) (spread r q) = refl in
        ap (λ i. spread (λ t. i) (pos 1, term)) is
        ∙ spread_one (both_ends (spread r p) (spread r q)) (ends_ascend (spread r p) (spread r q) (spread_ascends p.0 (r p.1)) (spread_ascends q.0 (r q.1)))

    more_bounded : (t : ℕ) → t < length old.arena → IsBoundedBelow old.arena cells t → IsBoundedBelow new.arena cells t
    more_bounded t below b = subst (λ ns. IsBoundedBelow ns cells t) (sym g.is) (bounded_more old.arena g.more cells h.made.before t below b)

    both_bounded : AreBoundedParts old.arena cells parts → AreBoundedParts old.arena cells h.joins.both
    both_bounded b =
        splits_rest (λ r. IsBoundedBelow old.arena cells r.1 × IsWithinNumbers r.0) h.joins.one q h.joins.both h.joins.second (splits_rest (λ r. IsBoundedBelow old.arena cells r.1 × IsWithinNumbers r.0) parts p h.joins.one h.joins.first b)

    pair_bounded : AreBoundedParts old.arena cells parts → IsBoundedBelow new.arena cells term
    pair_bounded b =
        let Bounded = λ (r : ℤ × ℕ). IsBoundedBelow old.arena cells r.1 × IsWithinNumbers r.0 in
        let pb = splits_holds Bounded parts p h.joins.one h.joins.first b in
        let qb = splits_holds Bounded h.joins.one q h.joins.both h.joins.second (splits_rest Bounded parts p h.joins.one h.joins.first b) in
        let told = told_reach old.spans.items in
        let reach = term_reach new.arena cells in
        let at : (r : ℤ × ℕ) → r.1 < length old.arena → IsBoundedBelow old.arena cells r.1 → told r.1 ≡ reach r.1 =
        λ r below bounded. h.made.exact r.1 below bounded ∙ sym (ap (λ ns. term_reach ns cells r.1) g.is ∙ reach_more old.arena g.more cells r.1 below) in
        let same : node_reach [] told (sum (pos 0) (p ∷ q ∷ [])) ≡ node_reach cells reach (pair_of p q) =
        two_reach [] told p q ∙ (λ i. both_ends (spread (λ t. at p p_there pb.0 i) p) (spread (λ t. at q q_there qb.0 i) q)) ∙ sym (pair_reach cells reach p q) in
        bounded_node new.arena cells h.taken.made.before term (pair_of p q) h.taken.is (subst IsWithinReach same h.near) (pair_weights p q pb.1 qb.1)
        (λ t found. All-contains (λ t. IsBoundedBelow new.arena cells t) (parts_of (pair_of p q)) t (pair_parts (λ t. IsBoundedBelow new.arena cells t) p q (more_bounded p.1 p_there pb.0) (more_bounded q.1 q_there qb.0)) found)

    asked : sum_by (λ t. additions_in (slice_get new.arena t)) (term ∷ []) ≡ 1
    asked = sum_by-cons (λ t. additions_in (slice_get new.arena t)) term [] ∙ ap (λ o. additions_in o + 0) h.taken.is ∙ ap (λ n. n + 0) (pair_additions p q)

    -- what the pair leads to
    under : (u : ℕ) → LeadsTo new.arena term u → Contains (term ∷ []) u ⊎ IsBelowOne old.arena parts u
    under _ (itself _) = inl (0, omega arith, refl)
    under u (by_part _ part _ node at found rest) =
        let same : node ≡ pair_of p q = same_Some node (pair_of p q) (sym at ∙ h.taken.is) in
        inr (All-contains (λ t. LeadsTo new.arena t u → IsBelowOne old.arena parts u) (parts_of (pair_of p q)) part
        (pair_parts (λ t. LeadsTo new.arena t u → IsBelowOne old.arena parts u) p q
        (λ leads. record { part = p; is_part = splits_itself parts p h.joins.one h.joins.first; leads = was p.1 u p_there leads })
        (λ leads. record { part = q; is_part = q_among; leads = was q.1 u q_there leads }))
        (subst (λ n. Contains (parts_of n) part) same found) rest)

-- ---- one step behind another

-- parts stand for themselves
pub parts_stand : (cells : List Cell) (nodes : List GroundNode) (parts : List (ℤ × ℕ)) → All (λ p. p.1 < length nodes) parts → StandsForParts cells nodes parts nodes parts
parts_stand cells nodes parts there = record {
  more = [];
  is = none_more nodes;
  few = omega arith;
  some = λ any. any;
  there = there;
  value = λ values number. refl;
  reach = λ number. refl;
  bounded = λ b. b;
  terms = [];
  terms_there = All-nil (λ t. t < length nodes);
  additions = omega arith;
  below = λ p u found leads. inr (record { part = p; is_part = found; leads = leads });
}

-- terms that are there ask for the same among more nodes
pub same_asked : (nodes more : List GroundNode) (terms : List ℕ) → All (λ t. t < length nodes) terms → sum_by (λ t. additions_in (slice_get (nodes ++ more) t)) terms ≡ sum_by (λ t. additions_in (slice_get nodes t)) terms
same_asked nodes more [] there = refl
same_asked nodes more (t ∷ terms) there =
    sum_by-cons (λ u. additions_in (slice_get (nodes ++ more) u)) t terms
    ∙ (λ i. additions_in (get_more nodes more t (first_there t terms there) i) + same_asked nodes more terms (rest_there t terms there) i)
    ∙ sym (sum_by-cons (λ u. additions_in (slice_get nodes u)) t terms)
  where
    first_there : (t : ℕ) (terms : List ℕ) → All (λ u. u < length nodes) (t ∷ terms) → t < length nodes
    first_there t terms h = h 0 t (omega arith)

    rest_there : (t : ℕ) (terms : List ℕ) → All (λ u. u < length nodes) (t ∷ terms) → All (λ u. u < length nodes) terms
    rest_there t terms h = λ k d below. h (suc k) d (omega (arith, below))

pub stands_through : (cells : List Cell) (old mid new : List GroundNode) (parts some left : List (ℤ × ℕ)) → StandsForParts cells old parts mid some → StandsForParts cells mid some new left → StandsForParts cells old parts new left
stands_through cells old mid new parts some left h g = record {
  more = h.more ++ g.more;
  is = g.is ∙ ap (λ ns. ns ++ g.more) h.is ∙ append_assoc old h.more g.more;
  few = omega (arith, h.few, g.few, length-append h.more g.more);
  some = λ any. g.some (h.some any);
  there = g.there;
  value = λ values number. g.value values number ∙ h.value values number;
  reach = λ number. g.reach number ∙ h.reach number;
  bounded = λ b. g.bounded (h.bounded b);
  terms = h.terms ++ g.terms;
  terms_there = All-append (λ t. t < length new) h.terms g.terms (All-weaker (λ t. t < length mid) (λ t. t < length new) (λ t below. omega (arith, below, ap length g.is, length-append mid g.more)) h.terms h.terms_there) g.terms_there;
  additions =
      let before = ap (λ ns. sum_by (λ t. additions_in (slice_get ns t)) h.terms) g.is ∙ same_asked mid g.more h.terms h.terms_there in
      omega (arith, h.additions, g.additions, sum_by-append (λ t. additions_in (slice_get new t)) h.terms g.terms, before);
  below = λ p u found leads. elim (g.below p u found leads) as (λ _. Contains (h.terms ++ g.terms) u ⊎ IsBelowOne old parts u) [
    | inl one ↦ inl (Contains-append_right h.terms g.terms u one)
    | inr part ↦ elim (h.below part.part u part.is_part part.leads) as (λ _. Contains (h.terms ++ g.terms) u ⊎ IsBelowOne old parts u) [
      | inl one ↦ inl (Contains-append_left h.terms g.terms u one)
      | inr under ↦ inr under
    ]
  ];
}
