-- New nodes after one was taken in.
use Rattle.std.proofs.Common.{◌≡◌, ℕ, ◌<◌, inl, inr, ℤ, pos, List, [], ◌∷◌, ◌++◌, length, Some, sym, ap, subst, ◌∙◌, arith, slice_get, get_or}
use Rattle.std.specs.Prelude.{slice_index_or}
use Rattle.std.specs.List.{All, Contains}
use Rattle.std.proofs.lemmas.List.{get_or_append_left, get_or_at, length-map, length_push, map-append}
use Rattle.std.proofs.lemmas.List.Elements.{All-cons, All-contains, All-nil, All-push}
use Rattle.std.proofs.lemmas.Option.{get_or_from_slice_get, slice_get-get_or}
use Rattle.ep_base.specs.Intervals.{IsWithinReach, only}
use Rattle.ep_base.specs.Reads.{IsWithinNumbers}
use Rattle.ep_defined.proofs.Reaches.{bounded_part, is_more}
use Rattle.ep_defined.specs.Growing.{IsNodeAt, IsSafeOver}
use Rattle.ep_defined.specs.Translations.{IsBoundedBelow}
use Rattle.ep_ground.proofs.SameParts.{reach_same}
use Rattle.ep_ground.proofs.Taking.{contains_from_get, got_at_end}
use Rattle.ep_ground.proofs.TermLaws.{reach_is, reach_more}
use Rattle.ep_ground.specs.ArenaSteps.{Interned}
use Rattle.ep_ground.specs.Bounds.{node_reach, reach_at, term_reach}
use Rattle.ep_ground.specs.Grounds.{LeadsTo, by_part, itself}
use Rattle.ep_ground.specs.Nodes.{GroundNode, sum, undefined, coefficients_of, parts_of}
use Rattle.ep_ground.specs.Terms.{IsArena, PartsStandBefore}
use Rattle.ep_ground.specs.declared.cells.Cell.{Cell}
use Rattle.ep_numbers.specs.Spans.{interval_of, intervals_of}
use Rattle.ep_numbers.specs.declared.spans.Span.{Span}
use Rattle.ep_reach.specs.Reaching.{HasFewParts}
use Rattle.ep_share.proofs.Parts.{part_term}
use Rattle.ep_share.specs.Cutting.{CanBeTaken, IsCut, IsMade, IsNearPair, IsReachOver, IsTaken, told_reach}
use Rattle.ep_share.specs.declared.making.Making.{Making}
use Rattle.ep_simplify.proofs.Taking.{grown_arena, same_arena}
use Rattle.ep_simplify.proofs.Values.{less_or_last}

-- ---- more nodes

leads_longer : (nodes more : List GroundNode) (t u : ℕ) → LeadsTo nodes t u → LeadsTo (nodes ++ more) t u
leads_longer nodes more t _ (itself _) = itself t
leads_longer nodes more t u (by_part _ part _ node at found rest) = by_part t part u node (is_more nodes more t node at) found (leads_longer nodes more part u rest)

leads_below : (nodes : List GroundNode) → PartsStandBefore nodes → (t u : ℕ) → t < length nodes → LeadsTo nodes t u → u < length nodes
leads_below nodes before t _ below (itself _) = below
leads_below nodes before t u below (by_part _ part _ node at found rest) =
    leads_below nodes before part u (let h = All-contains (λ p. p < t) (parts_of node) part (before t node at) found in omega (arith, h, below)) rest

-- what stays within bounds among more nodes did so before
pub bounded_less : (nodes more : List GroundNode) (cells : List Cell) → PartsStandBefore nodes → (t : ℕ) → t < length nodes → IsBoundedBelow (nodes ++ more) cells t → IsBoundedBelow nodes cells t
bounded_less nodes more cells before t below h = λ u leads.
    let there = leads_below nodes before t u below leads in
    let now = h u (leads_longer nodes more t u leads) in (
      subst IsWithinReach (reach_more nodes more cells u there) now.0,
      subst (λ n. All IsWithinNumbers (coefficients_of n)) (get_or_append_left nodes more undefined u there) now.1,
    )

-- ---- the table

-- a table goes on with one interval more
pushed_spans : (spans : List Span) (span : Span) → intervals_of (spans ++ span ∷ []) ≡ intervals_of spans ++ interval_of span ∷ []
pushed_spans spans span = map-append interval_of spans (span ∷ [])

pub told_more : (spans : List Span) (span : Span) (t : ℕ) → t < length spans → told_reach (spans ++ span ∷ []) t ≡ told_reach spans t
unfolding reach_at
told_more spans span t below =
    ap (λ is. slice_index_or is t (only (pos 0))) (pushed_spans spans span)
    ∙ get_or_append_left (intervals_of spans) (interval_of span ∷ []) (only (pos 0)) t (subst (λ n. t < n) (sym (length-map spans interval_of)) below)

told_last : (spans : List Span) (span : Span) (t : ℕ) → t ≡ length spans → told_reach (spans ++ span ∷ []) t ≡ interval_of span
unfolding reach_at
told_last spans span t same =
    ap (λ is. slice_index_or is t (only (pos 0))) (pushed_spans spans span)
    ∙ get_or_at (intervals_of spans) (interval_of span) [] (only (pos 0)) t (length-map spans interval_of ∙ sym same)

two_terms : (P : ℕ → Type 0) (p q : ℤ × ℕ) → P p.1 → P q.1 → (t : ℕ) → Contains (p.1 ∷ q.1 ∷ []) t → P t
two_terms P p q one other t found = All-contains P (p.1 ∷ q.1 ∷ []) t (All-cons P p.1 (q.1 ∷ []) one (All-cons P q.1 [] other (All-nil P))) found

-- two parts have a near sum by a table that goes on where they had before
pub near_less : (spans : List Span) (span : Span) (p q : ℤ × ℕ) → p.1 < length spans → q.1 < length spans → IsNearPair (told_reach (spans ++ span ∷ [])) p q → IsNearPair (told_reach spans) p q
unfolding parts_of
near_less spans span p q one other h =
    subst IsWithinReach
    (reach_same [] (told_reach (spans ++ span ∷ [])) (told_reach spans) (sum (pos 0) (p ∷ q ∷ []))
    (λ t found. two_terms (λ u. told_reach (spans ++ span ∷ []) u ≡ told_reach spans u) p q (told_more spans span p.1 one) (told_more spans span q.1 other) t found))
    h

-- a part at a place of a sum is one of its terms
term_at : (number : ℤ) (parts : List (ℤ × ℕ)) (k : ℕ) (p : ℤ × ℕ) → slice_get parts k ≡ Some p → Contains (parts_of (sum number parts)) p.1
unfolding parts_of
term_at number parts k p at = part_term parts p (contains_from_get parts k p at)

-- a node that is cut by a table is so by one that goes on
pub cut_more : (spans : List Span) (span : Span) (node : GroundNode) → All (λ t. t < length spans) (parts_of node) → IsCut (told_reach spans) node → IsCut (told_reach (spans ++ span ∷ [])) node
cut_more spans span node below h = λ number parts is few p q two near.
    let there : (k : ℕ) (r : ℤ × ℕ) → slice_get parts k ≡ Some r → r.1 < length spans =
    λ k r at. All-contains (λ t. t < length spans) (parts_of node) r.1 below (subst (λ n. Contains (parts_of n) r.1) (sym is) (term_at number parts k r at)) in
    h number parts is few p q two (near_less spans span p q (there two.first p two.at_first) (there two.second q two.at_second) near)

all_cut_more : (nodes : List GroundNode) (spans : List Span) (span : Span) → PartsStandBefore nodes → length spans ≡ length nodes → All (IsCut (told_reach spans)) nodes → All (IsCut (told_reach (spans ++ span ∷ []))) nodes
all_cut_more nodes spans span before long h = λ k d below.
    let node = get_or nodes k d in
    cut_more spans span node
    (λ i e l. let less = before k node (slice_get-get_or nodes k d below) i e l in omega (arith, less, below, long))
    (h k d below)

-- ---- one node more

-- how far a node reaches by the table is how far it does, where its parts stay within bounds
told_node : (cells : List Cell) (old : Making) (node : GroundNode) → IsMade cells old → All (λ t. t < length old.arena) (parts_of node) → ((p : ℕ) → Contains (parts_of node) p → IsBoundedBelow old.arena cells p)
    → node_reach cells (told_reach old.spans.items) node ≡ node_reach cells (term_reach old.arena cells) node
told_node cells old node h below bounded =
    reach_same cells (told_reach old.spans.items) (term_reach old.arena cells) node
    (λ p found. h.exact p (All-contains (λ t. t < length old.arena) (parts_of node) p below found) (bounded p found))

-- what is known where a node is new
record IsPushed (cells : List Cell) (old new : Making) (node : GroundNode) (span : Span) : Type 0 where
  arena : new.arena ≡ old.arena ++ node ∷ []
  spans : new.spans.items ≡ old.spans.items ++ span ∷ []
  is_arena : IsArena new.arena
  reach : IsReachOver cells old.spans.items node (interval_of span)
  can : CanBeTaken cells old node
  cut : IsCut (told_reach old.spans.items) node

pushed_exact : (cells : List Cell) (old new : Making) (node : GroundNode) (span : Span) → IsMade cells old → IsPushed cells old new node span → (t : ℕ) → t < length new.arena → IsBoundedBelow new.arena cells t → told_reach new.spans.items t ≡ term_reach new.arena cells t
pushed_exact cells old new node span h p t below bounded =
    elim (less_or_last t (length old.arena) (omega (arith, below, ap length p.arena, length_push old.arena node))) as (λ _. told_reach new.spans.items t ≡ term_reach new.arena cells t) [
      | inl less ↦
          ap (λ ss. told_reach ss t) p.spans ∙ told_more old.spans.items span t (omega (arith, less, h.long))
          ∙ h.exact t less (bounded_less old.arena (node ∷ []) cells h.before t less (subst (λ ns. IsBoundedBelow ns cells t) p.arena bounded))
          ∙ sym (ap (λ ns. term_reach ns cells t) p.arena ∙ reach_more old.arena (node ∷ []) cells t less)
      | inr same ↦ last same
    ]
  where
    at : IsNodeAt new.arena (length old.arena) node
    at = ap (λ ns. slice_get ns (length old.arena)) p.arena ∙ got_at_end old.arena node

    reaches : term_reach new.arena cells (length old.arena) ≡ node_reach cells (term_reach old.arena cells) node
    reaches =
        reach_is new.arena cells p.is_arena.before (length old.arena) node at
        ∙ reach_same cells (term_reach new.arena cells) (term_reach old.arena cells) node
        (λ t found. ap (λ ns. term_reach ns cells t) p.arena ∙ reach_more old.arena (node ∷ []) cells t (All-contains (λ u. u < length old.arena) (parts_of node) t p.can.parts found))

    last : t ≡ length old.arena → told_reach new.spans.items t ≡ term_reach new.arena cells t
    last same =
        let mine = subst (IsBoundedBelow new.arena cells) same bounded in
        let own = mine (length old.arena) (itself (length old.arena)) in
        let parts = λ (q : ℕ) (found : Contains (parts_of node) q).
        bounded_less old.arena (node ∷ []) cells h.before q (All-contains (λ u. u < length old.arena) (parts_of node) q p.can.parts found)
        (subst (λ ns. IsBoundedBelow ns cells q) p.arena (bounded_part new.arena cells (length old.arena) node at mine q found)) in
        let told = told_node cells old node h p.can.parts parts in
        ap (λ ss. told_reach ss t) p.spans ∙ told_last old.spans.items span t (same ∙ sym h.long)
        ∙ p.reach.told (record {
          before = h.within;
          reach = subst IsWithinReach (reaches ∙ sym told) own.0;
          coefficients = subst (λ n. All IsWithinNumbers (coefficients_of n)) (get_or_from_slice_get new.arena (length old.arena) node undefined at) own.1;
          few = p.can.few;
        })
        ∙ told ∙ sym reaches ∙ ap (term_reach new.arena cells) (sym same)

pushed_made : (cells : List Cell) (old new : Making) (node : GroundNode) (span : Span) → IsMade cells old → IsPushed cells old new node span → IsMade cells new
pushed_made cells old new node span h p = record {
  before = p.is_arena.before;
  different = p.is_arena.different;
  safe = subst (All (IsSafeOver (length cells))) (sym p.arena) (All-push (IsSafeOver (length cells)) old.arena node h.safe p.can.safe);
  few = subst (All HasFewParts) (sym p.arena) (All-push HasFewParts old.arena node h.few p.can.few);
  long = omega (arith, ap length p.spans, length_push old.spans.items span, ap length p.arena, length_push old.arena node, h.long);
  within = subst (All IsWithinReach) (sym (ap intervals_of p.spans ∙ pushed_spans old.spans.items span)) (All-push IsWithinReach (intervals_of old.spans.items) (interval_of span) h.within p.reach.within);
  exact = pushed_exact cells old new node span h p;
  cut =
      subst (λ ss. All (IsCut (told_reach ss)) new.arena) (sym p.spans)
      (subst (All (IsCut (told_reach (old.spans.items ++ span ∷ [])))) (sym p.arena)
      (All-push (IsCut (told_reach (old.spans.items ++ span ∷ []))) old.arena node
      (all_cut_more old.arena old.spans.items span h.before h.long h.cut)
      (cut_more old.spans.items span node (λ i e l. let less = p.can.parts i e l in omega (arith, less, h.long)) p.cut)));
}

pub taken_new : (cells : List Cell) (old new : Making) (node : GroundNode) (span : Span) (term : ℕ) → IsMade cells old → CanBeTaken cells old node → IsCut (told_reach old.spans.items) node → IsReachOver cells old.spans.items node (interval_of span)
    → IsArena new.arena → IsNodeAt new.arena term node → Interned old.arena node new.arena → (length new.arena ≡ length old.arena → ⊥) → new.spans.items ≡ old.spans.items ++ span ∷ [] → IsTaken cells old node new term
taken_new cells old new node span term h can cut reach is_arena is interned long spans = record {
  is = is;
  interned = interned;
  made = pushed_made cells old new node span h (record { arena = grown_arena old.arena new.arena node interned long; spans = spans; is_arena = is_arena; reach = reach; can = can; cut = cut });
}

pub taken_old : (cells : List Cell) (old new : Making) (node : GroundNode) (term : ℕ) → IsMade cells old → IsNodeAt new.arena term node → Interned old.arena node new.arena → length new.arena ≡ length old.arena → new.spans.items ≡ old.spans.items → IsTaken cells old node new term
taken_old cells old new node term h is interned long spans =
    let same = same_arena old.arena new.arena node interned long in
    record {
      is = is;
      interned = interned;
      made = record {
        before = subst PartsStandBefore (sym same) h.before;
        different = λ s t other at_s at_t. h.different s t other (subst (λ ns. slice_get ns s ≡ Some other) same at_s) (subst (λ ns. slice_get ns t ≡ Some other) same at_t);
        safe = subst (All (IsSafeOver (length cells))) (sym same) h.safe;
        few = subst (All HasFewParts) (sym same) h.few;
        long = ap length spans ∙ h.long ∙ ap length (sym same);
        within = subst (λ ss. All IsWithinReach (intervals_of ss)) (sym spans) h.within;
        exact = λ t below bounded.
            ap (λ ss. told_reach ss t) spans
            ∙ h.exact t (subst (λ ns. t < length ns) same below) (subst (λ ns. IsBoundedBelow ns cells t) same bounded)
            ∙ ap (λ ns. term_reach ns cells t) (sym same);
        cut = subst (λ ss. All (IsCut (told_reach ss)) new.arena) (sym spans) (subst (All (IsCut (told_reach old.spans.items))) (sym same) h.cut);
      };
    }
