-- Terms that stand for nodes: those of nodes that were taken in, and parts.
use Rattle.std.proofs.Common.{◌≡◌, ◌≢◌, ℕ, ◌<◌, ◌≤◌, ◌⊎◌, inl, inr, Bool, true, false, ℤ, pos, List, [], ◌∷◌, ◌++◌, length, Option, Some, refl, sym, ap, subst, ◌∙◌, arith}
use Rattle.std.specs.Prelude.{IfSome, IsSome, get_or, slice_index_or}
use Rattle.std.specs.List.{All, Contains}
use Rattle.std.proofs.lemmas.List.{length-append, map-append}
use Rattle.std.proofs.lemmas.List.Elements.{All-append, All-cons, All-contains, All-head, All-nil, All-push, All-weaker, Contains-append_right, Contains-get_or}
use Rattle.std.proofs.lemmas.Option.{get_or_from_slice_get, same_Some, slice_get-get_or, slice_get_within}
use Rattle.ep_base.specs.Intervals.{Interval, IsWithinReach, LiesIn, only, truth_interval}
use Rattle.ep_base.specs.Numbers.{of_bool}
use Rattle.ep_base.specs.Reads.{IsWithinNumbers}
use Rattle.ep_defined.proofs.Reaches.{get_more, leads_more}
use Rattle.ep_defined.specs.Growing.{IsNodeAt, IsSafeOver}
use Rattle.ep_defined.proofs.Parts.{none_there}
use Rattle.ep_ground.proofs.Grown.{grown-append}
use Rattle.ep_ground.proofs.SameParts.{node_same, reach_same}
use Rattle.ep_ground.proofs.TermLaws.{reach_is, reach_more, value_is, value_more}
use Rattle.ep_ground.specs.ArenaSteps.{Interned}
use Rattle.ep_ground.specs.Bounds.{node_reach, reach_at, term_reach}
use Rattle.ep_ground.specs.Grounds.{AreCellValues, LeadsTo, itself, by_part, additions_in}
use Rattle.ep_ground.specs.Nodes.{GroundNode, constant, undefined, cell, sum, product, quotient, remainder, power, absolute, least, greatest, pick, whole, safe_quotient, safe_remainder, safe_pick, compare, lex, member, negation, all_of, any_of, same_truth, all_different, counts, at_least, at_most, table, coefficients_of, parts_of}
use Rattle.ep_ground.specs.Terms.{PartsStandBefore, node_value, term_value}
use Rattle.ep_ground.specs.declared.cells.Cell.{Cell}
use Rattle.ep_numbers.specs.Spans.{interval_of, intervals_of}
use Rattle.ep_numbers.specs.declared.spans.Span.{Span}
use Rattle.ep_reach.specs.Narrowing.{IsNarrower}
use Rattle.ep_reach.proofs.Narrower.{narrower_still}
use Rattle.ep_reach.proofs.Nodes.{all_first, all_second}
use Rattle.ep_reach.proofs.Reaching.{at_map, pushed_intervals}
use Rattle.ep_reach.specs.Reaching.{HasFewParts}
use Rattle.ep_simplify.proofs.Untold.{all_untold_more, near_replaced, number_more, untold_more, was_number}
use Rattle.ep_simplify.specs.Decided.{IsNumber, IsOpen}
use Rattle.ep_simplify.specs.Settling.{AlwaysSays, AreNear, AsksNoMore, IsBelowPart, IsNearOver, IsNews, IsNoted, IsSettled, IsTaken, IsUntold, Replaces, reaches_of}
use Rattle.ep_simplify.specs.declared.news.News.{News}

-- ---- more nodes

-- an arena goes on with one node or none
pub record GoesOn (old new : List GroundNode) (node : GroundNode) : Type 0 where
  pub more : List GroundNode
  pub is : new ≡ old ++ more
  pub few : length more ≤ 1
  pub only : All (λ one. one ≡ node) more

pub none_more : (old : List GroundNode) → old ≡ old ++ []
none_more [] = refl
none_more (x ∷ xs) = ap (λ ys. x ∷ ys) (none_more xs)

pub goes_on : (old new : List GroundNode) (node : GroundNode) → Interned old node new → GoesOn old new node
goes_on old new node (inl h) = record { more = []; is = h.1 ∙ none_more old; few = omega arith; only = All-nil (λ one. one ≡ node) }
goes_on old new node (inr h) = record { more = node ∷ []; is = h.1; few = omega arith; only = All-cons (λ one. one ≡ node) node [] refl (All-nil (λ one. one ≡ node)) }

-- what holds of the node holds of all that is new
all_more : (P : GroundNode → Type 0) (old new : List GroundNode) (node : GroundNode) (g : GoesOn old new node) → P node → All P g.more
all_more P old new node g p = All-weaker (λ one. one ≡ node) P (λ one same. subst P (sym same) p) g.more g.only

parts_below_more : (nodes more : List GroundNode) (ts : List ℕ) → ((p : ℕ) → Contains ts p → p < length nodes) → (ts ≢ []) × All (λ t. IsNumber nodes t → ⊥) ts → (ts ≢ []) × All (λ t. IsNumber (nodes ++ more) t → ⊥) ts
parts_below_more nodes more ts below h = (h.0, λ k d l number. h.1 k d l (was_number nodes more (get_or ts k d) (below (get_or ts k d) (Contains-get_or ts k d l)) number))

two_more : (nodes more : List GroundNode) (a b : ℕ) → ((p : ℕ) → Contains (a ∷ b ∷ []) p → p < length nodes) → (a ≢ b) × (IsNumber nodes a → IsNumber nodes b → ⊥) → (a ≢ b) × (IsNumber (nodes ++ more) a → IsNumber (nodes ++ more) b → ⊥)
two_more nodes more a b below h = (
  h.0,
  λ one other. h.1 (subst (λ o. IsSome o) (number_more nodes more a (below a (0, omega arith, refl))) one) (subst (λ o. IsSome o) (number_more nodes more b (below b (1, omega arith, refl))) other),
)

-- what a node's parts leave undecided they do among more nodes
open_more : (nodes more : List GroundNode) (node : GroundNode) → ((p : ℕ) → Contains (parts_of node) p → p < length nodes) → IsOpen nodes node → IsOpen (nodes ++ more) node
unfolding IsOpen parts_of
open_more nodes more (constant n) below h = tt
open_more nodes more undefined below h = tt
open_more nodes more (cell k) below h = tt
open_more nodes more (sum c parts) below h = tt
open_more nodes more (product a b) below h = tt
open_more nodes more (quotient a b) below h = tt
open_more nodes more (remainder a b) below h = tt
open_more nodes more (power a n) below h = tt
open_more nodes more (absolute a) below h = tt
open_more nodes more (least ts) below h = h
open_more nodes more (greatest ts) below h = h
open_more nodes more (pick ts keys indices) below h = tt
open_more nodes more (whole a ts) below h = tt
open_more nodes more (safe_quotient a b) below h = tt
open_more nodes more (safe_remainder a b) below h = tt
open_more nodes more (safe_pick ts keys indices) below h = λ numbers. h (λ k d l.
    was_number nodes more (get_or indices k d) (below (get_or indices k d) (Contains-append_right ts indices (get_or indices k d) (Contains-get_or indices k d l))) (numbers k d l))
open_more nodes more (compare op a b) below h = two_more nodes more a b below h
open_more nodes more (lex op ts us) below h = tt
open_more nodes more (member a ns) below h = λ number. h (was_number nodes more a (below a (0, omega arith, refl)) number)
open_more nodes more (negation a) below h = (
  λ number. h.0 (subst (λ o. IsSome o) (number_more nodes more a (below a (0, omega arith, refl))) number),
  λ found. h.1 (found.0, found.1, found.2, sym (get_more nodes more a (below a (0, omega arith, refl))) ∙ found.3),
)
open_more nodes more (all_of ts) below h = parts_below_more nodes more ts below h
open_more nodes more (any_of ts) below h = parts_below_more nodes more ts below h
open_more nodes more (same_truth a b) below h = two_more nodes more a b below h
open_more nodes more (all_different ts) below h = tt
open_more nodes more (counts ts ns us) below h = tt
open_more nodes more (at_least ts cs ns) below h = tt
open_more nodes more (at_most ts cs ns) below h = tt
open_more nodes more (table ts rows) below h = tt

all_open_more : (nodes more : List GroundNode) → PartsStandBefore nodes → All (IsOpen nodes) nodes → All (IsOpen (nodes ++ more)) nodes
all_open_more nodes more before h = λ k d below.
    let node = get_or nodes k d in
    open_more nodes more node (λ p found. let l = All-contains (λ q. q < k) (parts_of node) p (before k node (slice_get-get_or nodes k d below)) found in omega (arith, l, below)) (h k d below)

-- ---- nodes that are taken in

-- the reaches of one node more
reaches_push : (nodes : List GroundNode) (cells : List Cell) (node : GroundNode) → reaches_of (nodes ++ node ∷ []) cells ≡ reaches_of nodes cells ++ node_reach cells (term_reach nodes cells) node ∷ []
unfolding reaches_of term_reach
reaches_push nodes cells node = grown-append (λ (done : List Interval) (n : GroundNode). node_reach cells (reach_at done) n) [] nodes (node ∷ [])

pub taken_news : (cells : List Cell) (old new : News) (node : GroundNode) → IsNews cells old → PartsStandBefore new.arena → ((p : ℕ) → Contains (parts_of node) p → p < length old.arena) → IsSafeOver (length cells) node → IsOpen old.arena node → Interned old.arena node new.arena
    → (new.near ≡ true → intervals_of new.spans.items ≡ reaches_of new.arena cells) → (new.near ≡ true → All IsWithinReach (intervals_of new.spans.items))
    → (AreNear new → All (IsUntold cells new.arena) new.arena) → IsNews cells new
taken_news cells old new node h before below safe undecided interned reaches within untold =
    let g = goes_on old.arena new.arena node interned in
    record {
      before = before;
      safe = subst (All (IsSafeOver (length cells))) (sym g.is) (All-append (IsSafeOver (length cells)) old.arena g.more h.safe (all_more (IsSafeOver (length cells)) old.arena new.arena node g safe));
      undecided = subst (λ ns. All (IsOpen ns) ns) (sym g.is)
          (All-append (IsOpen (old.arena ++ g.more)) old.arena g.more (all_open_more old.arena g.more h.before h.undecided)
          (all_more (IsOpen (old.arena ++ g.more)) old.arena new.arena node g (open_more old.arena g.more node below undecided)));
      reaches = reaches;
      within = within;
      untold = untold;
    }

-- the reaches of new nodes after one more was noted
noted_reaches : (cells : List Cell) (old new : News) (node : GroundNode) (reach : Option Span) → IsNews cells old → new.arena ≡ old.arena ++ node ∷ [] → ((span : Span) → reach ≡ Some span → (old.near ≡ true) × (interval_of span ≡ node_reach cells (term_reach old.arena cells) node))
    → (new.near ≡ true → (span : Span) × (reach ≡ Some span) × (new.spans.items ≡ old.spans.items ++ span ∷ [])) → new.near ≡ true → intervals_of new.spans.items ≡ reaches_of new.arena cells
noted_reaches cells old new node reach h grown is noted near =
    let n = noted near in
    let k = is n.0 n.1 in
    ap intervals_of n.2 ∙ map-append interval_of old.spans.items (n.0 ∷ [])
    ∙ ap (λ is. is ++ interval_of n.0 ∷ []) (h.reaches k.0) ∙ ap (λ i. reaches_of old.arena cells ++ i ∷ []) k.1
    ∙ sym (reaches_push old.arena cells node) ∙ ap (λ ns. reaches_of ns cells) (sym grown)

pub leads_through : (nodes : List GroundNode) (s t u : ℕ) → LeadsTo nodes s t → LeadsTo nodes t u → LeadsTo nodes s u
leads_through nodes s _ u (itself _) g = g
leads_through nodes s t u (by_part _ part _ node is found rest) g = by_part s part u node is found (leads_through nodes part t u rest g)

pub below_through : (nodes : List GroundNode) (node : GroundNode) (t u : ℕ) → IsBelowPart nodes node t → LeadsTo nodes t u → IsBelowPart nodes node u
below_through nodes node t u h g = record { part = h.part; is_part = h.is_part; leads = leads_through nodes h.part t u h.leads g }

pub asks_same : (node : GroundNode) → AsksNoMore node node
asks_same node = record { coefficients = λ h. h; additions = omega arith }

pub asks_through : (a b c : GroundNode) → AsksNoMore a b → AsksNoMore b c → AsksNoMore a c
asks_through a b c h g = record { coefficients = λ all. g.coefficients (h.coefficients all); additions = omega (arith, h.additions, g.additions) }

-- a node that was taken in stands for itself
taken_settles : (cells : List Cell) (old new : News) (node : GroundNode) (term : ℕ) → IsNews cells old → ((p : ℕ) → Contains (parts_of node) p → p < length old.arena) → IsTaken cells old node new term → IsSettled cells old node new term
taken_settles cells old new node term h below t =
    let g = goes_on old.arena new.arena node t.interned in
    record {
      news = t.news;
      near = t.near;
      settles = record {
        more = g.more;
        is = g.is;
        few = g.few;
        there = slice_get_within new.arena term node t.is;
        value = λ values are.
            value_is new.arena values t.news.before term node t.is
            ∙ node_same values (term_value new.arena values) (term_value old.arena values) node
            (λ p found. ap (λ ns. term_value ns values p) g.is ∙ value_more old.arena g.more values p (below p found));
        reach = λ i n.
            subst (λ r. IsNarrower r i)
            (sym (reach_is new.arena cells t.news.before term node t.is
            ∙ reach_same cells (term_reach new.arena cells) (term_reach old.arena cells) node
            (λ p found. ap (λ ns. term_reach ns cells p) g.is ∙ reach_more old.arena g.more cells p (below p found)))) n;
        below = under g;
      };
    }
  where
    own : AsksNoMore node (slice_index_or new.arena term undefined)
    own = subst (AsksNoMore node) (sym (get_or_from_slice_get new.arena term node undefined t.is)) (asks_same node)

    under : GoesOn old.arena new.arena node → (u : ℕ) → LeadsTo new.arena term u → ((u ≡ term) × AsksNoMore node (slice_index_or new.arena term undefined)) ⊎ IsBelowPart old.arena node u
    under g _ (itself _) = inl (refl, own)
    under g u (by_part _ part _ other at found rest) =
        let same : other ≡ node = same_Some other node (sym at ∙ t.is) in
        let is_part = subst (λ n. Contains (parts_of n) part) same found in
        inr (record {
          part = part;
          is_part = is_part;
          leads = (leads_more old.arena g.more h.before part u (below part is_part) (subst (λ ns. LeadsTo ns part u) g.is rest)).0;
        })

-- what stands for a node stands for each that the node replaces
pub settled_as : (cells : List Cell) (old new : News) (node other : GroundNode) (term : ℕ) → Replaces cells old.arena node other → IsSettled cells old other new term → IsSettled cells old node new term
settled_as cells old new node other term r s = record {
  news = s.news;
  near = λ were own. s.near were (near_replaced cells old.arena node other r own);
  settles = record {
    more = s.settles.more;
    is = s.settles.is;
    few = s.settles.few;
    there = s.settles.there;
    value = λ values are. s.settles.value values are ∙ r.value values are;
    reach = λ i n. s.settles.reach i (r.reach i n);
    below = λ u leads. elim (s.settles.below u leads) as (λ _. ((u ≡ term) × AsksNoMore node (slice_index_or new.arena term undefined)) ⊎ IsBelowPart old.arena node u) [
      | inl h ↦ inl (h.0, asks_through node other (slice_index_or new.arena term undefined) r.asks h.1)
      | inr h ↦ inr (below_through old.arena node h.part u (r.parts h.part h.is_part) h.leads)
    ];
  };
}

-- what stood below a part stands for the node where it has its value and reaches no farther
pub part_settles : (cells : List Cell) (old : News) (node : GroundNode) (p : ℕ) → IsNews cells old → p < length old.arena → IsBelowPart old.arena node p
    → ((values : List ℤ) → AreCellValues cells values → term_value old.arena values p ≡ node_value values (term_value old.arena values) node)
    → ((i : Interval) → IsNarrower (node_reach cells (term_reach old.arena cells) node) i → IsNarrower (term_reach old.arena cells p) i)
    → IsSettled cells old node old p
part_settles cells old node p h there below value reach = record {
  news = h;
  near = λ were own. were;
  settles = record {
    more = [];
    is = none_more old.arena;
    few = omega arith;
    there = there;
    value = value;
    reach = reach;
    below = λ u leads. inr (below_through old.arena node p u below leads);
  };
}

-- a number stands for a node that always has it as its value
pub replaced_by_number : (cells : List Cell) (nodes : List GroundNode) (node : GroundNode) (n : ℤ) → ((values : List ℤ) → AreCellValues cells values → node_value values (term_value nodes values) node ≡ Some n)
    → ((i : Interval) → IsNarrower (node_reach cells (term_reach nodes cells) node) i → LiesIn n i) → Replaces cells nodes node (constant n)
unfolding node_value node_reach parts_of coefficients_of additions_in
replaced_by_number cells nodes node n value reach = record {
  value = λ values are. sym (value values are);
  reach = λ i h. record { low = reach i h; high = reach i h };
  parts = λ p found. none_there p found;
  asks = record { coefficients = λ h. All-nil IsWithinNumbers; additions = omega arith };
}

-- a truth value is in each interval that has both
pub truth_in : (b : Bool) (i : Interval) → IsNarrower truth_interval i → LiesIn (of_bool b) i
unfolding of_bool
truth_in true i h = h.high
truth_in false i h = h.low

-- a number settles a node that it replaces
pub number_settles : (cells : List Cell) (old new : News) (node : GroundNode) (n : ℤ) (term : ℕ) → IsNews cells old → Replaces cells old.arena node (constant n) → IsTaken cells old (constant n) new term → IsSettled cells old node new term
unfolding parts_of
number_settles cells old new node n term h r t = settled_as cells old new node (constant n) term r (taken_settles cells old new (constant n) term h (λ p found. none_there p found) t)

-- the truth that a node always says settles it
pub truth_settles : (cells : List Cell) (old new : News) (node : GroundNode) (known : Bool) (term : ℕ) → IsNews cells old → node_reach cells (term_reach old.arena cells) node ≡ truth_interval → AlwaysSays cells old.arena node known → IsTaken cells old (constant (of_bool known)) new term → IsSettled cells old node new term
truth_settles cells old new node known term h reach says t =
    number_settles cells old new node (of_bool known) term h (replaced_by_number cells old.arena node (of_bool known) says (λ i n. truth_in known i (subst (λ r. IsNarrower r i) reach n))) t

-- a part that is a truth value settles a truth value
pub truth_part : (cells : List Cell) (old : News) (node : GroundNode) (p : ℕ) → IsNews cells old → p < length old.arena → IsBelowPart old.arena node p → node_reach cells (term_reach old.arena cells) node ≡ truth_interval → IsNarrower (term_reach old.arena cells p) truth_interval
    → ((values : List ℤ) → AreCellValues cells values → term_value old.arena values p ≡ node_value values (term_value old.arena values) node) → IsSettled cells old node old p
truth_part cells old node p h there below reach narrow value =
    part_settles cells old node p h there below value (λ i n. narrower_still (term_reach old.arena cells p) truth_interval i narrow (subst (λ r. IsNarrower r i) reach n))

-- ---- reaches that are known

pub known_reach : (cells : List Cell) (news : News) → IsNews cells news → news.near ≡ true → (node : GroundNode) → node_reach cells (reach_at (intervals_of news.spans.items)) node ≡ node_reach cells (term_reach news.arena cells) node
unfolding term_reach reaches_of
known_reach cells news h near node = ap (λ is. node_reach cells (reach_at is) node) (h.reaches near)

pub known_span : (cells : List Cell) (news : News) → IsNews cells news → news.near ≡ true → (t : ℕ) (span : Span) → t < length news.spans.items → span ≡ slice_index_or news.spans.items t span → interval_of span ≡ term_reach news.arena cells t
unfolding term_reach reaches_of reach_at
known_span cells news h near t span below at =
    at_map interval_of news.spans.items t span span (only (pos 0)) below at ∙ ap (λ is. slice_index_or is t (only (pos 0))) (h.reaches near)

-- ---- what take gives

-- an arena that is as long as before is as before
pub same_arena : (old new : List GroundNode) (node : GroundNode) → Interned old node new → length new ≡ length old → new ≡ old
same_arena old new node (inl h) long = h.1
same_arena old new node (inr h) long = absurd (omega (arith, long, ap length h.1, length-append old (node ∷ [])))

-- an arena that isn't has the node at its end
pub grown_arena : (old new : List GroundNode) (node : GroundNode) → Interned old node new → (length new ≡ length old → ⊥) → new ≡ old ++ node ∷ []
grown_arena old new node (inl h) long = absurd (long (ap length h.1))
grown_arena old new node (inr h) long = h.1

-- where a node's reach was told
record IsReachOf (cells : List Cell) (old : News) (node : GroundNode) (span : Span) : Type 0 where
  near : old.near ≡ true
  is : interval_of span ≡ node_reach cells (term_reach old.arena cells) node
  within : IsWithinReach (interval_of span)
  coefficients : All IsWithinNumbers (coefficients_of node)

pub taken_same : (cells : List Cell) (old new : News) (node : GroundNode) (term : ℕ) → IsNews cells old → PartsStandBefore new.arena → All (λ p. p < length old.arena) (parts_of node) → IsSafeOver (length cells) node → IsOpen old.arena node
    → IsNodeAt new.arena term node → Interned old.arena node new.arena → length new.arena ≡ length old.arena → new.spans.items ≡ old.spans.items → new.near ≡ old.near → IsTaken cells old node new term
taken_same cells old new node term h before below safe undecided is interned long spans near =
    let same = same_arena old.arena new.arena node interned long in
    record {
      is = is;
      interned = interned;
      news = taken_news cells old new node h before (λ p found. All-contains (λ q. q < length old.arena) (parts_of node) p below found) safe undecided interned
          (λ now. ap intervals_of spans ∙ h.reaches (sym near ∙ now) ∙ ap (λ ns. reaches_of ns cells) (sym same))
          (λ now. subst (All IsWithinReach) (sym (ap intervals_of spans)) (h.within (sym near ∙ now)))
          (λ now. subst (λ ns. All (IsUntold cells ns) ns) (sym same) (h.untold (record { near = sym near ∙ now.near; few = subst (All HasFewParts) same now.few })));
      near = λ were own. record { near = near ∙ were.near; few = subst (All HasFewParts) (sym same) were.few };
    }

taken_grown : (cells : List Cell) (old new : News) (node : GroundNode) (term : ℕ) (reach : Option Span) → IsNews cells old → PartsStandBefore new.arena → All (λ p. p < length old.arena) (parts_of node) → IsSafeOver (length cells) node → IsOpen old.arena node
    → (AreNear old → IsNearOver cells old.arena node → IsUntold cells old.arena node) → IsNodeAt new.arena term node → Interned old.arena node new.arena → (length new.arena ≡ length old.arena → ⊥)
    → ((span : Span) → reach ≡ Some span → IsReachOf cells old node span) → (AreNear old → IsNearOver cells old.arena node → IsSome reach)
    → (new.near ≡ true → (span : Span) × (reach ≡ Some span) × (new.spans.items ≡ old.spans.items ++ span ∷ [])) → (old.near ≡ true → IsSome reach → new.near ≡ true) → IsTaken cells old node new term
taken_grown cells old new node term reach h before below safe undecided untold is interned long tells told noted stays = record {
  is = is;
  interned = interned;
  news = taken_news cells old new node h before each safe undecided interned
      (noted_reaches cells old new node reach h grown (λ span e. let k = tells span e in (k.near, k.is)) noted)
      (λ now.
      let n = noted now in
      let k = tells n.0 n.1 in
      subst (All IsWithinReach) (sym (pushed_intervals old.spans.items new.spans.items n.0 n.2)) (All-push IsWithinReach (intervals_of old.spans.items) (interval_of n.0) (h.within k.near) k.within))
      (λ now.
      let n = noted now.near in
      let k = tells n.0 n.1 in
      let all = subst (All HasFewParts) grown now.few in
      let were : AreNear old = record { near = k.near; few = all_first HasFewParts old.arena (node ∷ []) all } in
      let own : IsNearOver cells old.arena node = record { reach = subst IsWithinReach k.is k.within; coefficients = k.coefficients; few = All-head HasFewParts node [] (all_second HasFewParts old.arena (node ∷ []) all) } in
      subst (λ ns. All (IsUntold cells ns) ns) (sym grown)
      (All-push (IsUntold cells (old.arena ++ node ∷ [])) old.arena node (all_untold_more cells old.arena (node ∷ []) h.before (h.untold were)) (untold_more cells old.arena (node ∷ []) node h.before each (untold were own))));
  near = λ were own. record { near = stays were.near (told were own); few = subst (All HasFewParts) (sym grown) (All-push HasFewParts old.arena node were.few own.few) };
}
  where
    grown : new.arena ≡ old.arena ++ node ∷ []
    grown = grown_arena old.arena new.arena node interned long

    each : (p : ℕ) → Contains (parts_of node) p → p < length old.arena
    each p found = All-contains (λ q. q < length old.arena) (parts_of node) p below found

-- a node that was taken in over terms that are there settles itself
pub own_settles : (cells : List Cell) (old new : News) (node : GroundNode) (term : ℕ) → IsNews cells old → All (λ p. p < length old.arena) (parts_of node) → IsTaken cells old node new term → IsSettled cells old node new term
own_settles cells old new node term h below t = taken_settles cells old new node term h (λ p found. All-contains (λ q. q < length old.arena) (parts_of node) p below found) t

-- a part of a node
pub is_part : (nodes : List GroundNode) (node : GroundNode) (p : ℕ) → Contains (parts_of node) p → IsBelowPart nodes node p
is_part nodes node p found = record { part = p; is_part = found; leads = itself p }

-- nodes that ask for no sum
pub asks_nothing : (node other : GroundNode) → coefficients_of other ≡ [] → additions_in (Some other) ≡ 0 → AsksNoMore node other
asks_nothing node other none few = record {
  coefficients = λ h. subst (All IsWithinNumbers) (sym none) (All-nil IsWithinNumbers);
  additions = omega (arith, few);
}

-- the same where the reach is noted afterwards
pub taken_noted : (cells : List Cell) (old mid new : News) (node : GroundNode) (term : ℕ) (reach : Option Span) → IsNews cells old → PartsStandBefore mid.arena → All (λ p. p < length old.arena) (parts_of node) → IsSafeOver (length cells) node → IsOpen old.arena node
    → (AreNear old → IsNearOver cells old.arena node → IsUntold cells old.arena node) → IsNodeAt mid.arena term node → Interned old.arena node mid.arena → (length mid.arena ≡ length old.arena → ⊥) → mid.spans.items ≡ old.spans.items → mid.near ≡ old.near
    → IfSome reach (λ span. old.near ≡ true) → IfSome reach (λ span. IsNews cells old → interval_of span ≡ node_reach cells (term_reach old.arena cells) node)
    → IfSome reach (λ span. IsWithinReach (interval_of span)) → IfSome reach (λ span. All IsWithinNumbers (coefficients_of node)) → (IsNews cells old → AreNear old → IsNearOver cells old.arena node → IsSome reach)
    → IsNoted reach mid new → IsTaken cells old node new term
taken_noted cells old mid new node term reach h before below safe undecided untold is interned long spans same near tells within coefficients told noted =
    taken_grown cells old new node term reach h (subst PartsStandBefore (sym noted.arena) before) below safe undecided untold
    (subst (λ ns. IsNodeAt ns term node) (sym noted.arena) is) (subst (Interned old.arena node) (sym noted.arena) interned)
    (λ e. long (sym (ap length noted.arena) ∙ e))
    (λ span e. record {
      near = subst (λ o. IfSome o (λ one. old.near ≡ true)) e near;
      is = subst (λ o. IfSome o (λ one. IsNews cells old → interval_of one ≡ node_reach cells (term_reach old.arena cells) node)) e tells h;
      within = subst (λ o. IfSome o (λ one. IsWithinReach (interval_of one))) e within;
      coefficients = subst (λ o. IfSome o (λ one. All IsWithinNumbers (coefficients_of node))) e coefficients;
    })
    (told h)
    (λ now. let k = noted.span now in (k.0, k.1, k.2 ∙ ap (λ ss. ss ++ k.0 ∷ []) spans))
    (λ was some. noted.near (same ∙ was) some)
