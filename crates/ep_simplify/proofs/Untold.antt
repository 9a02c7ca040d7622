-- What how far terms reach tells nothing about stays so among more nodes, and which nodes stay near.
use Rattle.std.proofs.Common.{◌≡◌, ℕ, zero, suc, ◌+◌, ◌-◌, ◌<◌, ◌≤◌, Bool, true, false, not, ℤ, pos, List, [], ◌++◌, length, Option, Some, None, refl, sym, ap, subst, ◌∙◌, arith, slice_get}
use Rattle.std.specs.Prelude.{IsSome, get_or, neg_ℤ, option_and_then, slice_index_or}
use Rattle.std.specs.List.{All, Contains}
use Rattle.std.proofs.lemmas.List.{length-map}
use Rattle.std.proofs.lemmas.List.Elements.{All-contains, All-head}
use Rattle.std.proofs.lemmas.Option.{slice_get-get_or}
use Rattle.ep_base.specs.Intervals.{Interval, IsWithinReach, from_to, only}
use Rattle.ep_base.proofs.Contraries.{contrary_holds}
use Rattle.ep_base.specs.Numbers.{compare_holds, contrary_comparison}
use Rattle.ep_base.specs.declared.operators.CompareOp.{CompareOp}
use Rattle.ep_defined.proofs.Reaches.{get_more}
use Rattle.ep_ground.proofs.Grown.{grown-length}
use Rattle.ep_ground.proofs.SameParts.{reach_same}
use Rattle.ep_ground.proofs.TermLaws.{reach_is, reach_more}
use Rattle.ep_ground.specs.Bounds.{node_reach, reach_at, term_reach}
use Rattle.ep_ground.specs.Grounds.{additions_in}
use Rattle.ep_ground.specs.Nodes.{GroundNode, constant, undefined, sum, compare, member, negation, all_of, any_of, same_truth, coefficients_of, parts_of}
use Rattle.ep_ground.specs.Terms.{PartsStandBefore}
use Rattle.ep_ground.specs.declared.cells.Cell.{Cell}
use Rattle.ep_reach.proofs.Narrower.{node_narrower}
use Rattle.ep_numbers.specs.Spans.{interval_of, intervals_of}
use Rattle.ep_reach.proofs.Nodes.{all_at}
use Rattle.ep_reach.proofs.Reaching.{map_long}
use Rattle.ep_reach.specs.Narrowing.{IsNarrower}
use Rattle.ep_reach.specs.Reaching.{HasFewParts, IsToldAt}
use Rattle.ep_simplify.specs.Decided.{Decides, DecidesMember, IsNotEmpty, IsNumber, IsOfTruths, IsUntoldBy, constant_of, lone_number}
use Rattle.ep_simplify.specs.Settling.{AreNear, AsksNoMore, IsNearOver, IsNews, IsUntold, Replaces, reaches_of}
use Rattle.ep_simplify.specs.declared.news.News.{News}

-- ---- each term reaches a number

narrow_itself : (nodes : List GroundNode) (cells : List Cell) → PartsStandBefore nodes → (k t : ℕ) → t < k → t < length nodes → IsNarrower (term_reach nodes cells t) (term_reach nodes cells t)
narrow_itself nodes cells before zero t low below = absurd (omega (arith, low))
narrow_itself nodes cells before (suc k) t low below =
    let node = slice_index_or nodes t undefined in
    let at : slice_get nodes t ≡ Some node = slice_get-get_or nodes t undefined below in
    subst (λ i. IsNarrower i i) (sym (reach_is nodes cells before t node at))
    (node_narrower cells (term_reach nodes cells) (term_reach nodes cells) node
    (λ p found. let l = All-contains (λ q. q < t) (parts_of node) p (before t node at) found in narrow_itself nodes cells before k p (omega (arith, l, low)) (omega (arith, l, below))))

pub filled_at : (cells : List Cell) (news : News) → IsNews cells news → (t : ℕ) → t < length news.arena → IsNotEmpty (term_reach news.arena cells t)
filled_at cells news h t below = (narrow_itself news.arena cells h.before (suc t) t (omega arith) below).low.1

-- ---- more nodes

-- the number that a term is alone stays
pub number_more : (nodes more : List GroundNode) (t : ℕ) → t < length nodes → lone_number (nodes ++ more) t ≡ lone_number nodes t
unfolding lone_number
number_more nodes more t below = ap (λ o. option_and_then constant_of o) (get_more nodes more t below)

pub was_number : (nodes more : List GroundNode) (t : ℕ) → t < length nodes → IsNumber (nodes ++ more) t → IsNumber nodes t
was_number nodes more t below h = subst (λ o. IsSome o) (number_more nodes more t below) h

untold_by_more : (cells : List Cell) (nodes more : List GroundNode) (node : GroundNode) → PartsStandBefore nodes → ((p : ℕ) → Contains (parts_of node) p → p < length nodes) → IsUntoldBy nodes (term_reach nodes cells) node
    → IsUntoldBy (nodes ++ more) (term_reach (nodes ++ more) cells) node
unfolding IsUntoldBy parts_of
untold_by_more cells nodes more (compare op a b) before below h = λ known d.
    h known
    (subst (λ i. Decides op i (term_reach nodes cells b) known) (reach_more nodes more cells a (below a (0, omega arith, refl)))
    (subst (λ j. Decides op (term_reach (nodes ++ more) cells a) j known) (reach_more nodes more cells b (below b (1, omega arith, refl))) d))
untold_by_more cells nodes more (member a ns) before below h = λ known d.
    h known (subst (λ i. DecidesMember i ns known) (reach_more nodes more cells a (below a (0, omega arith, refl))) d)
untold_by_more cells nodes more (negation a) before below h = λ x at truths.
    let low : a < length nodes = below a (0, omega arith, refl) in
    let was : slice_get nodes a ≡ Some (negation x) = sym (get_more nodes more a low) ∙ at in
    let less : x < a = All-head (λ p. p < a) x [] (before a (negation x) was) in
    h x was (subst IsOfTruths (reach_more nodes more cells x (omega (arith, less, low))) truths)
untold_by_more cells nodes more (all_of ts) before below h = λ t one truths.
    h t one (subst IsOfTruths (reach_more nodes more cells t (below t (subst (λ us. Contains us t) (sym one) (0, omega arith, refl)))) truths)
untold_by_more cells nodes more (any_of ts) before below h = λ t one truths.
    h t one (subst IsOfTruths (reach_more nodes more cells t (below t (subst (λ us. Contains us t) (sym one) (0, omega arith, refl)))) truths)
untold_by_more cells nodes more (same_truth a b) before below h =
    let la : a < length nodes = below a (0, omega arith, refl) in
    let lb : b < length nodes = below b (1, omega arith, refl) in (
      λ number truths. h.0 (was_number nodes more a la number) (subst IsOfTruths (reach_more nodes more cells b lb) truths),
      λ number truths. h.1 (was_number nodes more b lb number) (subst IsOfTruths (reach_more nodes more cells a la) truths),
    )
untold_by_more cells nodes more node before below h = tt

pub untold_more : (cells : List Cell) (nodes more : List GroundNode) (node : GroundNode) → PartsStandBefore nodes → ((p : ℕ) → Contains (parts_of node) p → p < length nodes) → IsUntold cells nodes node → IsUntold cells (nodes ++ more) node
untold_more cells nodes more node before below h = record {
  untold = untold_by_more cells nodes more node before below h.untold;
  folded = λ n e. h.folded n
      (sym (reach_same cells (term_reach (nodes ++ more) cells) (term_reach nodes cells) node (λ p found. reach_more nodes more cells p (below p found))) ∙ e);
}

pub all_untold_more : (cells : List Cell) (nodes more : List GroundNode) → PartsStandBefore nodes → All (IsUntold cells nodes) nodes → All (IsUntold cells (nodes ++ more)) nodes
all_untold_more cells nodes more before h = λ k d below.
    let node = get_or nodes k d in
    untold_more cells nodes more node before (λ p found. let l = All-contains (λ q. q < k) (parts_of node) p (before k node (slice_get-get_or nodes k d below)) found in omega (arith, l, below)) (h k d below)

-- ---- nodes that stay near

-- how many parts a sum has
parts_less : (node : GroundNode) → length (coefficients_of node) ≤ additions_in (Some node) + 1
unfolding coefficients_of additions_in
parts_less (sum c parts) = omega (arith, length-map parts (λ (p : ℤ × ℕ). p.0))
parts_less node = omega arith

parts_more : (node : GroundNode) → additions_in (Some node) ≤ length (coefficients_of node) - 1
unfolding coefficients_of additions_in
parts_more (sum c parts) = omega (arith, length-map parts (λ (p : ℤ × ℕ). p.0))
parts_more node = omega arith

pub few_asked : (node other : GroundNode) → AsksNoMore node other → HasFewParts node → HasFewParts other
few_asked node other asks few =
    let one = parts_less other in
    let two = parts_more node in
    let more = asks.additions in
    let long : length (coefficients_of node) ≤ 4294967296 = few in
    omega (arith, one, two, more, long)

-- what stands for a node is near where that is
pub near_replaced : (cells : List Cell) (nodes : List GroundNode) (node other : GroundNode) → Replaces cells nodes node other → IsNearOver cells nodes node → IsNearOver cells nodes other
near_replaced cells nodes node other r h =
    let most : Interval = from_to (neg_ℤ (pos 1099511627776)) (pos 1099511627776) in
    let less = r.reach most (record { low = h.reach.low; high = h.reach.high }) in
    record {
      reach = record { low = less.low; high = less.high };
      coefficients = r.asks.coefficients h.coefficients;
      few = few_asked node other r.asks h.few;
    }

-- a node that reaches 0 and 1 doesn't reach one number alone
zero_one : (n : ℤ) → pos 0 ≡ n → pos 1 ≡ n → ⊥
zero_one n e d = zero_not_one (e ∙ sym d)
  where
    zero_not_one : pos 0 ≡ pos 1 → ⊥
    zero_not_one f = cc

pub no_truth : (n : ℤ) → from_to (pos 0) (pos 1) ≡ only n → ⊥
no_truth n e = zero_one n (ap (λ i. i.low) e) (ap (λ i. i.high) e)

-- a number alone is told by nothing else
pub number_untold : (cells : List Cell) (nodes : List GroundNode) (n : ℤ) → IsUntold cells nodes (constant n)
unfolding IsUntoldBy node_reach
number_untold cells nodes n = record { untold = tt; folded = λ m e. ap constant (ap (λ (i : Interval). i.low) e) }

-- a comparison that stays is told by nothing
pub comparison_untold : (cells : List Cell) (nodes : List GroundNode) (op : CompareOp) (a b : ℕ) → ((known : Bool) → Decides op (term_reach nodes cells a) (term_reach nodes cells b) known → ⊥) → IsUntold cells nodes (compare op a b)
unfolding IsUntoldBy node_reach
comparison_untold cells nodes op a b h = record { untold = h; folded = λ n e. absurd (no_truth n e) }

pub membership_untold : (cells : List Cell) (nodes : List GroundNode) (a : ℕ) (ns : List ℤ) → ((known : Bool) → DecidesMember (term_reach nodes cells a) ns known → ⊥) → IsUntold cells nodes (member a ns)
unfolding IsUntoldBy node_reach
membership_untold cells nodes a ns h = record { untold = h; folded = λ n e. absurd (no_truth n e) }

pub negation_untold : (cells : List Cell) (nodes : List GroundNode) (a : ℕ) → ((x : ℕ) → slice_get nodes a ≡ Some (negation x) → IsOfTruths (term_reach nodes cells x) → ⊥) → IsUntold cells nodes (negation a)
unfolding IsUntoldBy node_reach
negation_untold cells nodes a h = record { untold = h; folded = λ n e. absurd (no_truth n e) }

pub some_is : (o : Option ℤ) (n : ℤ) → o ≡ Some n → IsSome o
some_is None n e = absurd cc
some_is (Some m) n e = refl

-- the contrary of a comparison that is told by nothing is told by nothing
contrary_decides : (op other : CompareOp) (i j : Interval) (known : Bool) → other ≡ contrary_comparison op → Decides other i j known → Decides op i j (not known)
contrary_decides op other i j known is d m n l k =
    turned (compare_holds op m n) known (sym (contrary_holds op m n) ∙ ap (λ o. compare_holds o m n) (sym is) ∙ d m n l k)
  where
    turned : (b c : Bool) → not b ≡ c → b ≡ not c
    turned true true e = absurd cc
    turned true false e = refl
    turned false true e = refl
    turned false false e = absurd cc

pub contrary_untold : (cells : List Cell) (news : News) (op other : CompareOp) (a x y : ℕ) → IsNews cells news → slice_get news.arena a ≡ Some (compare op x y) → other ≡ contrary_comparison op → AreNear news → IsUntold cells news.arena (compare other x y)
unfolding IsUntoldBy
contrary_untold cells news op other a x y h at is were =
    let was = all_at (IsUntold cells news.arena) news.arena a (compare op x y) at (h.untold were) in
    let closed : (known : Bool) → Decides op (term_reach news.arena cells x) (term_reach news.arena cells y) known → ⊥ = was.untold in
    comparison_untold cells news.arena other x y (λ known d. closed (not known) (contrary_decides op other (term_reach news.arena cells x) (term_reach news.arena cells y) known is d))

pub none_isnt : {A : Type 0} (o : Option A) → o ≡ None → IsSome o → ⊥
none_isnt None e h = absurd cc
none_isnt (Some a) e h = absurd cc

-- ---- reaches that are told

pub long_spans : (cells : List Cell) (news : News) → IsNews cells news → news.near ≡ true → length news.spans.items ≡ length news.arena
unfolding reaches_of
long_spans cells news h near =
    sym (map_long interval_of news.spans.items) ∙ ap length (h.reaches near)
    ∙ grown-length (λ (done : List Interval) (n : GroundNode). node_reach cells (reach_at done) n) [] news.arena ∙ none_more (length news.arena)
  where
    none_more : (k : ℕ) → 0 + k ≡ k
    none_more k = omega arith

pub told_over : (cells : List Cell) (news : News) (node : GroundNode) → IsNews cells news → AreNear news → IsNearOver cells news.arena node → IsToldAt cells (intervals_of news.spans.items) node
unfolding term_reach reaches_of
told_over cells news node h were own = record {
  before = h.within were.near;
  reach = subst IsWithinReach (sym (ap (λ is. node_reach cells (reach_at is) node) (h.reaches were.near))) own.reach;
  coefficients = own.coefficients;
  few = own.few;
}

-- what intervals leave open the reaches that they are do
pub spans_open : (cells : List Cell) (news : News) (op : CompareOp) (a b : ℕ) (i j : Interval) → IsNews cells news → i ≡ term_reach news.arena cells a → j ≡ term_reach news.arena cells b → a < length news.arena → b < length news.arena
    → (IsNotEmpty i → IsNotEmpty j → (known : Bool) → Decides op i j known → ⊥) → (known : Bool) → Decides op (term_reach news.arena cells a) (term_reach news.arena cells b) known → ⊥
spans_open cells news op a b i j h one other la lb undecided known d =
    undecided (subst IsNotEmpty (sym one) (filled_at cells news h a la)) (subst IsNotEmpty (sym other) (filled_at cells news h b lb)) known
    (subst (λ k. Decides op k j known) (sym one) (subst (λ k. Decides op (term_reach news.arena cells a) k known) (sym other) d))

pub span_open : (cells : List Cell) (news : News) (a : ℕ) (ns : List ℤ) (i : Interval) → IsNews cells news → i ≡ term_reach news.arena cells a → a < length news.arena → (IsNotEmpty i → (known : Bool) → DecidesMember i ns known → ⊥)
    → (known : Bool) → DecidesMember (term_reach news.arena cells a) ns known → ⊥
span_open cells news a ns i h one la undecided known d = undecided (subst IsNotEmpty (sym one) (filled_at cells news h a la)) known (subst (λ k. DecidesMember k ns known) (sym one) d)

-- an interval of one number ends where it begins
pub only_ends : (i : Interval) (n : ℤ) → i ≡ only n → i.low ≡ i.high
only_ends i n e = ap (λ j. j.low) e ∙ sym (ap (λ j. j.high) e)
