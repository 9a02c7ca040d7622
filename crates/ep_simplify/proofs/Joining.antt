-- What stands for "and", "or" and "if and only if".
use Rattle.std.proofs.Common.{◌≡◌, ◌≢◌, ◌+◌, cond, not, ℕ, ◌<◌, ◌≤◌, inl, inr, Bool, true, false, ℤ, List, [], ◌∷◌, ◌++◌, length, Option, Some, None, refl, sym, ap, subst, take, ◌∙◌, arith}
use Rattle.std.specs.Prelude.{IsSome, filter, get_or, is_some}
use Rattle.std.specs.List.{All, Any, Contains}
use Rattle.std.proofs.lemmas.List.{take_more}
use Rattle.std.proofs.lemmas.List.Elements.{All-cons, All-contains, All-head, All-nil, All-tail, Contains-get_or, filter-append}
use Rattle.ep_base.specs.Intervals.{truth_interval}
use Rattle.ep_base.specs.Numbers.{is_one, of_bool}
use Rattle.ep_base.specs.Reads.{same_bool}
use Rattle.ep_defined.proofs.Parts.{none_there, of_cons}
use Rattle.ep_ground.specs.Bounds.{node_reach, term_reach}
use Rattle.ep_ground.specs.Grounds.{additions_in}
use Rattle.ep_ground.specs.Nodes.{GroundNode, constant, negation, all_of, any_of, same_truth, coefficients_of, parts_of}
use Rattle.ep_ground.specs.declared.cells.Cell.{Cell}
use Rattle.ep_reach.specs.Narrowing.{IsNarrower}
use Rattle.ep_simplify.proofs.Forms.{and_false_says, and_none_says, and_one_value, beside_false, beside_true, numbers_of, or_none_says, or_one_value, or_true_says, rest_and_value, rest_in, rest_or_value}
use Rattle.ep_simplify.proofs.Taking.{asks_nothing, is_part, own_settles, settled_as, truth_part, truth_settles}
use Rattle.ep_simplify.proofs.Untold.{no_truth, some_is}
use Rattle.ep_simplify.specs.Decided.{IsNumber, IsOfTruths, IsUntoldBy, lone_number}
use Rattle.ep_simplify.specs.declared.settling.Left.{Left}
use Rattle.ep_simplify.specs.declared.settling.Left.TheVariants as left
use Rattle.ep_simplify.specs.Settling.{AreNear, IsBeside, IsWhatIsLeft, IsNews, IsSettled, IsTaken, IsTruthNumber, IsUntold, Replaces, open_parts}
use Rattle.ep_simplify.specs.declared.news.News.{News}

-- what is left stands among the terms
pub rest_below : (nodes : List GroundNode) (ts : List ℕ) → All (λ p. p < length nodes) ts → All (λ p. p < length nodes) (open_parts nodes ts)
rest_below nodes ts below = λ k d l.
    let p = get_or (open_parts nodes ts) k d in
    All-contains (λ q. q < length nodes) ts p below (rest_in nodes ts p (Contains-get_or (open_parts nodes ts) k d l)).0

-- and none of it is a number
pub rest_open : (nodes : List GroundNode) (ts : List ℕ) → All (λ t. IsNumber nodes t → ⊥) (open_parts nodes ts)
rest_open nodes ts = λ k d l number.
    let p = get_or (open_parts nodes ts) k d in
    none_some (lone_number nodes p) (rest_in nodes ts p (Contains-get_or (open_parts nodes ts) k d l)).1 number
  where
    none_some : (o : Option ℤ) → o ≡ None → IsSome o → ⊥
    none_some None e h = absurd cc
    none_some (Some n) e h = absurd cc

-- ---- "and"

pub and_replaced : (cells : List Cell) (news : News) (ts : List ℕ) → IsNews cells news → All (λ p. p < length news.arena) ts → All (λ t. IsTruthNumber news.arena false t → ⊥) ts → Replaces cells news.arena (all_of ts) (all_of (open_parts news.arena ts))
unfolding node_reach parts_of coefficients_of additions_in
and_replaced cells news ts h below none = record {
  value = λ values are. rest_and_value cells news values (numbers_of cells news values h are) ts below (rest_below news.arena ts below) none;
  reach = λ i n. n;
  parts = λ p found. is_part news.arena (all_of ts) p (rest_in news.arena ts p found).0;
  asks = asks_nothing (all_of ts) (all_of (open_parts news.arena ts)) refl refl;
}

pub and_of_left : (cells : List Cell) (old new : News) (ts rest : List ℕ) (term : ℕ) → IsNews cells old → All (λ p. p < length old.arena) ts → All (λ t. IsTruthNumber old.arena false t → ⊥) ts → rest ≡ open_parts old.arena ts → IsTaken cells old (all_of rest) new term → IsSettled cells old (all_of ts) new term
unfolding parts_of
and_of_left cells old new ts rest term h below none same t =
    settled_as cells old new (all_of ts) (all_of (open_parts old.arena ts)) term (and_replaced cells old ts h below none)
    (own_settles cells old new (all_of (open_parts old.arena ts)) term h (rest_below old.arena ts below) (subst (λ us. IsTaken cells old (all_of us) new term) same t))

pub and_of_false : (cells : List Cell) (old new : News) (ts : List ℕ) (term : ℕ) → IsNews cells old → All (λ p. p < length old.arena) ts → Any (IsTruthNumber old.arena false) ts → IsTaken cells old (constant (of_bool false)) new term → IsSettled cells old (all_of ts) new term
unfolding node_reach
and_of_false cells old new ts term h below found t = truth_settles cells old new (all_of ts) false term h refl (and_false_says cells old ts h below found) t

pub and_of_none : (cells : List Cell) (old new : News) (ts rest : List ℕ) (term : ℕ) → IsNews cells old → All (λ p. p < length old.arena) ts → All (λ t. IsTruthNumber old.arena false t → ⊥) ts → rest ≡ open_parts old.arena ts → rest ≡ [] → IsTaken cells old (constant (of_bool true)) new term → IsSettled cells old (all_of ts) new term
unfolding node_reach
and_of_none cells old new ts rest term h below none same empty t = truth_settles cells old new (all_of ts) true term h refl (and_none_says cells old ts h below none (sym same ∙ empty)) t

pub and_of_one : (cells : List Cell) (old : News) (ts rest : List ℕ) (part : ℕ) → IsNews cells old → All (λ p. p < length old.arena) ts → All (λ t. IsTruthNumber old.arena false t → ⊥) ts → rest ≡ open_parts old.arena ts → (rest ≡ part ∷ []) × IsNarrower (term_reach old.arena cells part) truth_interval → IsSettled cells old (all_of ts) old part
unfolding node_reach parts_of
and_of_one cells old ts rest part h below none same one =
    let is = sym same ∙ one.0 in
    let low : part < length old.arena = All-head (λ p. p < length old.arena) part [] (subst (All (λ p. p < length old.arena)) is (rest_below old.arena ts below)) in
    truth_part cells old (all_of ts) part h low (is_part old.arena (all_of ts) part (rest_in old.arena ts part (subst (λ us. Contains us part) (sym is) (0, omega arith, refl))).0) refl one.1
    (and_one_value cells old ts part h below none is low one.1)

-- ---- "or"

pub or_replaced : (cells : List Cell) (news : News) (ts : List ℕ) → IsNews cells news → All (λ p. p < length news.arena) ts → All (λ t. IsTruthNumber news.arena true t → ⊥) ts → Replaces cells news.arena (any_of ts) (any_of (open_parts news.arena ts))
unfolding node_reach parts_of coefficients_of additions_in
or_replaced cells news ts h below none = record {
  value = λ values are. rest_or_value cells news values (numbers_of cells news values h are) ts below (rest_below news.arena ts below) none;
  reach = λ i n. n;
  parts = λ p found. is_part news.arena (any_of ts) p (rest_in news.arena ts p found).0;
  asks = asks_nothing (any_of ts) (any_of (open_parts news.arena ts)) refl refl;
}

pub or_of_left : (cells : List Cell) (old new : News) (ts rest : List ℕ) (term : ℕ) → IsNews cells old → All (λ p. p < length old.arena) ts → All (λ t. IsTruthNumber old.arena true t → ⊥) ts → rest ≡ open_parts old.arena ts → IsTaken cells old (any_of rest) new term → IsSettled cells old (any_of ts) new term
unfolding parts_of
or_of_left cells old new ts rest term h below none same t =
    settled_as cells old new (any_of ts) (any_of (open_parts old.arena ts)) term (or_replaced cells old ts h below none)
    (own_settles cells old new (any_of (open_parts old.arena ts)) term h (rest_below old.arena ts below) (subst (λ us. IsTaken cells old (any_of us) new term) same t))

pub or_of_true : (cells : List Cell) (old new : News) (ts : List ℕ) (term : ℕ) → IsNews cells old → All (λ p. p < length old.arena) ts → Any (IsTruthNumber old.arena true) ts → IsTaken cells old (constant (of_bool true)) new term → IsSettled cells old (any_of ts) new term
unfolding node_reach
or_of_true cells old new ts term h below found t = truth_settles cells old new (any_of ts) true term h refl (or_true_says cells old ts h below found) t

pub or_of_none : (cells : List Cell) (old new : News) (ts rest : List ℕ) (term : ℕ) → IsNews cells old → All (λ p. p < length old.arena) ts → All (λ t. IsTruthNumber old.arena true t → ⊥) ts → rest ≡ open_parts old.arena ts → rest ≡ [] → IsTaken cells old (constant (of_bool false)) new term → IsSettled cells old (any_of ts) new term
unfolding node_reach
or_of_none cells old new ts rest term h below none same empty t = truth_settles cells old new (any_of ts) false term h refl (or_none_says cells old ts h below none (sym same ∙ empty)) t

pub or_of_one : (cells : List Cell) (old : News) (ts rest : List ℕ) (part : ℕ) → IsNews cells old → All (λ p. p < length old.arena) ts → All (λ t. IsTruthNumber old.arena true t → ⊥) ts → rest ≡ open_parts old.arena ts → (rest ≡ part ∷ []) × IsNarrower (term_reach old.arena cells part) truth_interval → IsSettled cells old (any_of ts) old part
unfolding node_reach parts_of
or_of_one cells old ts rest part h below none same one =
    let is = sym same ∙ one.0 in
    let low : part < length old.arena = All-head (λ p. p < length old.arena) part [] (subst (All (λ p. p < length old.arena)) is (rest_below old.arena ts below)) in
    truth_part cells old (any_of ts) part h low (is_part old.arena (any_of ts) part (rest_in old.arena ts part (subst (λ us. Contains us part) (sym is) (0, omega arith, refl))).0) refl one.1
    (or_one_value cells old ts part h below none is low one.1)

-- ---- "if and only if"

-- the other term is one of the two
other_in : (nodes : List GroundNode) (a b other : ℕ) (known : ℤ) → IsBeside nodes a b known other → Contains (a ∷ b ∷ []) other
other_in nodes a b other known (inl h) = (1, omega arith, sym h.1)
other_in nodes a b other known (inr h) = (0, omega arith, sym h.1)

pub other_below : (nodes : List GroundNode) (a b other : ℕ) (known : ℤ) → IsBeside nodes a b known other → All (λ p. p < length nodes) (a ∷ b ∷ []) → other < length nodes
other_below nodes a b other known at below = All-contains (λ p. p < length nodes) (a ∷ b ∷ []) other below (other_in nodes a b other known at)

pub beside_not : (cells : List Cell) (old new : News) (a b other : ℕ) (known : ℤ) (term : ℕ) → IsNews cells old → All (λ p. p < length old.arena) (a ∷ b ∷ []) → IsBeside old.arena a b known other → is_one known ≡ false → IsSettled cells old (negation other) new term → IsSettled cells old (same_truth a b) new term
unfolding node_reach parts_of coefficients_of additions_in
beside_not cells old new a b other known term h below at isnt s =
    settled_as cells old new (same_truth a b) (negation other) term
    (record {
      value = beside_false cells old a b other known h below (other_below old.arena a b other known at below) isnt at;
      reach = λ i n. n;
      parts = λ p found. is_part old.arena (same_truth a b) p (subst (Contains (a ∷ b ∷ [])) (only_one p found) (other_in old.arena a b other known at));
      asks = asks_nothing (same_truth a b) (negation other) refl refl;
    }) s
  where
    only_one : (p : ℕ) → Contains (other ∷ []) p → other ≡ p
    only_one p found = elim (of_cons other [] p found) as (λ _. other ≡ p) [
      | inl e ↦ e
      | inr none ↦ none_there p none
    ]

pub beside_same : (cells : List Cell) (old : News) (a b other : ℕ) (known : ℤ) → IsNews cells old → All (λ p. p < length old.arena) (a ∷ b ∷ []) → IsBeside old.arena a b known other → is_one known ≡ true → IsNarrower (term_reach old.arena cells other) truth_interval → IsSettled cells old (same_truth a b) old other
unfolding node_reach parts_of
beside_same cells old a b other known h below at is narrow =
    let low = other_below old.arena a b other known at below in
    truth_part cells old (same_truth a b) other h low (is_part old.arena (same_truth a b) other (other_in old.arena a b other known at)) refl narrow
    (beside_true cells old a b other known h below low is narrow at)

-- what was found to be left is so
pub left_nothing : (cells : List Cell) (news : News) (ts us : List ℕ) (l : Left) → us ≡ ts → l ≡ left.Nothing → IsWhatIsLeft cells news us l → ts ≡ []
unfolding IsWhatIsLeft
left_nothing cells news ts us l same e h = sym same ∙ subst (IsWhatIsLeft cells news us) e h

pub left_truth : (cells : List Cell) (news : News) (ts us : List ℕ) (l : Left) (t : ℕ) → us ≡ ts → l ≡ left.Truth t → IsWhatIsLeft cells news us l → (ts ≡ t ∷ []) × IsNarrower (term_reach news.arena cells t) truth_interval
unfolding IsWhatIsLeft
left_truth cells news ts us l t same e h = let k = subst (IsWhatIsLeft cells news us) e h in (sym same ∙ k.0, k.1)

pub left_more : (cells : List Cell) (news : News) (ts us : List ℕ) (l : Left) → us ≡ ts → l ≡ left.More → IsWhatIsLeft cells news us l → (ts ≢ []) × (news.near ≡ true → (t : ℕ) → ts ≡ t ∷ [] → IsOfTruths (term_reach news.arena cells t) → ⊥)
unfolding IsWhatIsLeft
left_more cells news ts us l same e h = subst (λ vs. (vs ≢ []) × (news.near ≡ true → (t : ℕ) → vs ≡ t ∷ [] → IsOfTruths (term_reach news.arena cells t) → ⊥)) same (subst (IsWhatIsLeft cells news us) e h)

-- one part at most that is known to be a truth value is left of an "and" or an "or" that stays
pub and_untold : (cells : List Cell) (news : News) (ts : List ℕ) → (news.near ≡ true → (t : ℕ) → ts ≡ t ∷ [] → IsOfTruths (term_reach news.arena cells t) → ⊥) → AreNear news → IsUntold cells news.arena (all_of ts)
unfolding IsUntoldBy node_reach
and_untold cells news ts h were = record { untold = h were.near; folded = λ n e. absurd (no_truth n e) }

pub or_untold : (cells : List Cell) (news : News) (ts : List ℕ) → (news.near ≡ true → (t : ℕ) → ts ≡ t ∷ [] → IsOfTruths (term_reach news.arena cells t) → ⊥) → AreNear news → IsUntold cells news.arena (any_of ts)
unfolding IsUntoldBy node_reach
or_untold cells news ts h were = record { untold = h were.near; folded = λ n e. absurd (no_truth n e) }

-- nor is what stands beside a number known to be one in an "if and only if" that stays
pub beside_untold : (cells : List Cell) (news : News) (a b other : ℕ) (known : ℤ) → (IsNumber news.arena a → IsNumber news.arena b → ⊥) → IsBeside news.arena a b known other
    → (news.near ≡ true → IsOfTruths (term_reach news.arena cells other) → ⊥) → AreNear news → IsUntold cells news.arena (same_truth a b)
unfolding IsUntoldBy node_reach
beside_untold cells news a b other known both (inl h) open_other were = record {
  untold = (
    λ number truths. open_other were.near (subst (λ t. IsOfTruths (term_reach news.arena cells t)) (sym h.1) truths),
    λ number truths. both (some_is (lone_number news.arena a) known h.0) number,
  );
  folded = λ n e. absurd (no_truth n e);
}
beside_untold cells news a b other known both (inr h) open_other were = record {
  untold = (
    λ number truths. both number (some_is (lone_number news.arena b) known h.0),
    λ number truths. open_other were.near (subst (λ t. IsOfTruths (term_reach news.arena cells t)) (sym h.1) truths),
  );
  folded = λ n e. absurd (no_truth n e);
}

pub neither_untold : (cells : List Cell) (news : News) (a b : ℕ) → (IsNumber news.arena a → ⊥) → (IsNumber news.arena b → ⊥) → IsUntold cells news.arena (same_truth a b)
unfolding IsUntoldBy node_reach
neither_untold cells news a b one other = record { untold = (λ number truths. one number, λ number truths. other number); folded = λ n e. absurd (no_truth n e) }

pub only_below : (nodes : List GroundNode) (t : ℕ) → t < length nodes → All (λ p. p < length nodes) (t ∷ [])
only_below nodes t h = All-cons (λ p. p < length nodes) t [] h (All-nil (λ p. p < length nodes))

pub both_first_below : (nodes : List GroundNode) (a b : ℕ) → All (λ p. p < length nodes) (a ∷ b ∷ []) → (a < length nodes) × (b < length nodes)
both_first_below nodes a b h = (All-head (λ p. p < length nodes) a (b ∷ []) h, All-head (λ p. p < length nodes) b [] (All-tail (λ p. p < length nodes) a (b ∷ []) h))

-- what is said of a number that is asked whether it isn't true
pub said_false : (known : ℤ) (said : Bool) → said ≡ same_bool false (is_one known) → said ≡ true → is_one known ≡ false
unfolding same_bool
said_false known said e h = by (is_one known) (sym e ∙ h)
  where
    by : (b : Bool) → same_bool false b ≡ true → b ≡ false
    by false k = refl
    by true k = absurd cc

pub said_true : (known : ℤ) (said : Bool) → said ≡ same_bool false (is_one known) → said ≡ false → is_one known ≡ true
unfolding same_bool
said_true known said e h = by (is_one known) (sym e ∙ h)
  where
    by : (b : Bool) → same_bool false b ≡ false → b ≡ true
    by false k = absurd cc
    by true k = refl

filtered_last : (p : ℕ → Bool) (ts : List ℕ) (i t : ℕ) (cs ds : List ℕ) → ds ≡ filter p (take i ts) ++ filter p (t ∷ []) → i < length ts → t ≡ get_or ts i t → ds ≡ filter p (take (i + 1) ts)
filtered_last p ts i t cs ds all below at =
    all ∙ sym (filter-append p (take i ts) (t ∷ [])) ∙ ap (λ u. filter p (take i ts ++ u ∷ [])) at ∙ ap (filter p) (sym (take_more ts i t below))

-- one more term that is left, or isn't
pub open_kept : (nodes : List GroundNode) (ts : List ℕ) (i t : ℕ) (cs ds : List ℕ) → ds ≡ cs ++ t ∷ [] → cs ≡ open_parts nodes (take i ts) → i < length ts → t ≡ get_or ts i t → is_some (lone_number nodes t) ≡ false → ds ≡ open_parts nodes (take (i + 1) ts)
open_kept nodes ts i t cs ds push before below at open_one =
    filtered_last (λ u. not (is_some (lone_number nodes u))) ts i t cs ds (push ∙ (λ j. before j ++ kept j)) below at
  where
    kept : t ∷ [] ≡ open_parts nodes (t ∷ [])
    kept = sym (ap (λ b. cond (not b) (t ∷ []) []) open_one)

pub open_dropped : (nodes : List GroundNode) (ts : List ℕ) (i t : ℕ) (cs : List ℕ) → cs ≡ open_parts nodes (take i ts) → i < length ts → t ≡ get_or ts i t → is_some (lone_number nodes t) ≡ true → cs ≡ open_parts nodes (take (i + 1) ts)
open_dropped nodes ts i t cs before below at number =
    filtered_last (λ u. not (is_some (lone_number nodes u))) ts i t cs cs (no_more cs ∙ (λ j. before j ++ gone j)) below at
  where
    gone : [] ≡ open_parts nodes (t ∷ [])
    gone = sym (ap (λ b. cond (not b) (t ∷ []) []) number)

    no_more : (xs : List ℕ) → xs ≡ xs ++ []
    no_more [] = refl
    no_more (x ∷ xs) = ap (λ ys. x ∷ ys) (no_more xs)

-- lists of no term and of one
pub empty_left : (cells : List Cell) (news : News) (ts : List ℕ) → length ts < 1 → IsWhatIsLeft cells news ts left.Nothing
unfolding IsWhatIsLeft
empty_left cells news [] h = refl
empty_left cells news (t ∷ ts) h = absurd (omega (arith, h))

pub one_left : (cells : List Cell) (news : News) (ts : List ℕ) (t : ℕ) → 1 ≤ length ts → length ts < 2 → t ≡ get_or ts 0 t → IsNarrower (term_reach news.arena cells t) truth_interval → IsWhatIsLeft cells news ts (left.Truth t)
unfolding IsWhatIsLeft
one_left cells news [] t some few is narrow = absurd (omega (arith, some))
one_left cells news (u ∷ []) t some few is narrow = (ap (λ v. v ∷ []) (sym is), narrow)
one_left cells news (u ∷ v ∷ ts) t some few is narrow = absurd (omega (arith, few))

empty_short : (ts : List ℕ) → ts ≡ [] → 1 ≤ length ts → ⊥
empty_short ts none some = omega (arith, some, ap length none)

pub one_more_left : (cells : List Cell) (news : News) (ts : List ℕ) (t : ℕ) → 1 ≤ length ts → t ≡ get_or ts 0 t → (news.near ≡ true → IsOfTruths (term_reach news.arena cells t) → ⊥) → IsWhatIsLeft cells news ts left.More
unfolding IsWhatIsLeft
one_more_left cells news ts t some is open_one = (λ none. empty_short ts none some, λ near u same truths. open_one near (subst (λ v. IsOfTruths (term_reach news.arena cells v)) (sym (is ∙ ap (λ us. get_or us 0 t) same)) truths))

pub several_left : (cells : List Cell) (news : News) (ts : List ℕ) → 2 ≤ length ts → IsWhatIsLeft cells news ts left.More
unfolding IsWhatIsLeft
several_left cells news ts some = (λ none. omega (arith, some, ap length none), λ near t same truths. absurd (omega (arith, some, ap length same)))

pub one_below : (nodes : List GroundNode) (ts : List ℕ) (t : ℕ) → 1 ≤ length ts → t ≡ get_or ts 0 t → All (λ p. p < length nodes) ts → t < length nodes
one_below nodes ts t some is below = subst (λ p. p < length nodes) (sym is) (below 0 t (omega (arith, some)))
