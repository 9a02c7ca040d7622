-- The domains that are made for terms have the numbers that these may have.
use Rattle.std.specs.Prelude.{◌≡◌, ◌↔◌, ℕ, zero, suc, ◌+◌, ◌<◌, Bool, true, false, List, [], ◌∷◌, ◌++◌, length, map, ℤ, pos, ◌+ℤ◌, ◌*ℤ◌, ◌≤ℤ◌, Option, Some, None, option_map, option_and_then, unwrap_or, fold, position, slice_get, slice_index_or, refl}
use Rattle.std.proofs.Common.{ap, arith, inl, inr, subst, sym, take, ◌∙◌}
use Rattle.std.proofs.lemmas.Int.{fold-int_max_reached, fold-int_min_reached, ints}
use Rattle.std.specs.Int.{int_max, int_min}
use Rattle.std.specs.List.{All, Any, Contains}
use Rattle.std.proofs.lemmas.List.Elements.{All-append, All-contains, All-cons, All-head, All-nil, All-push, All-tail, All-weaker, Contains-get_or}
use Rattle.std.proofs.lemmas.List.Quantifiers.{Any-push}
use Rattle.ep_base.proofs.RunSteps.{any_more}
use Rattle.ep_base.proofs.Small.{no_some, some_is}
use Rattle.ep_base.specs.Intervals.{Interval, IsWithinReach, LiesIn}
use Rattle.ep_base.specs.Numbers.{absolute_of, greatest_of, least_of, nth_power, same_numbers}
use Rattle.ep_base.specs.Options.{on_both}
use Rattle.ep_base.specs.Reads as reads
use Rattle.ep_base.specs.Reads.{IsWithinNumbers, all_there, first_or_zero, picked, safe_picked, weighted_sum}
use Rattle.ep_base.specs.Numbers.{sum_of}
use Rattle.ep_base.specs.Runs.{IsIn}
use Rattle.ep_base.specs.declared.run_lists.Run.{Run}
use Rattle.ep_ground.specs.Nodes.{GroundNode, sum, product, power, absolute, least, greatest, safe_quotient, safe_remainder, safe_pick, parts_of}
use Rattle.ep_ground.specs.Terms.{node_value, term_values_of, weighed}
use Rattle.ep_flatten.specs.Building.{HasAll}
use Rattle.ep_flatten.specs.Forms.{TermForm, form_parts, form_value, own, summed}
use Rattle.ep_flatten.specs.Images.{Collects, HasNumbers, HasPairs, HasResult, HaveNumbersOf, HoldsImage, IsDomainImage, IsWithinSpan, domain_at, operation_result, paired}
use Rattle.ep_flatten.specs.declared.images.Operation.{Operation}
use Rattle.ep_flatten.specs.declared.images.Operation.TheVariants as one
use Rattle.ep_flatten.specs.declared.images.Pairing.{Pairing}
use Rattle.ep_flatten.specs.declared.images.Pairing.TheVariants as two
use Rattle.ep_flatten.proofs.Unrolled.{all_left}

-- ---- what is there stays there

pub result_stays : (span : Interval) (f : ℤ → ℤ) (has more : ℤ → Type 0) → ((n : ℤ) → has n → more n) → (x : ℤ) → HasResult span f has x → HasResult span f more x
result_stays span f has more stays x h l = stays (f x) (h l)

pub pairs_stay : (span : Interval) (f : ℤ → ℤ → ℤ) (ys : List ℤ) (has more : ℤ → Type 0) → ((n : ℤ) → has n → more n) → (x : ℤ) → HasPairs span f ys has x → HasPairs span f ys more x
pairs_stay span f ys has more stays x h = All-weaker (HasResult span (f x) has) (HasResult span (f x) more) (result_stays span (f x) has more stays) ys h

pub numbers_stay : (span : Interval) (vars : List (List ℤ)) (places : List ℕ) (has more : ℤ → Type 0) → ((n : ℤ) → has n → more n) → (t : ℕ) → HasNumbers span vars places has t → HasNumbers span vars places more t
numbers_stay span vars places has more stays t h =
    All-weaker (HasResult span (λ x. x) has) (HasResult span (λ x. x) more) (result_stays span (λ x. x) has more stays) (domain_at vars places t) h

-- ---- runs that are put behind others

-- one thing more, whose results were added
pub collect_more : {X : Type 0} (span : Interval) (leads : (ℤ → Type 0) → X → Type 0) (xs : List X) (x : X) (longer : List X) (old mid new : List Run)
    → ((has more : ℤ → Type 0) → ((n : ℤ) → has n → more n) → (y : X) → leads has y → leads more y)
    → longer ≡ xs ++ x ∷ [] → Collects span leads xs old mid → (All (IsWithinSpan span) mid → All (IsWithinSpan span) new) → ((n : ℤ) → Any (IsIn n) mid → Any (IsIn n) new) → leads (λ n. Any (IsIn n) new) x
    → Collects span leads longer old new
collect_more span leads xs x longer old mid new stay is before small stays own_has = record {
  small = λ h. small (before.small h);
  stays = λ n h. stays n (before.stays n h);
  has = subst (All (leads (λ n. Any (IsIn n) new))) (sym is)
      (All-push (leads (λ n. Any (IsIn n) new)) xs x
      (All-weaker (leads (λ n. Any (IsIn n) mid)) (leads (λ n. Any (IsIn n) new)) (stay (λ n. Any (IsIn n) mid) (λ n. Any (IsIn n) new) stays) xs before.has) own_has);
}

-- a result that was added
pub result_added : (span : Interval) (f : ℤ → ℤ) (xs : List ℤ) (x : ℤ) (longer : List ℤ) (old mid new : List Run) (n : ℤ)
    → longer ≡ xs ++ x ∷ [] → Collects span (HasResult span f) xs old mid → new ≡ mid ++ record { lo = n; hi = n } ∷ [] → LiesIn n span → (LiesIn (f x) span → Some n ≡ Some (f x))
    → Collects span (HasResult span f) longer old new
result_added span f xs x longer old mid new n is before put within told =
    let run : Run = record { lo = n; hi = n } in
    collect_more span (HasResult span f) xs x longer old mid new (result_stays span f) is before
    (λ h. subst (All (IsWithinSpan span)) (sym put) (All-push (IsWithinSpan span) mid run h (within, within)))
    (λ m h. subst (Any (IsIn m)) (sym put) (any_more (IsIn m) mid (run ∷ []) h))
    (λ l. subst (Any (IsIn (f x))) (sym put) (Any-push (IsIn (f x)) mid run (subst (λ m. IsIn m run) (some_is (told l)) (omega (arith, ints), omega (arith, ints)))))

-- no result lies there
pub result_skipped : (span : Interval) (f : ℤ → ℤ) (xs : List ℤ) (x : ℤ) (longer : List ℤ) (old mid : List Run)
    → longer ≡ xs ++ x ∷ [] → Collects span (HasResult span f) xs old mid → (LiesIn (f x) span → None ≡ Some (f x)) → Collects span (HasResult span f) longer old mid
result_skipped span f xs x longer old mid is before told =
    collect_more span (HasResult span f) xs x longer old mid mid (result_stays span f) is before (λ h. h) (λ n h. h) (λ l. no_some (told l))

-- numbers that are results of doing nothing
pub same_results : (span : Interval) (has : ℤ → Type 0) (xs : List ℤ) → All (HasResult span (operation_result one.Same) has) xs → All (HasResult span (λ x. x) has) xs
unfolding operation_result
same_results span has xs h = All-weaker (HasResult span (operation_result one.Same) has) (HasResult span (λ x. x) has) (λ x own l. own l) xs h

-- results of an operation whose first number is known
pub first_results : (span : Interval) (op : Operation) (pairing : Pairing) (x : ℤ) (has : ℤ → Type 0) (ys : List ℤ) → ((y : ℤ) → operation_result op y ≡ paired pairing x y) → All (HasResult span (operation_result op) has) ys → HasPairs span (paired pairing) ys has x
first_results span op pairing x has ys same h =
    All-weaker (HasResult span (operation_result op) has) (HasResult span (paired pairing x) has) (λ y own l. subst has (same y) (own (subst (λ m. LiesIn m span) (sym (same y)) l))) ys h

-- ---- sets

within_small : (span : Interval) (n : ℤ) → IsWithinReach span → LiesIn n span → IsWithinNumbers n
within_small span n h l =
    let low = h.low.0 in let high = h.high.1 in
    (omega (arith, ints, low, l.0), omega (arith, ints, high, l.1))

pub small_image : (span : Interval) (set : List ℤ) → IsWithinReach span → All (λ n. LiesIn n span) set → All IsWithinNumbers set
small_image span set reach h = All-weaker (λ n. LiesIn n span) IsWithinNumbers (λ n l. within_small span n reach l) set h

run_lies : (span : Interval) (n : ℤ) (run : Run) → IsWithinSpan span run → IsIn n run → LiesIn n span
run_lies span n run w l = (omega (arith, ints, w.0.0, l.0), omega (arith, ints, w.1.1, l.1))

any_lies : (span : Interval) (n : ℤ) (runs : List Run) → All (IsWithinSpan span) runs → Any (IsIn n) runs → LiesIn n span
any_lies span n runs h a = run_lies span n a.1 (All-contains (IsWithinSpan span) runs a.1 h (a.0, a.2, a.3)) a.4

pub image_of : {X : Type 0} (span : Interval) (leads : (ℤ → Type 0) → X → Type 0) (xs : List X) (old runs : List Run) (set : List ℤ)
    → ((has more : ℤ → Type 0) → ((n : ℤ) → has n → more n) → (y : X) → leads has y → leads more y)
    → old ≡ [] → Collects span leads xs old runs → ((n : ℤ) → Contains set n ↔ Any (IsIn n) runs) → IsDomainImage span leads xs set
image_of span leads xs old runs set stay none h same =
    let within : All (IsWithinSpan span) runs = h.small (subst (All (IsWithinSpan span)) (sym none) (All-nil (IsWithinSpan span))) in
    record {
      small = λ k d l. any_lies span (slice_index_or set k d) runs within ((same (slice_index_or set k d)).0 (Contains-get_or set k d l));
      has = All-weaker (leads (λ n. Any (IsIn n) runs)) (leads (Contains set)) (stay (λ n. Any (IsIn n) runs) (Contains set) (λ n. (same n).1)) xs h.has;
    }

-- all numbers of an interval
pub hull_image : {X : Type 0} (span : Interval) (leads : (ℤ → Type 0) → X → Type 0) (xs : List X) (set : List ℤ)
    → ((has more : ℤ → Type 0) → ((n : ℤ) → has n → more n) → (y : X) → leads has y → leads more y) → ((x : X) → leads (λ n. LiesIn n span) x) → HasAll set span → IsDomainImage span leads xs set
hull_image span leads xs set stay full all = record {
  small = λ k d l. (all (slice_index_or set k d)).0 (Contains-get_or set k d l);
  has = λ k d l. stay (λ n. LiesIn n span) (Contains set) (λ n. (all n).1) (slice_index_or xs k d) (full (slice_index_or xs k d));
}

pub full_pairs : (span : Interval) (f : ℤ → ℤ → ℤ) (ys : List ℤ) (x : ℤ) → HasPairs span f ys (λ n. LiesIn n span) x
full_pairs span f ys x = λ k d l h. h

pub full_numbers : (span : Interval) (vars : List (List ℤ)) (places : List ℕ) (t : ℕ) → HasNumbers span vars places (λ n. LiesIn n span) t
full_numbers span vars places t = λ k d l h. h

pub hull_holds : (vars : List (List ℤ)) (places : List ℕ) (node : GroundNode) (form : TermForm) (span : Interval) (set : List ℤ) → IsWithinReach span → HasAll set span → HoldsImage vars places node form span set
hull_holds vars places node form span set reach all = record {
  small = λ k d l. within_small span (slice_index_or set k d) reach ((all (slice_index_or set k d)).0 (Contains-get_or set k d l));
  holds = λ cells value parts n e l. (all n).1 l;
}

-- ---- nodes

one_given : (f : ℤ → ℤ) (x : Option ℤ) (n : ℤ) → option_map f x ≡ Some n → (a : ℤ) × (x ≡ Some a) × (f a ≡ n)
one_given f None n e = no_some e
one_given f (Some a) n e = (a, refl, some_is e)

two_given : {A B : Type 0} (f : A → B → ℤ) (x : Option A) (y : Option B) (n : ℤ) → on_both x y (λ a b. Some (f a b)) ≡ Some n → (a : A) × (b : B) × (x ≡ Some a) × (y ≡ Some b) × (f a b ≡ n)
unfolding on_both
two_given f None y n e = no_some e
two_given f (Some a) None n e = no_some e
two_given f (Some a) (Some b) n e = (a, b, refl, refl, some_is e)

then_given : {A : Type 0} (f : A → Option ℤ) (x : Option A) (n : ℤ) → option_and_then f x ≡ Some n → (a : A) × (x ≡ Some a) × (f a ≡ Some n)
then_given f None n e = no_some e
then_given f (Some a) n e = (a, refl, e)

-- an operation on one part
one_holds : (vars : List (List ℤ)) (places : List ℕ) (t : ℕ) (rest : List ℕ) (span : Interval) (op : Operation) (f : ℤ → ℤ) (set : List ℤ) (value : ℕ → Option ℤ) (x n : ℤ)
    → ((y : ℤ) → operation_result op y ≡ f y) → IsDomainImage span (HasResult span (operation_result op)) (domain_at vars places t) set → HaveNumbersOf vars places value (t ∷ rest) → value t ≡ Some x → f x ≡ n → LiesIn n span
    → Contains set n
one_holds vars places t rest span op f set value x n same image parts is gives l =
    let there : Contains (domain_at vars places t) x = All-head (λ u. (m : ℤ) → value u ≡ Some m → Contains (domain_at vars places u) m) t rest parts x is in
    let whole : operation_result op x ≡ n = same x ∙ gives in
    subst (Contains set) whole (All-contains (HasResult span (operation_result op) (Contains set)) (domain_at vars places t) x image.has there (subst (λ m. LiesIn m span) (sym whole) l))

pub power_holds : (vars : List (List ℤ)) (places : List ℕ) (t m : ℕ) (span : Interval) (set : List ℤ) → IsWithinReach span → IsDomainImage span (HasResult span (operation_result (one.Power m))) (domain_at vars places t) set
    → HoldsImage vars places (power t m) own span set
unfolding form_value form_parts node_value parts_of operation_result
power_holds vars places t m span set reach image = record {
  small = small_image span set reach image.small;
  holds = λ cells value parts n e l.
      let g = one_given (λ x. nth_power x m) (value t) n e in
      one_holds vars places t [] span (one.Power m) (λ x. nth_power x m) set value g.0 n (λ y. refl) image parts g.1 g.2 l;
}

pub absolute_holds : (vars : List (List ℤ)) (places : List ℕ) (t : ℕ) (span : Interval) (set : List ℤ) → IsWithinReach span → IsDomainImage span (HasResult span (operation_result one.Absolute)) (domain_at vars places t) set
    → HoldsImage vars places (absolute t) own span set
unfolding form_value form_parts node_value parts_of operation_result
absolute_holds vars places t span set reach image = record {
  small = small_image span set reach image.small;
  holds = λ cells value parts n e l.
      let g = one_given absolute_of (value t) n e in
      one_holds vars places t [] span one.Absolute absolute_of set value g.0 n (λ y. refl) image parts g.1 g.2 l;
}

-- a number and a multiple
plus_none : (c p : ℤ) → c +ℤ (p +ℤ pos 0) ≡ c +ℤ p
plus_none c p = omega (arith, ints)

scaled_given : (c k : ℤ) (t : ℕ) (value : ℕ → Option ℤ) (n : ℤ) → option_map (λ ps. c +ℤ weighted_sum ps) (weighed value ((k, t) ∷ [])) ≡ Some n → (x : ℤ) × (value t ≡ Some x) × ((c +ℤ (k *ℤ x)) ≡ n)
unfolding weighed on_both weighted_sum sum_of
scaled_given c k t value n e = by (value t) refl e
  where
    by : (o : Option ℤ) → value t ≡ o → option_map (λ ps. c +ℤ weighted_sum ps) (on_both o (Some []) (λ x rest. Some ((k, x) ∷ rest))) ≡ Some n → (x : ℤ) × (value t ≡ Some x) × ((c +ℤ (k *ℤ x)) ≡ n)
    by None is g = no_some g
    by (Some x) is g = (x, is, sym (plus_none c (k *ℤ x)) ∙ some_is g)

pub scaled_holds : (vars : List (List ℤ)) (places : List ℕ) (c k : ℤ) (t : ℕ) (span : Interval) (set : List ℤ) → IsWithinReach span
    → IsDomainImage span (HasResult span (operation_result (one.Scaled k c))) (domain_at vars places t) set → HoldsImage vars places (sum c ((k, t) ∷ [])) own span set
unfolding form_value form_parts node_value parts_of operation_result
scaled_holds vars places c k t span set reach image = record {
  small = small_image span set reach image.small;
  holds = λ cells value parts n e l.
      let g = scaled_given c k t value n e in
      one_holds vars places t [] span (one.Scaled k c) (λ x. c +ℤ (k *ℤ x)) set value g.0 n (λ y. refl) image parts g.1 g.2 l;
}

pub summed_holds : (vars : List (List ℤ)) (places : List ℕ) (node : GroundNode) (c : ℤ) (parts : List (ℤ × ℕ)) (span : Interval) (set : List ℤ) → HoldsImage vars places (sum c parts) own span set
    → HoldsImage vars places node (summed c parts) span set
unfolding form_value form_parts parts_of
summed_holds vars places node c parts span set h = record { small = h.small; holds = h.holds }

-- an operation on two parts
pair_holds : (vars : List (List ℤ)) (places : List ℕ) (a b : ℕ) (span : Interval) (op : Pairing) (f : ℤ → ℤ → ℤ) (set : List ℤ) (value : ℕ → Option ℤ) (n : ℤ)
    → ((x y : ℤ) → paired op x y ≡ f x y) → IsDomainImage span (HasPairs span (paired op) (domain_at vars places b)) (domain_at vars places a) set → HaveNumbersOf vars places value (a ∷ b ∷ [])
    → on_both (value a) (value b) (λ x y. Some (f x y)) ≡ Some n → LiesIn n span → Contains set n
pair_holds vars places a b span op f set value n same image parts e l =
    let g = two_given f (value a) (value b) n e in
    let P : ℕ → Type 0 = λ u. (m : ℤ) → value u ≡ Some m → Contains (domain_at vars places u) m in
    let first : Contains (domain_at vars places a) g.0 = All-head P a (b ∷ []) parts g.0 g.2 in
    let second : Contains (domain_at vars places b) g.1 = All-head P b [] (All-tail P a (b ∷ []) parts) g.1 g.3 in
    let row : All (HasResult span (paired op g.0) (Contains set)) (domain_at vars places b) = All-contains (HasPairs span (paired op) (domain_at vars places b) (Contains set)) (domain_at vars places a) g.0 image.has first in
    let whole : paired op g.0 g.1 ≡ n = same g.0 g.1 ∙ g.4 in
    subst (Contains set) whole (All-contains (HasResult span (paired op g.0) (Contains set)) (domain_at vars places b) g.1 row second (subst (λ m. LiesIn m span) (sym whole) l))

pub product_holds : (vars : List (List ℤ)) (places : List ℕ) (a b : ℕ) (span : Interval) (set : List ℤ) → IsWithinReach span
    → IsDomainImage span (HasPairs span (paired two.Product) (domain_at vars places b)) (domain_at vars places a) set → HoldsImage vars places (product a b) own span set
unfolding form_value form_parts node_value parts_of paired
product_holds vars places a b span set reach image = record {
  small = small_image span set reach image.small;
  holds = λ cells value parts n e l. pair_holds vars places a b span two.Product (λ x y. x *ℤ y) set value n (λ x y. refl) image parts e l;
}

pub quotient_holds : (vars : List (List ℤ)) (places : List ℕ) (a b : ℕ) (span : Interval) (set : List ℤ) → IsWithinReach span
    → IsDomainImage span (HasPairs span (paired two.Quotient) (domain_at vars places b)) (domain_at vars places a) set → HoldsImage vars places (safe_quotient a b) own span set
unfolding form_value form_parts node_value parts_of paired
quotient_holds vars places a b span set reach image = record {
  small = small_image span set reach image.small;
  holds = λ cells value parts n e l. pair_holds vars places a b span two.Quotient reads.safe_quotient set value n (λ x y. refl) image parts e l;
}

pub remainder_holds : (vars : List (List ℤ)) (places : List ℕ) (a b : ℕ) (span : Interval) (set : List ℤ) → IsWithinReach span
    → IsDomainImage span (HasPairs span (paired two.Remainder) (domain_at vars places b)) (domain_at vars places a) set → HoldsImage vars places (safe_remainder a b) own span set
unfolding form_value form_parts node_value parts_of paired
remainder_holds vars places a b span set reach image = record {
  small = small_image span set reach image.small;
  holds = λ cells value parts n e l. pair_holds vars places a b span two.Remainder reads.safe_remainder set value n (λ x y. refl) image parts e l;
}

-- ---- one of some parts

-- numbers of parts are in a set that has those of their domains
numbers_held : (vars : List (List ℤ)) (places : List ℕ) (span : Interval) (set : List ℤ) (value : ℕ → Option ℤ) (ts : List ℕ) (ns : List ℤ) → term_values_of value ts ≡ Some ns
    → All (HasNumbers span vars places (Contains set)) ts → HaveNumbersOf vars places value ts → All (HasResult span (λ x. x) (Contains set)) ns
unfolding term_values_of all_there
numbers_held vars places span set value [] ns e has parts = subst (All (HasResult span (λ x. x) (Contains set))) (some_is e) (All-nil (HasResult span (λ x. x) (Contains set)))
numbers_held vars places span set value (t ∷ ts) ns e has parts =
    by (value t) refl (all_there (map value ts)) refl
    (λ ms k. numbers_held vars places span set value ts ms k (All-tail (HasNumbers span vars places (Contains set)) t ts has)
    (All-tail (λ u. (m : ℤ) → value u ≡ Some m → Contains (domain_at vars places u) m) t ts parts)) e
  where
    by : (o : Option ℤ) → value t ≡ o → (p : Option (List ℤ)) → all_there (map value ts) ≡ p → ((ms : List ℤ) → all_there (map value ts) ≡ Some ms → All (HasResult span (λ x. x) (Contains set)) ms) → option_and_then (λ n. option_map (λ ms. n ∷ ms) p) o ≡ Some ns → All (HasResult span (λ x. x) (Contains set)) ns
    by None g p k more f = no_some f
    by (Some n) g None k more f = no_some f
    by (Some n) g (Some ms) k more f =
        subst (All (HasResult span (λ x. x) (Contains set))) (some_is f)
        (All-cons (HasResult span (λ x. x) (Contains set)) n ms
        (All-contains (HasResult span (λ x. x) (Contains set)) (domain_at vars places t) n (All-head (HasNumbers span vars places (Contains set)) t ts has)
        (All-head (λ u. (m : ℤ) → value u ≡ Some m → Contains (domain_at vars places u) m) t ts parts n g))
        (more ms k))

min_kept : (P : ℤ → Type 0) (a : ℤ) (xs : List ℤ) → P a → All P xs → P (fold int_min a xs)
min_kept P a xs h all =
    elim (fold-int_min_reached a xs (fold int_min a xs) refl) as (λ _. P (fold int_min a xs)) [
      | inl e ↦ subst P (sym e) h
      | inr there ↦ All-contains P xs (fold int_min a xs) all there
    ]

max_kept : (P : ℤ → Type 0) (a : ℤ) (xs : List ℤ) → P a → All P xs → P (fold int_max a xs)
max_kept P a xs h all =
    elim (fold-int_max_reached a xs (fold int_max a xs) refl) as (λ _. P (fold int_max a xs)) [
      | inl e ↦ subst P (sym e) h
      | inr there ↦ All-contains P xs (fold int_max a xs) all there
    ]

least_kept : (P : ℤ → Type 0) (ns : List ℤ) (n : ℤ) → least_of ns ≡ Some n → All P ns → P n
unfolding least_of
least_kept P [] n e all = no_some e
least_kept P (x ∷ xs) n e all = subst P (some_is e) (min_kept P x xs (All-head P x xs all) (All-tail P x xs all))

greatest_kept : (P : ℤ → Type 0) (ns : List ℤ) (n : ℤ) → greatest_of ns ≡ Some n → All P ns → P n
unfolding greatest_of
greatest_kept P [] n e all = no_some e
greatest_kept P (x ∷ xs) n e all = subst P (some_is e) (max_kept P x xs (All-head P x xs all) (All-tail P x xs all))

pub least_holds : (vars : List (List ℤ)) (places : List ℕ) (ts : List ℕ) (span : Interval) (set : List ℤ) → IsWithinReach span → IsDomainImage span (HasNumbers span vars places) ts set
    → HoldsImage vars places (least ts) own span set
unfolding form_value form_parts node_value parts_of
least_holds vars places ts span set reach image = record {
  small = small_image span set reach image.small;
  holds = λ cells value parts n e l.
      let g = then_given least_of (term_values_of value ts) n e in
      least_kept (HasResult span (λ x. x) (Contains set)) g.0 n g.2 (numbers_held vars places span set value ts g.0 g.1 image.has parts) l;
}

pub greatest_holds : (vars : List (List ℤ)) (places : List ℕ) (ts : List ℕ) (span : Interval) (set : List ℤ) → IsWithinReach span → IsDomainImage span (HasNumbers span vars places) ts set
    → HoldsImage vars places (greatest ts) own span set
unfolding form_value form_parts node_value parts_of
greatest_holds vars places ts span set reach image = record {
  small = small_image span set reach image.small;
  holds = λ cells value parts n e l.
      let g = then_given greatest_of (term_values_of value ts) n e in
      greatest_kept (HasResult span (λ x. x) (Contains set)) g.0 n g.2 (numbers_held vars places span set value ts g.0 g.1 image.has parts) l;
}

got_kept : (P : ℤ → Type 0) (ns : List ℤ) (k : ℕ) (n : ℤ) → All P ns → slice_get ns k ≡ Some n → P n
got_kept P [] k n all e = no_some e
got_kept P (x ∷ xs) zero n all e = subst P (some_is e) (All-head P x xs all)
got_kept P (x ∷ xs) (suc k) n all e = got_kept P xs k n (All-tail P x xs all) e

first_kept : (P : ℤ → Type 0) (ns : List ℤ) → 0 < length ns → All P ns → P (first_or_zero ns)
unfolding first_or_zero
first_kept P [] some all = absurd (omega (arith, some))
first_kept P (x ∷ xs) some all = All-head P x xs all

picked_kept : (P : ℤ → Type 0) (ns : List ℤ) (keys : List (List ℤ)) (at : List ℤ) → 0 < length ns → All P ns → P (safe_picked ns keys at)
unfolding safe_picked picked
picked_kept P ns keys at some all = by (position (λ key. same_numbers key at) keys)
  where
    found : (o : Option ℤ) → ((n : ℤ) → o ≡ Some n → P n) → P (unwrap_or o (first_or_zero ns))
    found None h = first_kept P ns some all
    found (Some n) h = h n refl

    by : (o : Option ℕ) → P (unwrap_or (option_and_then (slice_get ns) o) (first_or_zero ns))
    by None = first_kept P ns some all
    by (Some k) = found (slice_get ns k) (λ n e. got_kept P ns k n all e)

some_there : (value : ℕ → Option ℤ) (ts : List ℕ) (ns : List ℤ) → 0 < length ts → term_values_of value ts ≡ Some ns → 0 < length ns
unfolding term_values_of all_there
some_there value [] ns some e = absurd (omega (arith, some))
some_there value (t ∷ ts) ns some e = by (value t) (all_there (map value ts)) e
  where
    by : (o : Option ℤ) (p : Option (List ℤ)) → option_and_then (λ n. option_map (λ ms. n ∷ ms) p) o ≡ Some ns → 0 < length ns
    by None p f = no_some f
    by (Some n) None f = no_some f
    by (Some n) (Some ms) f = subst (λ l. 0 < length l) (some_is f) (omega arith)

pub pick_holds : (vars : List (List ℤ)) (places : List ℕ) (ts : List ℕ) (keys : List (List ℤ)) (indices : List ℕ) (span : Interval) (set : List ℤ) → IsWithinReach span → 0 < length ts
    → IsDomainImage span (HasNumbers span vars places) ts set → HoldsImage vars places (safe_pick ts keys indices) own span set
unfolding form_value form_parts node_value parts_of
pick_holds vars places ts keys indices span set reach some image = record {
  small = small_image span set reach image.small;
  holds = λ cells value parts n e l.
      let g = two_given (λ xs is. safe_picked xs keys is) (term_values_of value ts) (term_values_of value indices) n e in
      let P : ℕ → Type 0 = λ u. (m : ℤ) → value u ≡ Some m → Contains (domain_at vars places u) m in
      let Q : ℤ → Type 0 = HasResult span (λ x. x) (Contains set) in
      subst Q g.4
      (picked_kept Q g.0 keys g.1 (some_there value ts g.0 some g.2) (numbers_held vars places span set value ts g.0 g.2 image.has (all_left P ts indices parts))) l;
}
