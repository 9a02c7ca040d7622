-- The hull of some numbers with one number more, and what a read weighs.
use Rattle.ep_size.proofs.Words.{◌≡◌, ◌≢◌, ◌+◌, ◌*◌, Bool, true, false, List, [], ◌∷◌, ◌++◌, length, refl, sym, ap, ◌∙◌, arith, Ok, ℕ, ℤ, fold, replicate, sum_by, pos, zero, suc, int_max, int_min, list_any, length-replicate, length_push, Interval, farthest_end, from_to, greatest_or_zero, highs, hull, least_or_zero, lows, width, absolute_of, greatest_of, least_of, is_too_far, index_width, read_weight, MeasuredIndex, is_decided_index, read_span, reaches, truth_span, wide_span, Scalar, plain_span, Gives, Hulls, interval_of, Keeps, capped, Hulled}
use Rattle.ep_tree.specs.Reach as defined
use Rattle.ep_size.specs.declared.extents.Span.{Span}
use Rattle.ep_numbers.specs.declared.spans.Span.{Span as Ends}

-- the least lower end of numbers, one of them at the end
pub least_last : (a : ℤ) (spans : List defined.Span) (s : defined.Span)
    → fold int_min a (lows (reaches (spans ++ s ∷ []))) ≡ int_min (fold int_min a (lows (reaches spans))) s.reach.low
least_last a [] s = refl
least_last a (t ∷ spans) s = least_last (int_min a t.reach.low) spans s

-- the greatest upper end
pub greatest_last : (a : ℤ) (spans : List defined.Span) (s : defined.Span)
    → fold int_max a (highs (reaches (spans ++ s ∷ []))) ≡ int_max (fold int_max a (highs (reaches spans))) s.reach.high
greatest_last a [] s = refl
greatest_last a (t ∷ spans) s = greatest_last (int_max a t.reach.high) spans s

hull_more : (first : defined.Span) (spans : List defined.Span) (s : defined.Span)
    → hull (hull (reaches (first ∷ spans)) ∷ s.reach ∷ []) ≡ hull (reaches ((first ∷ spans) ++ s ∷ []))
unfolding hull least_or_zero greatest_or_zero least_of greatest_of
hull_more first spans s =
    ap (λ n. from_to n (int_max (fold int_max first.reach.high (highs (reaches spans))) s.reach.high)) (sym (least_last first.reach.low spans s))
    ∙ ap (from_to (fold int_min first.reach.low (lows (reaches (spans ++ s ∷ []))))) (sym (greatest_last first.reach.high spans s))

hull_alone : (s : defined.Span) → s.reach ≡ hull (reaches (s ∷ []))
unfolding hull least_or_zero greatest_or_zero least_of greatest_of
hull_alone s = refl

hull_none : from_to (pos 0) (pos 0) ≡ hull []
unfolding hull least_or_zero greatest_or_zero least_of greatest_of
hull_none = refl

-- no number
pub hulls_none : (t : Hulled) → t.count ≡ 0 → interval_of t.reach ≡ from_to (pos 0) (pos 0) → Hulls t []
unfolding Hulls
hulls_none t count reach = record { count = count; reach = reach }

-- the first number
pub hulls_first : (t u : Hulled) (spans : List defined.Span) (s : Span) → t.count ≡ 0 → Hulls t spans → u.count ≡ 1 → u.reach ≡ s.reach → u.first ≡ s
    → Hulls u (spans ++ plain_span s ∷ [])
unfolding Hulls
hulls_first t u [] s none h count reach first =
    record { count = count; reach = ap interval_of reach ∙ hull_alone (plain_span s); first = ap plain_span first }
hulls_first t u (x ∷ xs) s none h count reach first = absurd (omega (arith, h.count, none))

-- one number more
pub hulls_next : (t u : Hulled) (spans : List defined.Span) (s : Span) → t.count ≢ 0 → Hulls t spans → u.count ≡ capped (capped t.count + 1)
    → interval_of u.reach ≡ hull (interval_of t.reach ∷ interval_of s.reach ∷ []) → u.first ≡ t.first → Hulls u (spans ++ plain_span s ∷ [])
unfolding Hulls
hulls_next t u [] s some h count reach first = absurd (some h.count)
hulls_next t u (x ∷ xs) s some h count reach first =
    let a : length ((x ∷ xs) ++ plain_span s ∷ []) ≡ length (x ∷ xs) + 1 = length_push (x ∷ xs) (plain_span s) in
    record {
      count = omega (arith, a, count, h.count);
      reach = reach ∙ ap (λ i. hull (i ∷ interval_of s.reach ∷ [])) h.reach ∙ hull_more x xs (plain_span s);
      first = ap plain_span first ∙ h.first;
    }

pub hulls_count : (t : Hulled) (spans : List defined.Span) → Hulls t spans → t.count ≡ capped (length spans)
unfolding Hulls
hulls_count t [] h = h.count
hulls_count t (x ∷ xs) h = h.count

pub hulls_reach : (t : Hulled) (spans : List defined.Span) → Hulls t spans → interval_of t.reach ≡ hull (reaches spans)
unfolding Hulls
hulls_reach t [] h = h.reach ∙ hull_none
hulls_reach t (x ∷ xs) h = h.reach

-- a read without a decision variable in an index weighs nothing
pub read_none : (is : List MeasuredIndex) (whole : defined.Span) (left : List defined.Span) (b : Bool) → b ≡ false → b ≡ list_any is_decided_index is
    → 0 ≡ capped (read_weight is whole left)
unfolding read_weight
read_none is whole left b h k = let e : list_any is_decided_index is ≡ false = sym k ∙ h in rw e refl

-- any other read
pub read_some : (is : List MeasuredIndex) (whole : defined.Span) (left : List defined.Span) (b : Bool) → b ≡ true → b ≡ list_any is_decided_index is
    → length left * (width whole.reach + sum_by index_width is) ≡ read_weight is whole left
unfolding read_weight
read_some is whole left b h k = let e : list_any is_decided_index is ≡ true = sym k ∙ h in rw e refl

-- ---- what is known of a read

pub cell_read : (t : Hulled) (spans : List defined.Span) (b : Bool) (scalar : Scalar) → Hulls t spans → b ≡ true → t.count ≡ 1
    → plain_span t.first ≡ read_span b scalar spans
unfolding Hulls read_span
cell_read t [] b scalar h of_cell one = absurd (omega (arith, h.count, one))
cell_read t (x ∷ []) true scalar h of_cell one = h.first
cell_read t (x ∷ []) false scalar h of_cell one = absurd cc
cell_read t (x ∷ (y ∷ zs)) b scalar h of_cell one = absurd (omega (arith, h.count, one))

pub other_read : (t : Hulled) (spans : List defined.Span) (b : Bool) (scalar : Scalar) → Hulls t spans → (t.count ≡ 1 → ⊥)
    → read_span false scalar spans ≡ read_span b scalar spans
unfolding Hulls read_span
other_read t spans false scalar h more = refl
other_read t [] true Scalar.Bool h more = refl
other_read t [] true Scalar.Int h more = refl
other_read t (x ∷ []) true scalar h more = absurd (more h.count)
other_read t (x ∷ (y ∷ zs)) true Scalar.Bool h more = refl
other_read t (x ∷ (y ∷ zs)) true Scalar.Int h more = refl

pub bool_read : (spans : List defined.Span) (scalar : Scalar) (own : Span) → scalar ≡ Scalar.Bool → plain_span own ≡ truth_span
    → Gives (Ok own) (read_span false scalar spans)
unfolding read_span is_too_far farthest_end absolute_of
bool_read spans Scalar.Bool own same known = (known, refl)
bool_read spans Scalar.Int own same known = absurd cc

pub int_read : (t : Hulled) (spans : List defined.Span) (scalar : Scalar) → scalar ≡ Scalar.Int → Hulls t spans
    → wide_span (interval_of t.reach) ≡ read_span false scalar spans
unfolding read_span
int_read t spans Scalar.Int same h = ap wide_span (hulls_reach t spans h)
int_read t spans Scalar.Bool same h = absurd cc

pub kept_gives : (s : defined.Span) (i : Interval) (own : Span) (ends : Ends) → i ≡ s.reach → plain_span own ≡ s → Keeps i (Ok ends) → Gives (Ok own) s
kept_gives s i own ends same known k = (known, ap (λ j. is_too_far (farthest_end j)) (sym same) ∙ k.1)

-- ---- numbers that are alike

least_same : (a : ℤ) (n : ℕ) (s : defined.Span) → s.reach.low ≡ a → fold int_min a (lows (reaches (replicate n s))) ≡ a
least_same a zero s h = refl
least_same a (suc n) s h = ap (λ b. fold int_min b (lows (reaches (replicate n s)))) (ap (int_min a) h ∙ once a) ∙ least_same a n s h
  where
    once : (a : ℤ) → int_min a a ≡ a
    once a = grind arith

greatest_same : (a : ℤ) (n : ℕ) (s : defined.Span) → s.reach.high ≡ a → fold int_max a (highs (reaches (replicate n s))) ≡ a
greatest_same a zero s h = refl
greatest_same a (suc n) s h = ap (λ b. fold int_max b (highs (reaches (replicate n s)))) (ap (int_max a) h ∙ once a) ∙ greatest_same a n s h
  where
    once : (a : ℤ) → int_max a a ≡ a
    once a = grind arith

hull_same : (n : ℕ) (s : defined.Span) → s.reach ≡ hull (reaches (replicate (suc n) s))
unfolding hull least_or_zero greatest_or_zero least_of greatest_of
hull_same n s =
    ap (λ a. from_to a s.reach.high) (sym (least_same s.reach.low n s refl))
    ∙ ap (from_to (fold int_min s.reach.low (lows (reaches (replicate n s))))) (sym (greatest_same s.reach.high n s refl))

pub hulls_same : (t : Hulled) (s : Span) (n : ℕ) → t.count ≢ 0 → t.count ≡ capped n → t.reach ≡ s.reach → t.first ≡ s → Hulls t (replicate n (plain_span s))
unfolding Hulls
hulls_same t s zero some count reach first = absurd (some count)
hulls_same t s (suc n) some count reach first = record {
  count = count ∙ ap (λ k. capped (suc k)) (sym (length-replicate n (plain_span s)));
  reach = ap interval_of reach ∙ hull_same n (plain_span s);
  first = ap plain_span first;
}

pub hulls_no : (t : Hulled) (s : Span) (k n : ℕ) → Hulls t [] → k ≡ 0 → k ≡ capped n → Hulls t (replicate n (plain_span s))
hulls_no t s k zero h none count = h
hulls_no t s k (suc n) h none count = absurd (omega (arith, none, count))
