-- Folded numbers, with one more at the end.
use Rattle.ep_size.proofs.Words.{◌≡◌, ℕ, ◌+◌, ◌*◌, ◌<◌, ◌^◌, Bool, true, false, List, [], ◌∷◌, ◌++◌, length, refl, sym, ap, subst, ◌∙◌, arith, Ok, Err, ℤ, fold, map, pos, Result, ◌||◌, ◌*ℤ◌, int_lt, cond, int_max, int_min, list_any, clamps, ints, length_push, or_assoc, or_from, or_left, or_right, Interval, farthest_end, from_to, greatest_interval, greatest_or_zero, highs, least_interval, least_or_zero, lows, only, product_interval, products_interval, spanned, width, absolute_of, greatest_of, least_of, MOST_NUMBER, is_too_far, farthest_of, first_products, fold_weight, folded_weight, folding_weight, sum_weight, folded_span, reaches, sum_span, truth_span, wide_span, FoldOp, plain_span, Gives, Chooses, Folds, GivesFold, Multiplies, RefusesFold, fold_reaches, greater, is_far_fold, is_far_reach, lesser, interval_of, Keeps, Sums, capped, SizeError, Limit, Memory, Chosen, Sum, Product, Truth, Least, Greatest, Multiplied, Summed}
use Rattle.ep_tree.specs.Reach as defined
use Rattle.ep_size.proofs.Caps.{product_kept}
use Rattle.ep_size.proofs.Measurings.{is_past, or_false, past_of}
use Rattle.ep_size.specs.declared.extents.Span.{Span}

-- ---- a fold from the first number on

fold_last : (step : Interval → Interval → Interval) (a : Interval) (spans : List defined.Span) (s : defined.Span)
    → fold step a (reaches (spans ++ s ∷ [])) ≡ step (fold step a (reaches spans)) s.reach
fold_last step a [] s = refl
fold_last step a (t ∷ spans) s = fold_last step (step a t.reach) spans s

weight_last : (step : Interval → Interval → Interval) (a : Interval) (spans : List defined.Span) (s : defined.Span)
    → folding_weight step a (spans ++ s ∷ []) ≡ folding_weight step a spans + width (fold step a (reaches spans)) * s.spread
unfolding folding_weight
weight_last step a [] s = omega arith
weight_last step a (t ∷ spans) s =
    ap (λ n. width a * t.spread + n) (weight_last step (step a t.reach) spans s) ∙ omega arith

-- no number
pub chooses_none : (step : Interval → Interval → Interval) (t : Chosen) → t.started ≡ false → interval_of t.ends ≡ only (pos 0) → t.weight ≡ 0 → Chooses step t []
unfolding Chooses
chooses_none step t started reach weight = record { started = started; reach = reach; weight = weight }

-- the first number
pub chooses_first : (step : Interval → Interval → Interval) (t u : Chosen) (spans : List defined.Span) (s : Span) → t.started ≡ false → Chooses step t spans
    → u.started ≡ true → u.ends ≡ s.reach → u.weight ≡ 0 → Chooses step u (spans ++ plain_span s ∷ [])
unfolding Chooses folding_weight
chooses_first step t u [] s none h started reach weight = record { started = started; reach = ap interval_of reach; weight = weight }
chooses_first step t u (x ∷ xs) s none h started reach weight = let two : true ≡ false = sym h.started ∙ none in absurd cc

-- one number more
pub chooses_next : (step : Interval → Interval → Interval) (t u : Chosen) (spans : List defined.Span) (s : Span) → t.started ≡ true → Chooses step t spans
    → u.started ≡ true → interval_of u.ends ≡ step (interval_of t.ends) (interval_of s.reach)
    → u.weight ≡ capped (capped t.weight + capped (capped (width (interval_of t.ends)) * capped s.spread)) → Chooses step u (spans ++ plain_span s ∷ [])
unfolding Chooses
chooses_next step t u [] s some h started reach weight = let two : true ≡ false = sym some ∙ h.started in absurd cc
chooses_next step t u (x ∷ xs) s some h started reach weight =
    let own : capped (capped (width (interval_of t.ends)) * capped s.spread) ≡ capped (width (fold step x.reach (reaches xs)) * s.spread) =
    product_kept (width (interval_of t.ends)) s.spread ∙ ap (λ i. capped (width i * s.spread)) h.reach in
    let last : folding_weight step x.reach (xs ++ plain_span s ∷ []) ≡ folding_weight step x.reach xs + width (fold step x.reach (reaches xs)) * s.spread =
    weight_last step x.reach xs (plain_span s) in
    record {
      started = started;
      reach = reach ∙ ap (λ i. step i (interval_of s.reach)) h.reach ∙ sym (fold_last step x.reach xs (plain_span s));
      weight = added u.weight t.weight _ (folding_weight step x.reach xs) (width (fold step x.reach (reaches xs)) * s.spread) _ weight own h.weight last;
    }
  where
    added : (u t p w o whole : ℕ) → u ≡ capped (capped t + p) → p ≡ capped o → t ≡ capped w → whole ≡ w + o → u ≡ capped whole
    added u t p w o whole e f g k = omega (arith, e, f, g, k)

pub chooses_weight : (step : Interval → Interval → Interval) (t : Chosen) (spans : List defined.Span) → Chooses step t spans → t.weight ≡ capped (fold_weight step spans)
unfolding Chooses fold_weight
chooses_weight step t [] h = h.weight
chooses_weight step t (x ∷ xs) h = h.weight

-- ---- the least and the greatest

fold_lesser : (i : Interval) (spans : List defined.Span)
    → fold lesser i (reaches spans) ≡ from_to (fold int_min i.low (lows (reaches spans))) (fold int_min i.high (highs (reaches spans)))
unfolding least_interval least_or_zero least_of
fold_lesser i [] = refl
fold_lesser i (t ∷ spans) = fold_lesser (from_to (int_min i.low t.reach.low) (int_min i.high t.reach.high)) spans

fold_greater : (i : Interval) (spans : List defined.Span)
    → fold greater i (reaches spans) ≡ from_to (fold int_max i.low (lows (reaches spans))) (fold int_max i.high (highs (reaches spans)))
unfolding greatest_interval greatest_or_zero greatest_of
fold_greater i [] = refl
fold_greater i (t ∷ spans) = fold_greater (from_to (int_max i.low t.reach.low) (int_max i.high t.reach.high)) spans

least_is : (t : Chosen) (spans : List defined.Span) → Chooses lesser t spans → interval_of t.ends ≡ least_interval (reaches spans)
unfolding Chooses least_interval least_or_zero least_of
least_is t [] h = h.reach
least_is t (x ∷ xs) h = h.reach ∙ fold_lesser x.reach xs

greatest_is : (t : Chosen) (spans : List defined.Span) → Chooses greater t spans → interval_of t.ends ≡ greatest_interval (reaches spans)
unfolding Chooses greatest_interval greatest_or_zero greatest_of
greatest_is t [] h = h.reach
greatest_is t (x ∷ xs) h = h.reach ∙ fold_greater x.reach xs

-- ---- products

min_comm : (a b : ℤ) → int_min a b ≡ int_min b a
min_comm a b = omega (arith, ints, clamps)

min_assoc : (a b c : ℤ) → int_min (int_min a b) c ≡ int_min a (int_min b c)
min_assoc a b c = omega (arith, ints, clamps)

max_comm : (a b : ℤ) → int_max a b ≡ int_max b a
max_comm a b = omega (arith, ints, clamps)

max_assoc : (a b c : ℤ) → int_max (int_max a b) c ≡ int_max a (int_max b c)
max_assoc a b c = omega (arith, ints, clamps)

spanned_swap : (p q r s : ℤ) → spanned (p ∷ q ∷ r ∷ s ∷ []) ≡ spanned (r ∷ s ∷ p ∷ q ∷ [])
unfolding spanned least_or_zero greatest_or_zero least_of greatest_of
spanned_swap p q r s =
    let low : int_min (int_min (int_min p q) r) s ≡ int_min (int_min (int_min r s) p) q =
    min_assoc (int_min p q) r s ∙ min_comm (int_min p q) (int_min r s) ∙ sym (min_assoc (int_min r s) p q) in
    let high : int_max (int_max (int_max p q) r) s ≡ int_max (int_max (int_max r s) p) q =
    max_assoc (int_max p q) r s ∙ max_comm (int_max p q) (int_max r s) ∙ sym (max_assoc (int_max r s) p q) in
    ap (λ n. from_to n (int_max (int_max (int_max p q) r) s)) low ∙ ap (from_to (int_min (int_min (int_min r s) p) q)) high

one_times_low : (l h : ℤ) → int_min (int_min (int_min (pos 1 *ℤ l) (pos 1 *ℤ h)) (pos 1 *ℤ l)) (pos 1 *ℤ h) ≡ int_min l h
one_times_low l h = omega (arith, ints, clamps)

one_times_high : (l h : ℤ) → int_max (int_max (int_max (pos 1 *ℤ l) (pos 1 *ℤ h)) (pos 1 *ℤ l)) (pos 1 *ℤ h) ≡ int_max l h
one_times_high l h = omega (arith, ints, clamps)

one_times : (i : Interval) → product_interval (only (pos 1)) i ≡ from_to (int_min i.low i.high) (int_max i.low i.high)
unfolding product_interval spanned least_or_zero greatest_or_zero least_of greatest_of
one_times i =
    ap (λ n. from_to n (int_max (int_max (int_max (pos 1 *ℤ i.low) (pos 1 *ℤ i.high)) (pos 1 *ℤ i.low)) (pos 1 *ℤ i.high))) (one_times_low i.low i.high)
    ∙ ap (from_to (int_min i.low i.high)) (one_times_high i.low i.high)

in_order : (l h : ℤ) (j : Interval) → product_interval (from_to (int_min l h) (int_max l h)) j ≡ product_interval (from_to l h) j
unfolding product_interval
in_order l h j = go (int_lt h l) (int_lt h l) refl
  where
    go : (a b : Bool) → a ≡ b
        → spanned ((cond a h l *ℤ j.low) ∷ (cond a h l *ℤ j.high) ∷ (cond b l h *ℤ j.low) ∷ (cond b l h *ℤ j.high) ∷ [])
        ≡ spanned ((l *ℤ j.low) ∷ (l *ℤ j.high) ∷ (h *ℤ j.low) ∷ (h *ℤ j.high) ∷ [])
    go true true e = spanned_swap (h *ℤ j.low) (h *ℤ j.high) (l *ℤ j.low) (l *ℤ j.high)
    go false false e = refl
    go true false e = absurd cc
    go false true e = absurd cc

-- a product with 1 in front multiplies as much
one_first : (i j : Interval) → product_interval (product_interval (only (pos 1)) i) j ≡ product_interval i j
one_first i j = ap (λ k. product_interval k j) (one_times i) ∙ in_order i.low i.high j

same_products : (i : Interval) (spans : List defined.Span) (j : Interval)
    → product_interval (fold product_interval (product_interval (only (pos 1)) i) (reaches spans)) j
    ≡ product_interval (fold product_interval i (reaches spans)) j
same_products i [] j = one_first i j
same_products i (t ∷ spans) j = ap (λ k. product_interval (fold product_interval k (reaches spans)) j) (one_first i t.reach)

-- the product so far and the fold so far make the same with one number more
pub multiplies_same : (t : Multiplied) (spans : List defined.Span) (j : Interval) → Multiplies t spans → t.chosen.started ≡ true
    → product_interval (interval_of t.whole) j ≡ product_interval (interval_of t.chosen.ends) j
unfolding Chooses products_interval
multiplies_same t [] j h some = let two : true ≡ false = sym some ∙ h.weighed.started in absurd cc
multiplies_same t (x ∷ xs) j h some =
    ap (λ k. product_interval k j) h.whole ∙ same_products x.reach xs j ∙ ap (λ k. product_interval k j) (sym h.weighed.reach)

-- products of the first numbers, one more of them
far_last : (a : Interval) (spans : List defined.Span) (s : defined.Span)
    → list_any is_far_reach (first_products a (reaches (spans ++ s ∷ [])))
    ≡ (list_any is_far_reach (first_products a (reaches spans)) || is_far_reach (product_interval (fold product_interval a (reaches spans)) s.reach))
unfolding first_products
far_last a [] s = sym (or_false (is_far_reach (product_interval a s.reach)))
far_last a (t ∷ spans) s =
    ap (λ b. is_far_reach (product_interval a t.reach) || b) (far_last (product_interval a t.reach) spans s)
    ∙ sym (or_assoc (is_far_reach (product_interval a t.reach)) (list_any is_far_reach (first_products (product_interval a t.reach) (reaches spans)))
    (is_far_reach (product_interval (fold product_interval (product_interval a t.reach) (reaches spans)) s.reach)))

-- a product of the first numbers that reaches too far
far_among : (a : Interval) (spans : List defined.Span) (s : defined.Span) (rest : List defined.Span)
    → is_far_reach (product_interval (fold product_interval a (reaches spans)) s.reach) ≡ true
    → list_any is_far_reach (first_products a (reaches (spans ++ s ∷ rest))) ≡ true
unfolding first_products
far_among a [] s rest h = or_left _ _ h
far_among a (t ∷ spans) s rest h = or_right _ _ (far_among (product_interval a t.reach) spans s rest h)

pub multiplies_none : (t : Multiplied) → interval_of t.whole ≡ only (pos 1) → Chooses product_interval t.chosen [] → Multiplies t []
unfolding products_interval first_products
multiplies_none t whole weighed = record { whole = whole; near = refl; weighed = weighed }

pub multiplies_more : (t u : Multiplied) (spans : List defined.Span) (s : Span) → Multiplies t spans
    → interval_of u.whole ≡ product_interval (interval_of t.whole) (interval_of s.reach)
    → is_far_reach (product_interval (interval_of t.whole) (interval_of s.reach)) ≡ false
    → Chooses product_interval u.chosen (spans ++ plain_span s ∷ []) → Multiplies u (spans ++ plain_span s ∷ [])
unfolding products_interval
multiplies_more t u spans s h whole near weighed = record {
  whole = whole ∙ ap (λ i. product_interval i (interval_of s.reach)) h.whole ∙ sym (fold_last product_interval (only (pos 1)) spans (plain_span s));
  near =
      far_last (only (pos 1)) spans (plain_span s)
      ∙ or_from _ _ h.near (ap (λ i. is_far_reach (product_interval i (interval_of s.reach))) (sym h.whole) ∙ near);
  weighed = weighed;
}

-- ---- what reaches too far

any_past : (is : List Interval) → list_any is_past (map farthest_end is) ≡ list_any is_far_reach is
unfolding is_too_far
any_past [] = refl
any_past (i ∷ is) = ap (λ b. is_far_reach i || b) (any_past is)

far_any : (is : List Interval) → int_lt MOST_NUMBER (farthest_of (map farthest_end is)) ≡ list_any is_far_reach is
far_any is = past_of (map farthest_end is) ∙ any_past is

product_far : (spans : List defined.Span)
    → is_far_fold FoldOp.Product spans
    ≡ (is_far_reach (folded_span FoldOp.Product spans).reach || list_any is_far_reach (first_products (only (pos 1)) (reaches spans)))
unfolding fold_reaches
product_far spans = far_any ((folded_span FoldOp.Product spans).reach ∷ first_products (only (pos 1)) (reaches spans))

-- a product is refused
pub product_refused : (t : Multiplied) (spans rest : List defined.Span) (s : Span) (e : SizeError) (i : Interval)
    → i ≡ product_interval (interval_of t.whole) (interval_of s.reach) → Keeps i (Err e) → Multiplies t spans
    → RefusesFold e FoldOp.Product (spans ++ plain_span s ∷ rest)
unfolding products_interval
product_refused t spans rest s Memory i same k h = tt
product_refused t spans rest s (Limit l) i same k h =
    let far : is_far_reach (product_interval (fold product_interval (only (pos 1)) (reaches spans)) (interval_of s.reach)) ≡ true =
    ap (λ j. is_far_reach (product_interval j (interval_of s.reach))) (sym h.whole) ∙ ap is_far_reach (sym same) ∙ k.1 in
    (k.0, product_far (spans ++ plain_span s ∷ rest) ∙ or_right _ _ (far_among (only (pos 1)) spans (plain_span s) rest far))

plain_gives : (op : FoldOp) (spans : List defined.Span) (r : Result Span SizeError) → Gives r (folded_span op spans)
    → is_far_fold op spans ≡ is_far_reach (folded_span op spans).reach → GivesFold r op spans
plain_gives op spans (Ok own) g e = (g.0, e ∙ g.1)
plain_gives op spans (Err (Limit l)) g e = (g.0, e ∙ g.1)
plain_gives op spans (Err Memory) g e = tt

alone_far : (i : Interval) → int_lt MOST_NUMBER (farthest_of (map farthest_end (i ∷ []))) ≡ is_far_reach i
alone_far i = far_any (i ∷ []) ∙ sym (or_false (is_far_reach i))

-- ---- what is known of folded numbers

pub sum_gives : (t : Summed) (op : FoldOp) (spans : List defined.Span) (r : Result Span SizeError) → Folds (Sum t) op spans
    → ((xs : List defined.Span) → Sums t xs → Gives r (sum_span xs)) → GivesFold r op spans
unfolding Folds folded_span fold_reaches
sum_gives t FoldOp.Sum spans r h g = plain_gives FoldOp.Sum spans r (g spans h) (alone_far (sum_span spans).reach)
sum_gives t FoldOp.Product spans r h g = absurd h
sum_gives t FoldOp.And spans r h g = absurd h
sum_gives t FoldOp.Or spans r h g = absurd h
sum_gives t FoldOp.Min spans r h g = absurd h
sum_gives t FoldOp.Max spans r h g = absurd h

pub product_gives : (t : Multiplied) (op : FoldOp) (spans : List defined.Span) (r : Result Span SizeError) → Folds (Product t) op spans
    → Gives r (wide_span (interval_of t.whole)) → GivesFold r op spans
unfolding Folds folded_span
product_gives t FoldOp.Product spans r h g =
    plain_gives FoldOp.Product spans r (subst (λ i. Gives r (wide_span i)) h.whole g)
    (product_far spans ∙ ap (λ b. is_far_reach (folded_span FoldOp.Product spans).reach || b) h.near ∙ sym (or_false _))
product_gives t FoldOp.Sum spans r h g = absurd h
product_gives t FoldOp.And spans r h g = absurd h
product_gives t FoldOp.Or spans r h g = absurd h
product_gives t FoldOp.Min spans r h g = absurd h
product_gives t FoldOp.Max spans r h g = absurd h

pub truth_gives : (n : ℕ) (op : FoldOp) (spans : List defined.Span) (own : Span) → Folds (Truth n) op spans → plain_span own ≡ truth_span
    → GivesFold (Ok own) op spans
unfolding Folds folded_span fold_reaches is_too_far farthest_end farthest_of absolute_of
truth_gives n FoldOp.And spans own h g = (g, refl)
truth_gives n FoldOp.Or spans own h g = (g, refl)
truth_gives n FoldOp.Sum spans own h g = absurd h
truth_gives n FoldOp.Product spans own h g = absurd h
truth_gives n FoldOp.Min spans own h g = absurd h
truth_gives n FoldOp.Max spans own h g = absurd h

pub least_gives : (t : Chosen) (op : FoldOp) (spans : List defined.Span) (r : Result Span SizeError) → Folds (Least t) op spans
    → Gives r (wide_span (interval_of t.ends)) → GivesFold r op spans
unfolding Folds folded_span fold_reaches
least_gives t FoldOp.Min spans r h g =
    plain_gives FoldOp.Min spans r (subst (λ i. Gives r (wide_span i)) (least_is t spans h) g) (alone_far (wide_span (least_interval (reaches spans))).reach)
least_gives t FoldOp.Sum spans r h g = absurd h
least_gives t FoldOp.Product spans r h g = absurd h
least_gives t FoldOp.And spans r h g = absurd h
least_gives t FoldOp.Or spans r h g = absurd h
least_gives t FoldOp.Max spans r h g = absurd h

pub greatest_gives : (t : Chosen) (op : FoldOp) (spans : List defined.Span) (r : Result Span SizeError) → Folds (Greatest t) op spans
    → Gives r (wide_span (interval_of t.ends)) → GivesFold r op spans
unfolding Folds folded_span fold_reaches
greatest_gives t FoldOp.Max spans r h g =
    plain_gives FoldOp.Max spans r (subst (λ i. Gives r (wide_span i)) (greatest_is t spans h) g) (alone_far (wide_span (greatest_interval (reaches spans))).reach)
greatest_gives t FoldOp.Sum spans r h g = absurd h
greatest_gives t FoldOp.Product spans r h g = absurd h
greatest_gives t FoldOp.And spans r h g = absurd h
greatest_gives t FoldOp.Or spans r h g = absurd h
greatest_gives t FoldOp.Min spans r h g = absurd h

-- ---- what folding weighs

pub sum_weighs : (t : Summed) (op : FoldOp) (spans : List defined.Span) (n : ℕ) → Folds (Sum t) op spans
    → ((xs : List defined.Span) → Sums t xs → n ≡ capped (sum_weight xs)) → n ≡ capped (folded_weight op spans)
unfolding Folds folded_weight
sum_weighs t FoldOp.Sum spans n h g = g spans h
sum_weighs t FoldOp.Product spans n h g = absurd h
sum_weighs t FoldOp.And spans n h g = absurd h
sum_weighs t FoldOp.Or spans n h g = absurd h
sum_weighs t FoldOp.Min spans n h g = absurd h
sum_weighs t FoldOp.Max spans n h g = absurd h

again : (n w x : ℕ) → n ≡ capped w → w ≡ capped x → n ≡ capped x
again n w x h k = omega (arith, h, k)

pub product_weighs : (t : Multiplied) (op : FoldOp) (spans : List defined.Span) (n : ℕ) → Folds (Product t) op spans → n ≡ capped t.chosen.weight
    → n ≡ capped (folded_weight op spans)
unfolding Folds folded_weight
product_weighs t FoldOp.Product spans n h g = again n t.chosen.weight _ g (chooses_weight product_interval t.chosen spans h.weighed)
product_weighs t FoldOp.Sum spans n h g = absurd h
product_weighs t FoldOp.And spans n h g = absurd h
product_weighs t FoldOp.Or spans n h g = absurd h
product_weighs t FoldOp.Min spans n h g = absurd h
product_weighs t FoldOp.Max spans n h g = absurd h

one_beside : (n p x : ℕ) → n ≡ capped (capped p + 1) → p ≡ capped x → n ≡ capped (x + 1)
one_beside n p x h k = omega (arith, h, k)

pub truth_weighs : (p : ℕ) (op : FoldOp) (spans : List defined.Span) (n : ℕ) → Folds (Truth p) op spans → n ≡ capped (capped p + 1)
    → n ≡ capped (folded_weight op spans)
unfolding Folds folded_weight
truth_weighs p FoldOp.And spans n h g = one_beside n p (length spans) g h
truth_weighs p FoldOp.Or spans n h g = one_beside n p (length spans) g h
truth_weighs p FoldOp.Sum spans n h g = absurd h
truth_weighs p FoldOp.Product spans n h g = absurd h
truth_weighs p FoldOp.Min spans n h g = absurd h
truth_weighs p FoldOp.Max spans n h g = absurd h

pub least_weighs : (t : Chosen) (op : FoldOp) (spans : List defined.Span) (n : ℕ) → Folds (Least t) op spans → n ≡ capped t.weight
    → n ≡ capped (folded_weight op spans)
unfolding Folds folded_weight
least_weighs t FoldOp.Min spans n h g = again n t.weight _ g (chooses_weight lesser t spans h)
least_weighs t FoldOp.Sum spans n h g = absurd h
least_weighs t FoldOp.Product spans n h g = absurd h
least_weighs t FoldOp.And spans n h g = absurd h
least_weighs t FoldOp.Or spans n h g = absurd h
least_weighs t FoldOp.Max spans n h g = absurd h

pub greatest_weighs : (t : Chosen) (op : FoldOp) (spans : List defined.Span) (n : ℕ) → Folds (Greatest t) op spans → n ≡ capped t.weight
    → n ≡ capped (folded_weight op spans)
unfolding Folds folded_weight
greatest_weighs t FoldOp.Max spans n h g = again n t.weight _ g (chooses_weight greater t spans h)
greatest_weighs t FoldOp.Sum spans n h g = absurd h
greatest_weighs t FoldOp.Product spans n h g = absurd h
greatest_weighs t FoldOp.And spans n h g = absurd h
greatest_weighs t FoldOp.Or spans n h g = absurd h
greatest_weighs t FoldOp.Min spans n h g = absurd h

-- ---- one number more

pub sum_adds : (t u : Summed) (op : FoldOp) (spans : List defined.Span) (s : defined.Span) → length spans + 1 < 2 ^ 64 → Folds (Sum t) op spans
    → ((xs : List defined.Span) → length xs + 1 < 2 ^ 64 → Sums t xs → Sums u (xs ++ s ∷ [])) → Folds (Sum u) op (spans ++ s ∷ [])
unfolding Folds
sum_adds t u FoldOp.Sum spans s few h g = g spans few h
sum_adds t u FoldOp.Product spans s few h g = absurd h
sum_adds t u FoldOp.And spans s few h g = absurd h
sum_adds t u FoldOp.Or spans s few h g = absurd h
sum_adds t u FoldOp.Min spans s few h g = absurd h
sum_adds t u FoldOp.Max spans s few h g = absurd h

pub product_adds : (t u : Multiplied) (op : FoldOp) (spans : List defined.Span) (s : defined.Span) → Folds (Product t) op spans
    → ((xs : List defined.Span) → Multiplies t xs → Multiplies u (xs ++ s ∷ [])) → Folds (Product u) op (spans ++ s ∷ [])
unfolding Folds
product_adds t u FoldOp.Product spans s h g = g spans h
product_adds t u FoldOp.Sum spans s h g = absurd h
product_adds t u FoldOp.And spans s h g = absurd h
product_adds t u FoldOp.Or spans s h g = absurd h
product_adds t u FoldOp.Min spans s h g = absurd h
product_adds t u FoldOp.Max spans s h g = absurd h

pub product_refuses : (t : Multiplied) (e : SizeError) (op : FoldOp) (spans rest : List defined.Span) (s : defined.Span) → Folds (Product t) op spans
    → ((xs ys : List defined.Span) → Multiplies t xs → RefusesFold e FoldOp.Product (xs ++ s ∷ ys)) → RefusesFold e op (spans ++ s ∷ rest)
unfolding Folds
product_refuses t e FoldOp.Product spans rest s h g = g spans rest h
product_refuses t e FoldOp.Sum spans rest s h g = absurd h
product_refuses t e FoldOp.And spans rest s h g = absurd h
product_refuses t e FoldOp.Or spans rest s h g = absurd h
product_refuses t e FoldOp.Min spans rest s h g = absurd h
product_refuses t e FoldOp.Max spans rest s h g = absurd h

one_counted : (p q : ℕ) (spans : List defined.Span) (s : defined.Span) → p ≡ capped (length spans) → q ≡ capped (capped p + 1) → q ≡ capped (length (spans ++ s ∷ []))
one_counted p q spans s h k = let more : length (spans ++ s ∷ []) ≡ length spans + 1 = length_push spans s in omega (arith, h, k, more)

pub truth_adds : (p q : ℕ) (op : FoldOp) (spans : List defined.Span) (s : defined.Span) → Folds (Truth p) op spans → q ≡ capped (capped p + 1)
    → Folds (Truth q) op (spans ++ s ∷ [])
unfolding Folds
truth_adds p q FoldOp.And spans s h g = one_counted p q spans s h g
truth_adds p q FoldOp.Or spans s h g = one_counted p q spans s h g
truth_adds p q FoldOp.Sum spans s h g = absurd h
truth_adds p q FoldOp.Product spans s h g = absurd h
truth_adds p q FoldOp.Min spans s h g = absurd h
truth_adds p q FoldOp.Max spans s h g = absurd h

pub least_adds : (t u : Chosen) (op : FoldOp) (spans : List defined.Span) (s : defined.Span) → Folds (Least t) op spans
    → ((xs : List defined.Span) → Chooses lesser t xs → Chooses lesser u (xs ++ s ∷ [])) → Folds (Least u) op (spans ++ s ∷ [])
unfolding Folds
least_adds t u FoldOp.Min spans s h g = g spans h
least_adds t u FoldOp.Sum spans s h g = absurd h
least_adds t u FoldOp.Product spans s h g = absurd h
least_adds t u FoldOp.And spans s h g = absurd h
least_adds t u FoldOp.Or spans s h g = absurd h
least_adds t u FoldOp.Max spans s h g = absurd h

pub greatest_adds : (t u : Chosen) (op : FoldOp) (spans : List defined.Span) (s : defined.Span) → Folds (Greatest t) op spans
    → ((xs : List defined.Span) → Chooses greater t xs → Chooses greater u (xs ++ s ∷ [])) → Folds (Greatest u) op (spans ++ s ∷ [])
unfolding Folds
greatest_adds t u FoldOp.Max spans s h g = g spans h
greatest_adds t u FoldOp.Sum spans s h g = absurd h
greatest_adds t u FoldOp.Product spans s h g = absurd h
greatest_adds t u FoldOp.And spans s h g = absurd h
greatest_adds t u FoldOp.Or spans s h g = absurd h
greatest_adds t u FoldOp.Min spans s h g = absurd h
