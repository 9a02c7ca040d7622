-- Sums of terms as they are gathered.
use Rattle.std.specs.Prelude.{◌≡◌, ℕ, zero, suc, ◌+◌, ◌*◌, ◌<◌, ◌⊎◌, List, [], ◌∷◌, ◌++◌, length, map, ℤ, pos, negsuc, ◌+ℤ◌, ◌*ℤ◌, neg_ℤ, Option, Some, None, option_map, slice_index_or, slice_set, refl}
use Rattle.std.proofs.Common.{ap, arith, inl, inr, subst, sym, take, ◌∙◌}
use Rattle.std.proofs.lemmas.Int.{ints}
use Rattle.std.proofs.Math.Nat.{mul_assoc}
use Rattle.std.specs.List.{All, Contains}
use Rattle.std.specs.Prelude.{◌≤◌, IfSome, OnOk, Ok, Err, Result}
use Rattle.std.proofs.lemmas.List.{map_more, map_push, map-append, take_all, take_more}
use Rattle.std.proofs.lemmas.List.Elements.{All-append, All-cons, All-push, All-contains, All-contains_itself, All-nil, All-set, All-weaker, Contains-append_cases, Contains-append_left, Contains-append_right}
use Rattle.ep_base.proofs.Small.{no_some, some_is}
use Rattle.ep_base.specs.Numbers.{sum_of}
use Rattle.ep_base.specs.Options.{on_both}
use Rattle.ep_base.specs.Reads.{IsWithinNumbers, weighted_sum}
use Rattle.ep_flatten.specs.Forms.{AreNumbersOf, IsFormOf, summed, form_parts, form_value}
use Rattle.ep_flatten.specs.Sums.{ComesFrom, Gathers, Joins, SumState, TakesIn, coefficients_in, multiplied, parts_total, terms_in}
use Rattle.ep_ground.specs.Grounds.{LeadsTo, itself}
use Rattle.ep_ground.specs.Nodes.{GroundNode}
use Rattle.ep_ground.specs.Terms.{node_value, term_value, weighed}

-- ---- numbers

half_negated : (a c : ℤ) → (a *ℤ neg_ℤ c) ≡ neg_ℤ (a *ℤ c)
half_negated a c = grind (arith, ints)

pub other_negated : (a c : ℤ) → (neg_ℤ a *ℤ c) ≡ neg_ℤ (a *ℤ c)
other_negated a c = grind (arith, ints)

times_third : (a b : ℕ) (c : ℤ) → ((pos a *ℤ pos b) *ℤ c) ≡ (pos a *ℤ (pos b *ℤ c))
times_third a b (pos c) = ap pos (mul_assoc a b c)
times_third a b (negsuc c) =
    half_negated (pos a *ℤ pos b) (pos (suc c)) ∙ ap (λ n. neg_ℤ (pos n)) (mul_assoc a b (suc c)) ∙ sym (half_negated (pos a) (pos b *ℤ pos (suc c)))
    ∙ ap (λ x. pos a *ℤ x) (sym (half_negated (pos b) (pos (suc c))))

times_second : (a : ℕ) (b c : ℤ) → ((pos a *ℤ b) *ℤ c) ≡ (pos a *ℤ (b *ℤ c))
times_second a (pos b) c = times_third a b c
times_second a (negsuc b) c =
    ap (λ x. x *ℤ c) (half_negated (pos a) (pos (suc b))) ∙ other_negated (pos a *ℤ pos (suc b)) c ∙ ap neg_ℤ (times_third a (suc b) c)
    ∙ sym (half_negated (pos a) (pos (suc b) *ℤ c)) ∙ ap (λ x. pos a *ℤ x) (sym (other_negated (pos (suc b)) c))

times_again : (a b c : ℤ) → ((a *ℤ b) *ℤ c) ≡ (a *ℤ (b *ℤ c))
times_again (pos a) b c = times_second a b c
times_again (negsuc a) b c =
    ap (λ x. x *ℤ c) (other_negated (pos (suc a)) b) ∙ other_negated (pos (suc a) *ℤ b) c ∙ ap neg_ℤ (times_second (suc a) b c)
    ∙ sym (other_negated (pos (suc a)) (b *ℤ c))

negated_sum : (x y : ℤ) → neg_ℤ (x +ℤ y) ≡ (neg_ℤ x +ℤ neg_ℤ y)
negated_sum x y = omega (arith, ints)

one_more : (a n : ℕ) → suc a * n ≡ n + a * n
one_more a n = omega arith

suc_times : (a : ℕ) (z : ℤ) → (pos (suc a) *ℤ z) ≡ (z +ℤ (pos a *ℤ z))
suc_times a (pos n) = ap pos (one_more a n)
suc_times a (negsuc n) =
    half_negated (pos (suc a)) (pos (suc n)) ∙ ap (λ m. neg_ℤ (pos m)) (one_more a (suc n)) ∙ negated_sum (pos (suc n)) (pos a *ℤ pos (suc n))
    ∙ ap (λ w. negsuc n +ℤ w) (sym (half_negated (pos a) (pos (suc n))))

zero_times : (z : ℤ) → (pos 0 *ℤ z) ≡ pos 0
zero_times z = omega (arith, ints)

mixed : (x y v w : ℤ) → ((x +ℤ y) +ℤ (v +ℤ w)) ≡ ((x +ℤ v) +ℤ (y +ℤ w))
mixed x y v w = omega (arith, ints)

both_same : {a b c d : ℤ} → a ≡ b → c ≡ d → (a +ℤ c) ≡ (b +ℤ d)
both_same {a} {b} {c} {d} e f = ap (λ x. x +ℤ c) e ∙ ap (λ x. b +ℤ x) f

spread_up : (a : ℕ) (x y : ℤ) → (pos a *ℤ (x +ℤ y)) ≡ ((pos a *ℤ x) +ℤ (pos a *ℤ y))
spread_up zero x y = zero_times (x +ℤ y) ∙ sym (both_same (zero_times x) (zero_times y))
spread_up (suc a) x y =
    suc_times a (x +ℤ y) ∙ ap (λ w. (x +ℤ y) +ℤ w) (spread_up a x y) ∙ mixed x y (pos a *ℤ x) (pos a *ℤ y)
    ∙ sym (both_same (suc_times a x) (suc_times a y))

spread : (k x y : ℤ) → (k *ℤ (x +ℤ y)) ≡ ((k *ℤ x) +ℤ (k *ℤ y))
spread (pos a) x y = spread_up a x y
spread (negsuc a) x y =
    other_negated (pos (suc a)) (x +ℤ y) ∙ ap neg_ℤ (spread_up (suc a) x y) ∙ negated_sum (pos (suc a) *ℤ x) (pos (suc a) *ℤ y)
    ∙ sym (both_same (other_negated (pos (suc a)) x) (other_negated (pos (suc a)) y))

swapped : (x y : ℤ) → (x *ℤ y) ≡ (y *ℤ x)
swapped x y = omega (arith, ints)

spread_left : (k m x : ℤ) → ((k +ℤ m) *ℤ x) ≡ ((k *ℤ x) +ℤ (m *ℤ x))
spread_left k m x = swapped (k +ℤ m) x ∙ spread x k m ∙ both_same (swapped x k) (swapped x m)

none_times : (k : ℤ) → pos 0 ≡ (k *ℤ pos 0)
none_times k = omega (arith, ints)

zero_more : (x : ℤ) → x ≡ (pos 0 +ℤ x)
zero_more x = omega (arith, ints)

more_zero : (x : ℤ) → x ≡ (x +ℤ pos 0)
more_zero x = omega (arith, ints)

grouped : (a b c : ℤ) → (a +ℤ (b +ℤ c)) ≡ ((a +ℤ b) +ℤ c)
grouped a b c = omega (arith, ints)

behind : (a b c : ℤ) → ((a +ℤ b) +ℤ c) ≡ ((a +ℤ c) +ℤ b)
behind a b c = omega (arith, ints)

-- ---- totals

total_append : (numbers : ℕ → ℤ) (ps qs : List (ℤ × ℕ)) → parts_total numbers (ps ++ qs) ≡ (parts_total numbers ps +ℤ parts_total numbers qs)
unfolding weighted_sum sum_of
total_append numbers [] qs = zero_more (parts_total numbers qs)
total_append numbers (p ∷ ps) qs =
    ap (λ x. (p.0 *ℤ numbers p.1) +ℤ x) (total_append numbers ps qs) ∙ grouped (p.0 *ℤ numbers p.1) (parts_total numbers ps) (parts_total numbers qs)

total_multiplied : (numbers : ℕ → ℤ) (k : ℤ) (ps : List (ℤ × ℕ)) → parts_total numbers (multiplied k ps) ≡ (k *ℤ parts_total numbers ps)
unfolding weighted_sum sum_of
total_multiplied numbers k [] = none_times k
total_multiplied numbers k (p ∷ ps) =
    ap (λ x. x +ℤ parts_total numbers (multiplied k ps)) (times_again k p.0 (numbers p.1))
    ∙ ap (λ x. (k *ℤ (p.0 *ℤ numbers p.1)) +ℤ x) (total_multiplied numbers k ps)
    ∙ sym (spread k (p.0 *ℤ numbers p.1) (parts_total numbers ps))

total_one : (numbers : ℕ → ℤ) (k : ℤ) (t : ℕ) → parts_total numbers ((k, t) ∷ []) ≡ (k *ℤ numbers t)
unfolding weighted_sum sum_of
total_one numbers k t = sym (more_zero (k *ℤ numbers t))

-- a part whose coefficient was raised
total_set : (numbers : ℕ → ℤ) (ps : List (ℤ × ℕ)) (i : ℕ) (p : ℤ × ℕ) (k : ℤ) → i < length ps → p ≡ slice_index_or ps i p
    → parts_total numbers (slice_set ps i (p.0 +ℤ k, p.1)) ≡ (parts_total numbers ps +ℤ (k *ℤ numbers p.1))
unfolding weighted_sum sum_of
total_set numbers [] i p k l e = absurd (omega (arith, l))
total_set numbers (q ∷ ps) zero p k l e =
    subst (λ r. (((p.0 +ℤ k) *ℤ numbers p.1) +ℤ parts_total numbers ps) ≡ (((r.0 *ℤ numbers r.1) +ℤ parts_total numbers ps) +ℤ (k *ℤ numbers p.1))) e
    (ap (λ x. x +ℤ parts_total numbers ps) (spread_left p.0 k (numbers p.1)) ∙ behind (p.0 *ℤ numbers p.1) (k *ℤ numbers p.1) (parts_total numbers ps))
total_set numbers (q ∷ ps) (suc i) p k l e =
    ap (λ x. (q.0 *ℤ numbers q.1) +ℤ x) (total_set numbers ps i p k (omega (arith, l)) e)
    ∙ grouped (q.0 *ℤ numbers q.1) (parts_total numbers ps) (k *ℤ numbers p.1)

terms_set : (ps : List (ℤ × ℕ)) (i : ℕ) (p : ℤ × ℕ) (s : ℤ) → i < length ps → p ≡ slice_index_or ps i p → terms_in (slice_set ps i (s, p.1)) ≡ terms_in ps
terms_set [] i p s l e = absurd (omega (arith, l))
terms_set (q ∷ ps) zero p s l e = ap (λ r. r.1 ∷ terms_in ps) e
terms_set (q ∷ ps) (suc i) p s l e = ap (λ ts. q.1 ∷ ts) (terms_set ps i p s (omega (arith, l)) e)

coefficients_set : (ps : List (ℤ × ℕ)) (i : ℕ) (s : ℤ) (t : ℕ) → coefficients_in (slice_set ps i (s, t)) ≡ slice_set (coefficients_in ps) i s
coefficients_set [] i s t = refl
coefficients_set (q ∷ ps) zero s t = refl
coefficients_set (q ∷ ps) (suc i) s t = ap (λ ks. q.0 ∷ ks) (coefficients_set ps i s t)

-- ---- elements

-- what holds of each element of a list holds of what is one
pub all_from : {X : Type 0} (P : X → Type 0) (xs : List X) → ((x : X) → Contains xs x → P x) → All P xs
all_from P xs f = All-weaker (Contains xs) P f xs (All-contains_itself xs)

all_of_each : {X : Type 0} (P : X → Type 0) (xs ys : List X) → ((x : X) → Contains xs x → Contains ys x) → All P ys → All P xs
all_of_each P xs ys f h = all_from P xs (λ x c. All-contains P ys x h (f x c))

one_there : (t u : ℕ) → Contains (t ∷ []) u → t ≡ u
one_there t u (zero, l, e) = e
one_there t u (suc k, l, e) = absurd (omega (arith, l))

nothing_there : {X : Type 0} {A : Type 0} (x : X) → Contains [] x → A
nothing_there x (k, l, e) = absurd (omega (arith, l))

-- ---- parts that take in others

pub takes_none : (ps : List (ℤ × ℕ)) → TakesIn [] ps ps
unfolding weighted_sum sum_of
takes_none ps = record {
  value = λ numbers. more_zero (parts_total numbers ps);
  kept = λ u c. c;
  came = λ u c. nothing_there u c;
  from = λ u c. inl c;
  small = λ h k. h;
}

takes_behind : (ps qs : List (ℤ × ℕ)) → TakesIn qs ps (ps ++ qs)
takes_behind ps qs =
    let terms : terms_in (ps ++ qs) ≡ terms_in ps ++ terms_in qs = map-append (λ p. p.1) ps qs in
    let coefficients : coefficients_in (ps ++ qs) ≡ coefficients_in ps ++ coefficients_in qs = map-append (λ p. p.0) ps qs in
    record {
      value = λ numbers. total_append numbers ps qs;
      kept = λ u c. subst (λ ts. Contains ts u) (sym terms) (Contains-append_left (terms_in ps) (terms_in qs) u c);
      came = λ u c. subst (λ ts. Contains ts u) (sym terms) (Contains-append_right (terms_in ps) (terms_in qs) u c);
      from = λ u c. Contains-append_cases (terms_in ps) (terms_in qs) u (subst (λ ts. Contains ts u) terms c);
      small = λ h k. subst (All IsWithinNumbers) (sym coefficients) (All-append IsWithinNumbers (coefficients_in ps) (coefficients_in qs) h k);
    }

-- one part more
pub takes_pushed : (ps new : List (ℤ × ℕ)) (k : ℤ) (t : ℕ) → new ≡ ps ++ (k, t) ∷ [] → TakesIn ((k, t) ∷ []) ps new
takes_pushed ps new k t e = subst (TakesIn ((k, t) ∷ []) ps) (sym e) (takes_behind ps ((k, t) ∷ []))

takes_raised : (ps : List (ℤ × ℕ)) (i : ℕ) (p : ℤ × ℕ) (k : ℤ) → i < length ps → p ≡ slice_index_or ps i p → IsWithinNumbers (p.0 +ℤ k) → TakesIn ((k, p.1) ∷ []) ps (slice_set ps i (p.0 +ℤ k, p.1))
takes_raised ps i p k l e within =
    let terms : terms_in (slice_set ps i (p.0 +ℤ k, p.1)) ≡ terms_in ps = terms_set ps i p (p.0 +ℤ k) l e in
    record {
      value = λ numbers. total_set numbers ps i p k l e ∙ ap (λ x. parts_total numbers ps +ℤ x) (sym (total_one numbers k p.1));
      kept = λ u c. subst (λ ts. Contains ts u) (sym terms) c;
      came = λ u c. subst (λ ts. Contains ts u) (sym terms) (subst (Contains (terms_in ps)) (one_there p.1 u c) (term_in ps i p l e));
      from = λ u c. inl (subst (λ ts. Contains ts u) terms c);
      small = λ h _. subst (All IsWithinNumbers) (sym (coefficients_set ps i (p.0 +ℤ k) p.1)) (All-set IsWithinNumbers (coefficients_in ps) i (p.0 +ℤ k) within h);
    }
  where
    term_in : (ps : List (ℤ × ℕ)) (i : ℕ) (p : ℤ × ℕ) → i < length ps → p ≡ slice_index_or ps i p → Contains (terms_in ps) p.1
    term_in [] i p l e = absurd (omega (arith, l))
    term_in (q ∷ ps) zero p l e = (0, omega arith, ap (λ r. r.1) (sym e))
    term_in (q ∷ ps) (suc i) p l e = Contains-append_right (q.1 ∷ []) (terms_in ps) p.1 (term_in ps i p (omega (arith, l)) e)

-- one part with a greater coefficient
pub takes_merged : (ps new : List (ℤ × ℕ)) (i : ℕ) (p : ℤ × ℕ) (k s : ℤ) (t : ℕ) → i < length ps → p ≡ slice_index_or ps i p → p.1 ≡ t → s ≡ (p.0 +ℤ k) → IsWithinNumbers s → new ≡ slice_set ps i (s, p.1)
    → TakesIn ((k, t) ∷ []) ps new
takes_merged ps new i p k s t l e same is within now =
    subst (TakesIn ((k, t) ∷ []) ps) (sym (now ∙ ap (λ x. slice_set ps i (x, p.1)) is))
    (subst (λ u. TakesIn ((k, u) ∷ []) ps (slice_set ps i (p.0 +ℤ k, p.1))) same (takes_raised ps i p k l e (subst IsWithinNumbers is within)))

-- some parts, and others behind them
pub takes_more : (ps qs start old new : List (ℤ × ℕ)) → TakesIn ps start old → TakesIn qs old new → TakesIn (ps ++ qs) start new
takes_more ps qs start old new h k =
    let terms : terms_in (ps ++ qs) ≡ terms_in ps ++ terms_in qs = map-append (λ p. p.1) ps qs in
    let coefficients : coefficients_in (ps ++ qs) ≡ coefficients_in ps ++ coefficients_in qs = map-append (λ p. p.0) ps qs in
    record {
      value = λ numbers.
          k.value numbers ∙ ap (λ x. x +ℤ parts_total numbers qs) (h.value numbers)
          ∙ sym (grouped (parts_total numbers start) (parts_total numbers ps) (parts_total numbers qs))
          ∙ ap (λ x. parts_total numbers start +ℤ x) (sym (total_append numbers ps qs));
      kept = λ u c. k.kept u (h.kept u c);
      came = λ u c. elim (Contains-append_cases (terms_in ps) (terms_in qs) u (subst (λ ts. Contains ts u) terms c)) as (λ _. Contains (terms_in new) u) [
        | inl one ↦ k.kept u (h.came u one)
        | inr other ↦ k.came u other
      ];
      from = λ u c. elim (k.from u c) as (λ _. Contains (terms_in start) u ⊎ Contains (terms_in (ps ++ qs)) u) [
        | inl was ↦ elim (h.from u was) as (λ _. Contains (terms_in start) u ⊎ Contains (terms_in (ps ++ qs)) u) [
          | inl there ↦ inl there
          | inr one ↦ inr (subst (λ ts. Contains ts u) (sym terms) (Contains-append_left (terms_in ps) (terms_in qs) u one))
        ]
        | inr other ↦ inr (subst (λ ts. Contains ts u) (sym terms) (Contains-append_right (terms_in ps) (terms_in qs) u other))
      ];
      small = λ a b.
          let both : All IsWithinNumbers (coefficients_in ps ++ coefficients_in qs) = subst (All IsWithinNumbers) coefficients b in
          k.small (h.small a (left_of (coefficients_in ps) (coefficients_in qs) both)) (right_of (coefficients_in ps) (coefficients_in qs) both);
    }
  where
    left_of : (xs ys : List ℤ) → All IsWithinNumbers (xs ++ ys) → All IsWithinNumbers xs
    left_of xs ys h = all_of_each IsWithinNumbers xs (xs ++ ys) (λ x c. Contains-append_left xs ys x c) h

    right_of : (xs ys : List ℤ) → All IsWithinNumbers (xs ++ ys) → All IsWithinNumbers ys
    right_of xs ys h = all_of_each IsWithinNumbers ys (xs ++ ys) (λ x c. Contains-append_right xs ys x c) h

-- a step of a loop over parts
pub takes_step : (start old new parts : List (ℤ × ℕ)) (i : ℕ) (p : ℤ × ℕ) (k : ℤ) → i < length parts → p ≡ slice_index_or parts i p → k ≡ p.0 → TakesIn (take i parts) start old → TakesIn ((k, p.1) ∷ []) old new → TakesIn (take (i + 1) parts) start new
takes_step start old new parts i p k l is e h one =
    subst (λ ps. TakesIn ps start new) (ap (λ q. take i parts ++ q ∷ []) is ∙ sym (take_more parts i p l))
    (takes_more (take i parts) (p ∷ []) start old new h (subst (λ m. TakesIn ((m, p.1) ∷ []) old new) e one))

pub takes_all : (start new parts : List (ℤ × ℕ)) (i : ℕ) → length parts ≤ i → TakesIn (take i parts) start new → TakesIn parts start new
takes_all start new parts i l h = subst (λ ps. TakesIn ps start new) (take_all i parts l) h

-- parts with their coefficients multiplied, as a loop makes them
pub multiplied_step : (k : ℤ) (parts : List (ℤ × ℕ)) (i : ℕ) (p : ℤ × ℕ) (q : ℤ) (made new : List (ℤ × ℕ)) → i < length parts → p ≡ slice_index_or parts i p → made ≡ multiplied k (take i parts) → q ≡ (k *ℤ p.0) → new ≡ made ++ (q, p.1) ∷ []
    → new ≡ multiplied k (take (i + 1) parts)
multiplied_step k parts i p q made new l is was product now =
    now ∙ ap (λ ps. ps ++ (q, p.1) ∷ []) was ∙ ap (λ x. multiplied k (take i parts) ++ (x, p.1) ∷ []) product
    ∙ ap (λ (r : ℤ × ℕ). multiplied k (take i parts) ++ (k *ℤ r.0, r.1) ∷ []) is ∙ sym (map_more {X = ℤ × ℕ} {Y = ℤ × ℕ} (λ r. (k *ℤ r.0, r.1)) parts i p l)

pub multiplied_all : (k m : ℤ) (parts made : List (ℤ × ℕ)) (i : ℕ) → length parts ≤ i → k ≡ m → made ≡ multiplied k (take i parts) → made ≡ multiplied m parts
multiplied_all k m parts made i l e h = h ∙ ap (multiplied k) (take_all i parts l) ∙ ap (λ n. multiplied n parts) e

pub small_step : (made new : List (ℤ × ℕ)) (q : ℤ) (t : ℕ) → new ≡ made ++ (q, t) ∷ [] → All IsWithinNumbers (coefficients_in made) → IsWithinNumbers q → All IsWithinNumbers (coefficients_in new)
small_step made new q t e h k =
    subst (All IsWithinNumbers) (sym (ap coefficients_in e ∙ map_push (λ p. p.0) made (q, t))) (All-push IsWithinNumbers (coefficients_in made) q h k)

-- ---- results

pub on_ok_both : {A E : Type 0} {P Q R : Type 0} (r : Result A E) → OnOk r P → OnOk r Q → (P → Q → R) → OnOk r R
on_ok_both (Ok a) p q f = f p q
on_ok_both (Err e) p q f = tt

pub if_some : {A : Type 0} (P : A → Type 0) (o : Option A) (a : A) → o ≡ Some a → IfSome o P → P a
if_some P o a e h = subst (λ x. IfSome x P) e h

-- ---- sums that take in terms

-- a term as a part
pub joins_term : (nodes : List GroundNode) (k : ℤ) (t : ℕ) (n m : ℤ) (old new : List (ℤ × ℕ)) → m ≡ n → TakesIn ((k, t) ∷ []) old new → Joins nodes k t (record { number = n; parts = old }) (record { number = m; parts = new })
joins_term nodes k t n m old new e h = record {
  value = λ cells numbers have. (
    numbers t,
    All-contains (λ u. term_value nodes cells u ≡ Some (numbers u)) (terms_in new) t have (h.came t (0, omega arith, refl)),
    ap (λ c. c +ℤ parts_total numbers new) e ∙ ap (λ x. n +ℤ x) (h.value numbers ∙ ap (λ x. parts_total numbers old +ℤ x) (total_one numbers k t))
        ∙ grouped n (parts_total numbers old) (k *ℤ numbers t),
  );
  kept = h.kept;
  from = λ u c. elim (h.from u c) as (λ _. Contains (terms_in old) u ⊎ ((u < t + 1) × LeadsTo nodes t u)) [
    | inl was ↦ inl was
    | inr came ↦ inr (subst (λ v. (v < t + 1) × LeadsTo nodes t v) (one_there t u came) (omega arith, itself t))
  ];
  small = λ a b. h.small b (All-cons IsWithinNumbers k [] a (All-nil IsWithinNumbers));
}

-- parts that have these numbers have values
pub weighed_numbers : (numbers : ℕ → ℤ) (ps : List (ℤ × ℕ)) → weighed (λ p. Some (numbers p)) ps ≡ Some (map (λ p. (p.0, numbers p.1)) ps)
unfolding weighed on_both
weighed_numbers numbers [] = refl
weighed_numbers numbers (q ∷ ps) =
    ap (λ o. on_both {A = ℤ} {B = List (ℤ × ℤ)} (Some (numbers q.1)) o (λ x rest. Some ((q.0, x) ∷ rest))) (weighed_numbers numbers ps)

pub sum_numbers : (cells : List ℤ) (numbers : ℕ → ℤ) (node : GroundNode) (c : ℤ) (ps : List (ℤ × ℕ)) → form_value cells (λ p. Some (numbers p)) node (summed c ps) ≡ Some (c +ℤ parts_total numbers ps)
unfolding form_value node_value
sum_numbers cells numbers node c ps = ap (option_map (λ qs. c +ℤ weighted_sum qs)) (weighed_numbers numbers ps)

terms_multiplied : (k : ℤ) (ps : List (ℤ × ℕ)) → terms_in (multiplied k ps) ≡ terms_in ps
terms_multiplied k [] = refl
terms_multiplied k (p ∷ ps) = ap (λ ts. p.1 ∷ ts) (terms_multiplied k ps)

balanced : (n k c w s x : ℤ) → x ≡ (c +ℤ w) → s ≡ (k *ℤ w) → (p : ℤ) → p ≡ (k *ℤ c) → (q : ℤ) → q ≡ (k *ℤ x) → (old : ℤ) → ((n +ℤ p) +ℤ (old +ℤ s)) ≡ ((n +ℤ old) +ℤ q)
balanced n k c w s x e f p g q h old =
    let product : q ≡ (p +ℤ s) = h ∙ ap (λ y. k *ℤ y) e ∙ spread k c w ∙ ap (λ y. y +ℤ (k *ℤ w)) (sym g) ∙ ap (λ y. p +ℤ y) (sym f) in
    omega (arith, ints, product)

-- a term that is a sum, by its parts
pub joins_sum : (nodes : List GroundNode) (k : ℤ) (t : ℕ) (node : GroundNode) (c : ℤ) (ps more : List (ℤ × ℕ)) (n m : ℤ) (old new : List (ℤ × ℕ)) → IsFormOf nodes t node (summed c ps) → more ≡ multiplied k ps → All IsWithinNumbers (coefficients_in more)
    → TakesIn more old new → m ≡ (n +ℤ (k *ℤ c)) → Joins nodes k t (record { number = n; parts = old }) (record { number = m; parts = new })
unfolding form_parts
joins_sum nodes k t node c ps more n m old new form e within h now =
    let terms : terms_in more ≡ terms_in ps = ap terms_in e ∙ terms_multiplied k ps in
    record {
      value = λ cells numbers have.
          let theirs : AreNumbersOf (term_value nodes cells) numbers (terms_in ps) = all_of_each (λ u. term_value nodes cells u ≡ Some (numbers u)) (terms_in ps) (terms_in new) (λ u found. h.came u (subst (λ ts. Contains ts u) (sym terms) found)) have in (
            c +ℤ parts_total numbers ps,
            form.value cells numbers theirs ∙ sum_numbers cells numbers node c ps,
            ap (λ x. x +ℤ parts_total numbers new) now ∙ ap (λ x. (n +ℤ (k *ℤ c)) +ℤ x) (h.value numbers)
                ∙ balanced n k c (parts_total numbers ps) (parts_total numbers more) (c +ℤ parts_total numbers ps) refl (ap (parts_total numbers) e ∙ total_multiplied numbers k ps) (k *ℤ c) refl (k *ℤ (c +ℤ parts_total numbers ps)) refl (parts_total numbers old),
          );
      kept = h.kept;
      from = λ u found. elim (h.from u found) as (λ _. Contains (terms_in old) u ⊎ ((u < t + 1) × LeadsTo nodes t u)) [
        | inl was ↦ inl was
        | inr came ↦
            let part : Contains (terms_in ps) u = subst (λ ts. Contains ts u) terms came in
            let less : u < t = All-contains (λ p. p < t) (terms_in ps) u form.before part in
            inr (omega (arith, less), All-contains (LeadsTo nodes t) (terms_in ps) u form.leads part)
      ];
      small = λ a b. h.small b within;
    }

-- ---- sums that gather parts

pub gathers_none : (nodes : List GroundNode) (c : ℤ) (s : SumState) → s.number ≡ c → s.parts ≡ [] → Gathers nodes c [] s
unfolding weighted_sum sum_of weighed
gathers_none nodes c s e f = record {
  value = λ cells numbers have. ([], refl, ap (λ x. x +ℤ parts_total numbers s.parts) e ∙ ap (λ ps. c +ℤ parts_total numbers ps) f);
  from = λ u found. nothing_there u (subst (λ ps. Contains (terms_in ps) u) f found);
  small = λ h. subst (λ ps. All IsWithinNumbers (coefficients_in ps)) (sym f) (All-nil IsWithinNumbers);
}

weighed_more : (value : ℕ → Option ℤ) (done : List (ℤ × ℕ)) (qs : List (ℤ × ℤ)) (k : ℤ) (t : ℕ) (x : ℤ) → weighed value done ≡ Some qs → value t ≡ Some x → weighed value (done ++ (k, t) ∷ []) ≡ Some (qs ++ (k, x) ∷ [])
unfolding weighed on_both
weighed_more value [] qs k t x e f =
    ap (λ (o : Option ℤ). on_both {A = ℤ} {B = List (ℤ × ℤ)} o (Some []) (λ y rest. Some ((k, y) ∷ rest))) f ∙ ap (λ (ys : List (ℤ × ℤ)). Some (ys ++ (k, x) ∷ [])) (some_is e)
weighed_more value (p ∷ done) qs k t x e f = by (value p.1) (weighed value done) refl e (λ rest g. weighed_more value done rest k t x g f)
  where
    by : (a : Option ℤ) (o : Option (List (ℤ × ℤ))) → weighed value done ≡ o → on_both {A = ℤ} {B = List (ℤ × ℤ)} a o (λ y rest. Some ((p.0, y) ∷ rest)) ≡ Some qs
        → ((rest : List (ℤ × ℤ)) → weighed value done ≡ Some rest → weighed value (done ++ (k, t) ∷ []) ≡ Some (rest ++ (k, x) ∷ []))
        → on_both {A = ℤ} {B = List (ℤ × ℤ)} a (weighed value (done ++ (k, t) ∷ [])) (λ y rest. Some ((p.0, y) ∷ rest)) ≡ Some (qs ++ (k, x) ∷ [])
    by None o g h more = no_some h
    by (Some a) None g h more = no_some h
    by (Some a) (Some rest) g h more =
        ap (λ (o : Option (List (ℤ × ℤ))). on_both {A = ℤ} {B = List (ℤ × ℤ)} (Some a) o (λ y rest. Some ((p.0, y) ∷ rest))) (more rest g)
        ∙ ap (λ (ys : List (ℤ × ℤ)). Some (ys ++ (k, x) ∷ [])) (some_is h)

sum_more : (qs : List (ℤ × ℤ)) (k x : ℤ) → weighted_sum (qs ++ (k, x) ∷ []) ≡ (weighted_sum qs +ℤ (k *ℤ x))
unfolding weighted_sum sum_of
sum_more [] k x = omega (arith, ints)
sum_more (q ∷ qs) k x = ap (λ y. (q.0 *ℤ q.1) +ℤ y) (sum_more qs k x) ∙ grouped (q.0 *ℤ q.1) (weighted_sum qs) (k *ℤ x)

pub gathers_more : (nodes : List GroundNode) (c : ℤ) (done : List (ℤ × ℕ)) (k : ℤ) (t : ℕ) (old new : SumState) → Gathers nodes c done old → Joins nodes k t old new → Gathers nodes c (done ++ (k, t) ∷ []) new
gathers_more nodes c done k t old new h j =
    let terms : terms_in (done ++ (k, t) ∷ []) ≡ terms_in done ++ t ∷ [] = map-append (λ p. p.1) done ((k, t) ∷ []) in
    let coefficients : coefficients_in (done ++ (k, t) ∷ []) ≡ coefficients_in done ++ k ∷ [] = map-append (λ p. p.0) done ((k, t) ∷ []) in
    record {
      value = λ cells numbers have.
          let one = j.value cells numbers have in
          let was = h.value cells numbers (all_of_each (λ u. term_value nodes cells u ≡ Some (numbers u)) (terms_in old.parts) (terms_in new.parts) j.kept have) in (
            was.0 ++ (k, one.0) ∷ [],
            weighed_more (term_value nodes cells) done was.0 k t one.0 was.1 one.1,
            one.2 ∙ ap (λ x. x +ℤ (k *ℤ one.0)) was.2 ∙ sym (grouped c (weighted_sum was.0) (k *ℤ one.0)) ∙ ap (λ x. c +ℤ x) (sym (sum_more was.0 k one.0)),
          );
      from = λ u found. elim (j.from u found) as (λ _. ComesFrom nodes (done ++ (k, t) ∷ []) u) [
        | inl there ↦
            let before = h.from u there in
            record { part = before.part; found = subst (λ ts. Contains ts before.part) (sym terms) (Contains-append_left (terms_in done) (t ∷ []) before.part before.found); before = before.before; leads = before.leads }
        | inr came ↦ record { part = t; found = subst (λ ts. Contains ts t) (sym terms) (Contains-append_right (terms_in done) (t ∷ []) t (0, omega arith, refl)); before = came.0; leads = came.1 }
      ];
      small = λ all.
          let both : All IsWithinNumbers (coefficients_in done ++ k ∷ []) = subst (All IsWithinNumbers) coefficients all in
          j.small (All-contains IsWithinNumbers (coefficients_in done ++ k ∷ []) k both (Contains-append_right (coefficients_in done) (k ∷ []) k (0, omega arith, refl)))
          (h.small (all_of_each IsWithinNumbers (coefficients_in done) (coefficients_in done ++ k ∷ []) (λ x found. Contains-append_left (coefficients_in done) (k ∷ []) x found) both));
    }

-- a step of a loop over parts
pub gathers_step : (nodes : List GroundNode) (c : ℤ) (parts : List (ℤ × ℕ)) (i : ℕ) (p : ℤ × ℕ) (k : ℤ) (old new : SumState) → i < length parts → p ≡ slice_index_or parts i p → k ≡ p.0 → Gathers nodes c (take i parts) old → Joins nodes k p.1 old new
    → Gathers nodes c (take (i + 1) parts) new
gathers_step nodes c parts i p k old new l is e h j =
    subst (λ ps. Gathers nodes c ps new) (ap (λ q. take i parts ++ q ∷ []) is ∙ sym (take_more parts i p l))
    (gathers_more nodes c (take i parts) p.0 p.1 old new h (subst (λ m. Joins nodes m p.1 old new) e j))

pub gathers_all : (nodes : List GroundNode) (c : ℤ) (parts : List (ℤ × ℕ)) (i : ℕ) (s : SumState) → length parts ≤ i → Gathers nodes c (take i parts) s → Gathers nodes c parts s
gathers_all nodes c parts i s l h = subst (λ ps. Gathers nodes c ps s) (take_all i parts l) h
