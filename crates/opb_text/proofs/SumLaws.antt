-- What sums of terms and of flat variables come to.
use Rattle.std.proofs.Common.{◌≡◌, inl, inr, ℕ, zero, suc, ◌+◌, ◌<◌, ◌≤◌, ℤ, pos, negsuc, neg_ℤ, ◌+ℤ◌, ◌-ℤ◌, ◌*ℤ◌, ◌≤ℤ◌, Bool, true, false, eqb, if◌then◌else◌, List, [], ◌∷◌, ◌++◌, length, map, take, drop, get_or, refl, sym, ap, subst, ◌∙◌, arith}
use Rattle.std.specs.Prelude.{sum_by, unsigned_abs}
use Rattle.std.specs.List.{All, AllPairs}
use Rattle.std.specs.List.Sorted.{IsPermutation}
use Rattle.std.proofs.lemmas.Bool.Decides.{nat_tests}
use Rattle.std.proofs.lemmas.Int.{ints}
use Rattle.std.proofs.lemmas.List.{append-nil, map-append, take_more, take-append-drop}
use Rattle.std.proofs.lemmas.List.Elements.{All-append, All-push, All-nil}
use Rattle.std.proofs.lemmas.List.Sorted.{sum_by-IsPermutation, All-permutation}
use Rattle.std.proofs.lemmas.List.Sums.{sum_by-append, sum_by-cons, sum_by_push}
use Rattle.ep_base.specs.Numbers.{of_bool, is_one, sum_of}
use Rattle.ep_base.specs.Reads.{IsWithinNumbers, weighted_sum}
use Rattle.ep_base.specs.Runs.{or_zero}
use Rattle.ep_flat.specs.Cons.{number_at}
use Rattle.opb_text.specs.declared.content.OpbTerm.{OpbTerm}
use Rattle.opb_text.specs.Flats.{truths_of}
use Rattle.opb_text.specs.Solutions.{literal_value, terms_total}
use Rattle.opb_text.specs.Sums.{AreBitsOf, PartsComeTo, IsFactorValue, base_of, coefficient_of, IsSumOf, IsBit, NamesUpTo, TakesInPart, parts_reach, opb_parts_total}
use Rattle.opb_text.specs.Weights.{factors_reach}

-- ---- sums

pub sum_push : (xs : List ℤ) (y : ℤ) → sum_of (xs ++ y ∷ []) ≡ (sum_of xs +ℤ y)
unfolding sum_of
sum_push [] y = omega (arith, ints)
sum_push (x ∷ xs) y = let inner = sum_push xs y in omega (arith, ints, inner)

-- what a part counts
abbrev pub worth : List ℤ → ℤ × ℕ → ℤ
worth values p = p.0 *ℤ number_at values p.1

pub total_is : (values : List ℤ) (parts : List (ℤ × ℕ)) → opb_parts_total values parts ≡ sum_of (map (worth values) parts)
unfolding weighted_sum sum_of
total_is values [] = refl
total_is values (p ∷ parts) = ap (λ (n : ℤ). worth values p +ℤ n) (total_is values parts)

pub total_push : (values : List ℤ) (parts : List (ℤ × ℕ)) (p : ℤ × ℕ) → opb_parts_total values (parts ++ p ∷ []) ≡ (opb_parts_total values parts +ℤ worth values p)
total_push values parts p =
    total_is values (parts ++ p ∷ []) ∙ ap sum_of (map-append (worth values) parts (p ∷ [])) ∙ sum_push (map (worth values) parts) (worth values p)
    ∙ ap (λ (n : ℤ). n +ℤ worth values p) (sym (total_is values parts))

pub terms_push : (truths : ℕ → Bool) (terms : List OpbTerm) (t : OpbTerm) → terms_total truths (terms ++ t ∷ []) ≡ (terms_total truths terms +ℤ (t.factor *ℤ literal_value truths t))
terms_push truths terms t =
    ap sum_of (map-append (λ u. u.factor *ℤ literal_value truths u) terms (t ∷ [])) ∙ sum_push (map (λ u. u.factor *ℤ literal_value truths u) terms) (t.factor *ℤ literal_value truths t)

-- ---- the variable at a place

pub truths_at : (vars : List ℕ) (values : List ℤ) (place var : ℕ) → AllPairs ◌<◌ vars → place < length vars → length values ≡ length vars → get_or vars place 0 ≡ var → truths_of vars values var ≡ is_one (number_at values place)
unfolding number_at
truths_at [] values place var up lt long is = absurd (omega arith)
truths_at (x ∷ vars) [] place var up lt long is = absurd (omega (arith, long))
truths_at (x ∷ vars) (v ∷ values) zero var up lt long is = let same : eqb x var ≡ true = grind (arith, nat_tests) in rw same refl
truths_at (x ∷ vars) (v ∷ values) (suc place) var up lt long is =
    let less : x < get_or vars place 0 = up 0 (suc place) 0 (omega arith) (omega (arith, lt)) in
    let other : eqb x var ≡ false = grind (arith, nat_tests) in
    rw other (truths_at vars values place var (λ i j d low high. up (suc i) (suc j) d (omega arith) (omega arith)) (omega (arith, lt)) (omega (arith, long)) is)

pub truth_is : (n : ℤ) → IsBit n → of_bool (is_one n) ≡ n
unfolding of_bool is_one
truth_is n (inl is) = subst (λ (m : ℤ). of_bool (is_one m) ≡ m) (sym is) refl
truth_is n (inr is) = subst (λ (m : ℤ). of_bool (is_one m) ≡ m) (sym is) refl

-- the number of a variable is 0 or 1, also of one that isn't there
pub truth_at : (values : List ℤ) (place : ℕ) → All IsBit values → IsBit (number_at values place)
unfolding number_at
truth_at [] place all = inl refl
truth_at (v ∷ values) zero all = all 0 (pos 0) (omega arith)
truth_at (v ∷ values) (suc place) all = truth_at values place (λ k d lt. all (suc k) d (omega arith))

-- ---- one more term

plain_worth : (truths : ℕ → Bool) (t : OpbTerm) (n : ℤ) → t.negated ≡ false → of_bool (truths t.var) ≡ n → (t.factor *ℤ literal_value truths t) ≡ (t.factor *ℤ n)
plain_worth truths t n plain is = rw plain (ap (λ (m : ℤ). t.factor *ℤ m) is)

other_worth : (f n : ℤ) → IsBit n → (f *ℤ (pos 1 -ℤ n)) ≡ (f +ℤ (neg_ℤ f *ℤ n))
other_worth f n (inl is) = subst (λ (m : ℤ). (f *ℤ (pos 1 -ℤ m)) ≡ (f +ℤ (neg_ℤ f *ℤ m))) (sym is) (omega (arith, ints))
other_worth f n (inr is) = subst (λ (m : ℤ). (f *ℤ (pos 1 -ℤ m)) ≡ (f +ℤ (neg_ℤ f *ℤ m))) (sym is) (omega (arith, ints))

negated_worth : (truths : ℕ → Bool) (t : OpbTerm) (n : ℤ) → t.negated ≡ true → of_bool (truths t.var) ≡ n → IsBit n → (t.factor *ℤ literal_value truths t) ≡ (t.factor +ℤ (neg_ℤ t.factor *ℤ n))
negated_worth truths t n negated is truth = rw negated (ap (λ (m : ℤ). t.factor *ℤ (pos 1 -ℤ m)) is ∙ other_worth t.factor n truth)

number_there : (vars : List ℕ) (values : List ℤ) (place var : ℕ) → AreBitsOf vars values → AllPairs ◌<◌ vars → place < length vars → get_or vars place 0 ≡ var → of_bool (truths_of vars values var) ≡ number_at values place
number_there vars values place var are up lt is =
    ap of_bool (truths_at vars values place var up lt are.long is) ∙ truth_is (number_at values place) (truth_at values place are.bits)

size_push : (parts : List (ℤ × ℕ)) (p : ℤ × ℕ) → parts_reach (parts ++ p ∷ []) ≡ parts_reach parts + unsigned_abs p.0
size_push parts p = sum_by_push (λ (q : ℤ × ℕ). unsigned_abs q.0) parts p

factors_push : (terms : List OpbTerm) (t : OpbTerm) → factors_reach (terms ++ t ∷ []) ≡ factors_reach terms + unsigned_abs t.factor
factors_push terms t = sum_by_push (λ (u : OpbTerm). unsigned_abs u.factor) terms t

abs_sum : (a b : ℤ) → unsigned_abs (a +ℤ b) ≤ unsigned_abs a + unsigned_abs b
abs_sum a b = grind (arith, ints)

abs_neg : (a : ℤ) → unsigned_abs (neg_ℤ a) ≡ unsigned_abs a
abs_neg a = grind (arith, ints)

names_push : (count : ℕ) (parts : List (ℤ × ℕ)) (p : ℤ × ℕ) → NamesUpTo count parts → p.1 < count → NamesUpTo count (parts ++ p ∷ [])
names_push count parts p all lt = All-push (λ (q : ℤ × ℕ). q.1 < count) parts p all lt

pub sum_plain : (vars : List ℕ) (terms : List OpbTerm) (t : OpbTerm) (parts : List (ℤ × ℕ)) (constant : ℤ) (place : ℕ) → AllPairs ◌<◌ vars → place < length vars → get_or vars place 0 ≡ t.var → t.negated ≡ false
    → IsSumOf vars terms parts constant → IsSumOf vars (terms ++ t ∷ []) (parts ++ (t.factor, place) ∷ []) constant
sum_plain vars terms t parts constant place up lt is plain s = record {
  value = λ values are.
      let one = terms_push (truths_of vars values) terms t ∙ ap (λ (n : ℤ). terms_total (truths_of vars values) terms +ℤ n) (plain_worth (truths_of vars values) t (number_at values place) plain (number_there vars values place t.var are up lt is)) in
      let other = total_push values parts (t.factor, place) in
      let before = s.value values are in
      omega (arith, ints, one, other, before);
  names = names_push (length vars) parts (t.factor, place) s.names lt;
  size = let a = size_push parts (t.factor, place) in let b = factors_push terms t in omega (arith, a, b, s.size);
  constant_size = let b = factors_push terms t in omega (arith, b, s.constant_size);
}

pub sum_negated : (vars : List ℕ) (terms : List OpbTerm) (t : OpbTerm) (parts : List (ℤ × ℕ)) (constant : ℤ) (place : ℕ) → AllPairs ◌<◌ vars → place < length vars → get_or vars place 0 ≡ t.var → t.negated ≡ true
    → IsSumOf vars terms parts constant → IsSumOf vars (terms ++ t ∷ []) (parts ++ (neg_ℤ t.factor, place) ∷ []) (constant +ℤ t.factor)
sum_negated vars terms t parts constant place up lt is negated s = record {
  value = λ values are.
      let number = number_at values place in
      let one = terms_push (truths_of vars values) terms t ∙ ap (λ (n : ℤ). terms_total (truths_of vars values) terms +ℤ n) (negated_worth (truths_of vars values) t number negated (number_there vars values place t.var are up lt is) (truth_at values place are.bits)) in
      let other = total_push values parts (neg_ℤ t.factor, place) in
      let before = s.value values are in
      omega (arith, ints, one, other, before);
  names = names_push (length vars) parts (neg_ℤ t.factor, place) s.names lt;
  size = let a = size_push parts (neg_ℤ t.factor, place) in let b = factors_push terms t in let c = abs_neg t.factor in omega (arith, a, b, c, s.size);
  constant_size = let a = abs_sum constant t.factor in let b = factors_push terms t in omega (arith, a, b, s.constant_size);
}

-- the factors up to a place, and one more, are no more than all
pub size_more : (terms : List OpbTerm) (i : ℕ) (d : OpbTerm) → i < length terms → factors_reach (take (i + 1) terms) ≡ factors_reach (take i terms) + unsigned_abs (get_or terms i d).factor
size_more terms i d lt = ap factors_reach (take_more terms i d lt) ∙ factors_push (take i terms) (get_or terms i d)

pub size_front : (i : ℕ) (terms : List OpbTerm) → factors_reach (take i terms) ≤ factors_reach terms
size_front i terms =
    let whole = ap factors_reach (sym (take-append-drop i terms)) ∙ sum_by-append (λ (u : OpbTerm). unsigned_abs u.factor) (take i terms) (drop i terms) in omega (arith, whole)

-- one more term is its part and its base
pub sum_more : (vars : List ℕ) (terms : List OpbTerm) (t : OpbTerm) (parts : List (ℤ × ℕ)) (constant : ℤ) (place : ℕ) → AllPairs ◌<◌ vars → place < length vars → get_or vars place 0 ≡ t.var
    → IsSumOf vars terms parts constant → IsSumOf vars (terms ++ t ∷ []) (parts ++ (coefficient_of t, place) ∷ []) (constant +ℤ base_of t)
sum_more vars terms t parts constant place up lt is s = by t.negated refl
  where
    by : (b : Bool) → t.negated ≡ b → IsSumOf vars (terms ++ t ∷ []) (parts ++ (coefficient_of t, place) ∷ []) (constant +ℤ base_of t)
    by true e =
        let c : coefficient_of t ≡ neg_ℤ t.factor = ap (λ (b : Bool). if b then neg_ℤ t.factor else t.factor) e in
        let m : base_of t ≡ t.factor = ap (λ (b : Bool). if b then t.factor else pos 0) e in
        subst (λ (z : ℤ). IsSumOf vars (terms ++ t ∷ []) (parts ++ (z, place) ∷ []) (constant +ℤ base_of t)) (sym c)
        (subst (λ (z : ℤ). IsSumOf vars (terms ++ t ∷ []) (parts ++ (neg_ℤ t.factor, place) ∷ []) (constant +ℤ z)) (sym m) (sum_negated vars terms t parts constant place up lt is e s))
    by false e =
        let c : coefficient_of t ≡ t.factor = ap (λ (b : Bool). if b then neg_ℤ t.factor else t.factor) e in
        let m : constant ≡ (constant +ℤ base_of t) = (let z : constant ≡ (constant +ℤ pos 0) = omega (arith, ints) in z) ∙ ap (λ (b : Bool). constant +ℤ (if b then t.factor else pos 0)) (sym e) in
        subst (λ (z : ℤ). IsSumOf vars (terms ++ t ∷ []) (parts ++ (z, place) ∷ []) (constant +ℤ base_of t)) (sym c)
        (subst (IsSumOf vars (terms ++ t ∷ []) (parts ++ (t.factor, place) ∷ [])) m (sum_plain vars terms t parts constant place up lt is e s))

-- one more term of a list
pub sum_step : (vars : List ℕ) (all : List OpbTerm) (i : ℕ) (d : OpbTerm) (parts : List (ℤ × ℕ)) (constant next : ℤ) (new : List (ℤ × ℕ)) (coefficient : ℤ) (place : ℕ) → AllPairs ◌<◌ vars → place < length vars → i < length all
    → get_or vars place 0 ≡ (get_or all i d).var → coefficient ≡ coefficient_of (get_or all i d) → new ≡ parts ++ (coefficient, place) ∷ [] → next ≡ (constant +ℤ base_of (get_or all i d))
    → IsSumOf vars (take i all) parts constant → IsSumOf vars (take (i + 1) all) new next
sum_step vars all i d parts constant next new coefficient place up lt below is c n m s =
    let made = sum_more vars (take i all) (get_or all i d) parts constant place up lt is s in
    subst (λ (ts : List OpbTerm). IsSumOf vars ts new next) (sym (take_more all i d below))
    (subst (λ (ps : List (ℤ × ℕ)). IsSumOf vars (take i all ++ get_or all i d ∷ []) ps next) (ap (λ (z : ℤ). parts ++ (z, place) ∷ []) (sym c) ∙ sym n)
    (subst (IsSumOf vars (take i all ++ get_or all i d ∷ []) (parts ++ (coefficient_of (get_or all i d), place) ∷ [])) (sym m) made))

-- the base of one more term keeps the sum small
pub base_small : (all : List OpbTerm) (i : ℕ) (d : OpbTerm) (constant : ℤ) → i < length all → unsigned_abs constant ≤ factors_reach (take i all) → factors_reach all ≤ 1099511627776
    → unsigned_abs constant + unsigned_abs (base_of (get_or all i d)) ≤ 1099511627776
base_small all i d constant lt near small =
    let step = size_more all i d lt in
    let front = size_front (i + 1) all in
    let base = base_size (get_or all i d) in
    omega (arith, step, front, base, near, small)
  where
    base_size : (t : OpbTerm) → unsigned_abs (base_of t) ≤ unsigned_abs t.factor
    base_size t = by t.negated refl
      where
        by : (b : Bool) → t.negated ≡ b → unsigned_abs (base_of t) ≤ unsigned_abs t.factor
        by true e = rw e (omega arith)
        by false e = rw e (omega arith)

pub factor_small : (all : List OpbTerm) (i : ℕ) (d : OpbTerm) → i < length all → factors_reach all ≤ 1099511627776 → unsigned_abs (get_or all i d).factor ≤ 1099511627776
factor_small all i d lt small =
    let step = size_more all i d lt in let front = size_front (i + 1) all in omega (arith, step, front, small)

pub sum_none : (vars : List ℕ) → IsSumOf vars [] [] (pos 0)
unfolding weighted_sum sum_of
sum_none vars = record {
  value = λ values are. refl;
  names = All-nil (λ (q : ℤ × ℕ). q.1 < length vars);
  size = omega arith;
  constant_size = omega arith;
}

-- ---- parts that are joined

pub takes_push : (parts : List (ℤ × ℕ)) (p : ℤ × ℕ) → TakesInPart p parts (parts ++ p ∷ [])
takes_push parts p = record {
  value = λ values truths. total_push values parts p;
  names = λ count all lt. names_push count parts p all lt;
  size = let a = size_push parts p in omega (arith, a);
}

two_worths : (a b n : ℤ) → IsBit n → ((a +ℤ b) *ℤ n) ≡ ((a *ℤ n) +ℤ (b *ℤ n))
two_worths a b n (inl is) = subst (λ (m : ℤ). ((a +ℤ b) *ℤ m) ≡ ((a *ℤ m) +ℤ (b *ℤ m))) (sym is) (omega (arith, ints))
two_worths a b n (inr is) = subst (λ (m : ℤ). ((a +ℤ b) *ℤ m) ≡ ((a *ℤ m) +ℤ (b *ℤ m))) (sym is) (omega (arith, ints))

last_named : (count : ℕ) (parts : List (ℤ × ℕ)) (p : ℤ × ℕ) → NamesUpTo count (parts ++ p ∷ []) → NamesUpTo count parts × (p.1 < count)
last_named count [] p all = (All-nil (λ (q : ℤ × ℕ). q.1 < count), all 0 p (omega arith))
last_named count (q ∷ parts) p all =
    let inner = last_named count parts p (λ k d lt. all (suc k) d (omega arith)) in
    (All-append (λ (r : ℤ × ℕ). r.1 < count) (q ∷ []) parts (λ k d lt. subst (λ (i : ℕ). (get_or (q ∷ []) i d).1 < count) (let e : 0 ≡ k = omega (arith, lt) in e) (all 0 d (omega arith))) inner.0, inner.1)

pub takes_join : (parts : List (ℤ × ℕ)) (last p : ℤ × ℕ) → last.1 ≡ p.1 → TakesInPart p (parts ++ last ∷ []) (parts ++ (last.0 +ℤ p.0, last.1) ∷ [])
takes_join parts last p same = record {
  value = λ values truths.
      let new = total_push values parts (last.0 +ℤ p.0, last.1) in
      let old = total_push values parts last in
      let two = two_worths last.0 p.0 (number_at values last.1) (truth_at values last.1 truths) in
      let there : (p.0 *ℤ number_at values last.1) ≡ (p.0 *ℤ number_at values p.1) = ap (λ (x : ℕ). p.0 *ℤ number_at values x) same in
      omega (arith, ints, new, old, two, there);
  names = λ count all lt. let both = last_named count parts last all in names_push count parts (last.0 +ℤ p.0, last.1) both.0 both.1;
  size =
      let new = size_push parts (last.0 +ℤ p.0, last.1) in
      let old = size_push parts last in
      let sum = abs_sum last.0 p.0 in
      omega (arith, new, old, sum);
}

pub comes_none : PartsComeTo [] []
comes_none = record { value = λ values truths. refl; names = λ count all. all; size = omega arith }

-- one more part is joined to those before it
pub comes_more : (parts old new : List (ℤ × ℕ)) (p : ℤ × ℕ) → PartsComeTo parts old → TakesInPart p old new → PartsComeTo (parts ++ p ∷ []) new
comes_more parts old new p comes takes = record {
  value = λ values truths.
      let a = takes.value values truths in
      let b = comes.value values truths in
      let c = total_push values parts p in
      omega (arith, ints, a, b, c);
  names = λ count all. let both = last_named count parts p all in takes.names count (comes.names count both.0) both.1;
  size = let c = size_push parts p in omega (arith, takes.size, comes.size, c);
}

pub parts_front : (i : ℕ) (parts : List (ℤ × ℕ)) → parts_reach (take i parts) ≤ parts_reach parts
parts_front i parts =
    let whole = ap parts_reach (sym (take-append-drop i parts)) ∙ sum_by-append (λ (q : ℤ × ℕ). unsigned_abs q.0) (take i parts) (drop i parts) in omega (arith, whole)

-- the same of what the code leaves
pub takes_alone : (part : ℤ × ℕ) (old popped new : List (ℤ × ℕ)) → old ≡ popped ++ [] → new ≡ popped ++ part ∷ [] → TakesInPart part old new
takes_alone part old popped new a b =
    subst (λ (ps : List (ℤ × ℕ)). TakesInPart part ps new) (sym (a ∙ append-nil popped)) (subst (TakesInPart part popped) (sym b) (takes_push popped part))

pub takes_joined : (part last : ℤ × ℕ) (old popped new : List (ℤ × ℕ)) (sum : ℤ) → old ≡ popped ++ last ∷ [] → new ≡ popped ++ (sum, last.1) ∷ [] → sum ≡ (last.0 +ℤ part.0) → last.1 ≡ part.1 → TakesInPart part old new
takes_joined part last old popped new sum a b e same =
    subst (λ (ps : List (ℤ × ℕ)). TakesInPart part ps new) (sym a)
    (subst (TakesInPart part (popped ++ last ∷ [])) (ap (λ (z : ℤ). popped ++ (z, last.1) ∷ []) (sym e) ∙ sym b) (takes_join popped last part same))

pub takes_behind : (part last : ℤ × ℕ) (old popped kept new : List (ℤ × ℕ)) → old ≡ popped ++ last ∷ [] → kept ≡ popped ++ last ∷ [] → new ≡ kept ++ part ∷ [] → TakesInPart part old new
takes_behind part last old popped kept new a b e =
    subst (λ (ps : List (ℤ × ℕ)). TakesInPart part ps new) (b ∙ sym a) (subst (TakesInPart part kept) (sym e) (takes_push kept part))

pub last_small : (part last : ℤ × ℕ) (old popped : List (ℤ × ℕ)) → old ≡ popped ++ last ∷ [] → parts_reach old + unsigned_abs part.0 ≤ 1099511627776 → unsigned_abs last.0 + unsigned_abs part.0 ≤ 1099511627776
last_small part last old popped a small =
    let size = ap parts_reach a ∙ size_push popped last in omega (arith, size, small)

-- one more part of a list
pub comes_step : (all : List (ℤ × ℕ)) (i : ℕ) (d : ℤ × ℕ) (old new : List (ℤ × ℕ)) → i < length all → PartsComeTo (take i all) old → TakesInPart (get_or all i d) old new → PartsComeTo (take (i + 1) all) new
comes_step all i d old new lt comes takes =
    subst (λ (ps : List (ℤ × ℕ)). PartsComeTo ps new) (sym (take_more all i d lt)) (comes_more (take i all) old new (get_or all i d) comes takes)

pub part_small : (all : List (ℤ × ℕ)) (i : ℕ) (d : ℤ × ℕ) (old : List (ℤ × ℕ)) → i < length all → parts_reach old ≤ parts_reach (take i all) → parts_reach all ≤ 1099511627776 → parts_reach old + unsigned_abs (get_or all i d).0 ≤ 1099511627776
part_small all i d old lt near small =
    let step = ap parts_reach (take_more all i d lt) ∙ size_push (take i all) (get_or all i d) in
    let front = parts_front (i + 1) all in
    omega (arith, step, front, near, small)

-- ---- parts in another order

-- what a part counts, above 0 and below 0
above : List ℤ → ℤ × ℕ → ℕ
above values p = or_zero (worth values p)

below : List ℤ → ℤ × ℕ → ℕ
below values p = or_zero (neg_ℤ (worth values p))

difference : (n : ℤ) → n ≡ (pos (or_zero n) -ℤ pos (or_zero (neg_ℤ n)))
difference (pos zero) = refl
difference (pos (suc n)) = omega (arith, ints)
difference (negsuc n) = omega (arith, ints)

two_sums : (values : List ℤ) (parts : List (ℤ × ℕ)) → sum_of (map (worth values) parts) ≡ (pos (sum_by (above values) parts) -ℤ pos (sum_by (below values) parts))
unfolding sum_of above below
two_sums values [] = refl
two_sums values (p ∷ parts) =
    let inner = two_sums values parts in
    let one = difference (worth values p) in
    let a = sum_by-cons (above values) p parts in
    let b = sum_by-cons (below values) p parts in
    omega (arith, ints, inner, one, a, b)

pub total_permuted : (values : List ℤ) (parts others : List (ℤ × ℕ)) → IsPermutation parts others → opb_parts_total values others ≡ opb_parts_total values parts
total_permuted values parts others moved =
    let a = sum_by-IsPermutation (above values) parts others moved in
    let b = sum_by-IsPermutation (below values) parts others moved in
    let one = two_sums values parts in
    let two = two_sums values others in
    total_is values others ∙ (let same : sum_of (map (worth values) others) ≡ sum_of (map (worth values) parts) = omega (arith, ints, a, b, one, two) in same) ∙ sym (total_is values parts)

-- the sum of terms is that of parts in another order, joined
pub sum_joined : (vars : List ℕ) (terms : List OpbTerm) (parts others joined : List (ℤ × ℕ)) (constant : ℤ) → IsSumOf vars terms parts constant → IsPermutation parts others → PartsComeTo others joined → IsSumOf vars terms joined constant
sum_joined vars terms parts others joined constant s moved comes = record {
  value = λ values are. s.value values are ∙ ap (λ (n : ℤ). n +ℤ constant) (sym (comes.value values are.bits ∙ total_permuted values parts others moved));
  names = comes.names (length vars) (All-permutation (λ (q : ℤ × ℕ). q.1 < length vars) parts others moved s.names);
  size = let same = sum_by-IsPermutation (λ (q : ℤ × ℕ). unsigned_abs q.0) parts others moved in omega (arith, same, comes.size, s.size);
  constant_size = s.constant_size;
}

pub permuted_size : (parts others : List (ℤ × ℕ)) → IsPermutation parts others → parts_reach others ≡ parts_reach parts
permuted_size parts others moved = sum_by-IsPermutation (λ (q : ℤ × ℕ). unsigned_abs q.0) parts others moved

-- ---- bounds

factor_counts : (f : ℤ) (negated truth : Bool) → IsFactorValue f (f *ℤ (if negated then pos 1 -ℤ of_bool truth else of_bool truth))
unfolding of_bool
factor_counts f true true = inl (omega (arith, ints))
factor_counts f true false = inr (omega (arith, ints))
factor_counts f false true = inr (omega (arith, ints))
factor_counts f false false = inl (omega (arith, ints))

literal_counts : (truths : ℕ → Bool) (t : OpbTerm) → IsFactorValue t.factor (t.factor *ℤ literal_value truths t)
literal_counts truths t = factor_counts t.factor t.negated (truths t.var)

-- one more term lowers what no sum is below
pub least_more : (terms : List OpbTerm) (i : ℕ) (d : OpbTerm) (least next : ℤ) → i < length terms → ((truths : ℕ → Bool) → least ≤ℤ terms_total truths (take i terms))
    → ((before value : ℤ) → least ≤ℤ before → IsFactorValue (get_or terms i d).factor value → next ≤ℤ (before +ℤ value)) → (truths : ℕ → Bool) → next ≤ℤ terms_total truths (take (i + 1) terms)
least_more terms i d least next lt before more truths =
    let t = get_or terms i d in
    subst (λ (n : ℤ). next ≤ℤ n) (sym (ap (terms_total truths) (take_more terms i d lt) ∙ terms_push truths (take i terms) t))
    (more (terms_total truths (take i terms)) (t.factor *ℤ literal_value truths t) (before truths) (literal_counts truths t))

pub greatest_more : (terms : List OpbTerm) (i : ℕ) (d : OpbTerm) (greatest next : ℤ) → i < length terms → ((truths : ℕ → Bool) → terms_total truths (take i terms) ≤ℤ greatest)
    → ((before value : ℤ) → before ≤ℤ greatest → IsFactorValue (get_or terms i d).factor value → (before +ℤ value) ≤ℤ next) → (truths : ℕ → Bool) → terms_total truths (take (i + 1) terms) ≤ℤ next
greatest_more terms i d greatest next lt before more truths =
    let t = get_or terms i d in
    subst (λ (n : ℤ). n ≤ℤ next) (sym (ap (terms_total truths) (take_more terms i d lt) ∙ terms_push truths (take i terms) t))
    (more (terms_total truths (take i terms)) (t.factor *ℤ literal_value truths t) (before truths) (literal_counts truths t))

pub within_numbers : (n : ℤ) → unsigned_abs n ≤ 1099511627776 → IsWithinNumbers n
within_numbers n small = (grind (arith, ints), grind (arith, ints))

-- a term of zeros
abbrev pub no_term : OpbTerm
no_term = record { factor = pos 0; negated = false; var = 0 }

pub total_none_low : (truths : ℕ → Bool) → pos 0 ≤ℤ terms_total truths []
unfolding sum_of
total_none_low truths = omega (arith, ints)

pub total_none_high : (truths : ℕ → Bool) → terms_total truths [] ≤ℤ pos 0
unfolding sum_of
total_none_high truths = omega (arith, ints)
