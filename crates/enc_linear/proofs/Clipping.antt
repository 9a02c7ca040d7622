-- Numbers that stand for a sum as far as the rest can bring it back, and how far that is.
use Rattle.std.proofs.Common.{◌≡◌, ◌⊎◌, inl, inr, ℕ, suc, ◌+◌, ◌<◌, ◌≤◌, ℤ, pos, negsuc, ◌+ℤ◌, ◌-ℤ◌, ◌≤ℤ◌, ◌<ℤ◌, Bool, true, false, not, ◌||◌, IsTrue, List, [], ◌∷◌, ◌++◌, map, take, length, get_or, int_lt, int_le, if◌then◌else◌, refl, sym, ap, subst, ◌∙◌, arith}
use Rattle.std.specs.List.{All, sum_by}
use Rattle.std.specs.List.Sorted.{IsPermutation}
use Rattle.std.specs.Ordering.{int_eq}
use Rattle.std.specs.Prelude.{Err, IfOk, Ok, Option, Result, Some, None, is_some}
use Rattle.std.proofs.lemmas.Bool.Decides.{Decides-int_eq}
use Rattle.std.proofs.lemmas.Int.{ints}
use Rattle.std.proofs.lemmas.List.{take_all, take_more}
use Rattle.std.proofs.lemmas.List.Elements.{All-contains, All-head, All-more, All-tail, All-weaker}
use Rattle.std.proofs.lemmas.List.Sorted.{sum_by-IsPermutation}
use Rattle.std.proofs.lemmas.List.Sums.{sum_by-cons}
use Rattle.ep_base.specs.declared.operators.CompareOp.{CompareOp}
use Rattle.ep_base.specs.Numbers.{compare_holds, sum_of}
use Rattle.ep_flat.specs.Cons.{is_as_said}
use Rattle.cnf_core.specs.Formula.{Cnf}
use Rattle.enc_linear.specs.Bounds.{HasBounds, clipped, is_lower, is_upper}
use Rattle.enc_linear.specs.Terms.{Arise, HoldsSteps, IsTermOf, LiesWithin, total, worth_of}
use Rattle.enc_linear.specs.declared.bounds.Bounds.{Bounds}
use Rattle.enc_linear.specs.declared.terms.Step.{Step}
use Rattle.enc_linear.specs.declared.terms.Term.{Term}
use Rattle.enc_linear.proofs.Ladders.{stands_of}
use Rattle.enc_var.specs.Decoding.{VariableLiterals}

-- a number is no less than a sum, or at least an upper end
abbrev pub NoLess : ℤ → ℤ → ℤ → Type 0
NoLess high sum n = (high ≤ℤ n) ⊎ (sum ≤ℤ n)

-- a number is no greater than a sum, or at most a lower end
abbrev pub NoGreater : ℤ → ℤ → ℤ → Type 0
NoGreater low sum n = (n ≤ℤ low) ⊎ (n ≤ℤ sum)

-- the ends are those of a rest of a sum: with no more than the low one the sum is too little, with no less than the high one too much
pub record IsClipOver (low high number rest : ℤ) : Type 0 where
  pub too_little : (rest +ℤ low) <ℤ number
  pub too_much : number <ℤ (rest +ℤ high)

pub clipped_near : (low high n : ℤ) → NoLess high n (clipped low high n) × NoGreater low n (clipped low high n)
unfolding clipped
clipped_near low high n = by (int_lt n low) refl
  where
    over : (b : Bool) → int_lt n low ≡ false → int_lt high n ≡ b → NoLess high n (if b then high else n) × NoGreater low n (if b then high else n)
    over true above e = (inl (omega (arith, ints)), inr (omega (arith, ints, e)))
    over false above e = (inr (omega (arith, ints)), inr (omega (arith, ints)))

    by : (b : Bool) → int_lt n low ≡ b
        → NoLess high n (if b then low else if int_lt high n then high else n) × NoGreater low n (if b then low else if int_lt high n then high else n)
    by true e = (inr (omega (arith, ints, e)), inl (omega (arith, ints)))
    by false e = over (int_lt high n) e refl

-- tests of two orders
lt_true : (a b : ℤ) → a <ℤ b → int_lt a b ≡ true
lt_true a b h = by (int_lt a b) refl
  where
    by : (t : Bool) → int_lt a b ≡ t → t ≡ true
    by true e = refl
    by false e = absurd (omega (arith, ints, e, h))

lt_false : (a b : ℤ) → b ≤ℤ a → int_lt a b ≡ false
lt_false a b h = by (int_lt a b) refl
  where
    by : (t : Bool) → int_lt a b ≡ t → t ≡ false
    by true e = absurd (omega (arith, ints, e, h))
    by false e = refl

le_true : (a b : ℤ) → a ≤ℤ b → int_le a b ≡ true
le_true a b h = by (int_le a b) refl
  where
    by : (t : Bool) → int_le a b ≡ t → t ≡ true
    by true e = refl
    by false e = absurd (omega (arith, ints, e, h))

le_false : (a b : ℤ) → b <ℤ a → int_le a b ≡ false
le_false a b h = by (int_le a b) refl
  where
    by : (t : Bool) → int_le a b ≡ t → t ≡ false
    by true e = absurd (omega (arith, ints, e, h))
    by false e = refl

eq_false : (a b : ℤ) → (a ≡ b → ⊥) → int_eq a b ≡ false
eq_false a b h = by (int_eq a b) refl
  where
    by : (t : Bool) → int_eq a b ≡ t → t ≡ false
    by true e = absurd (h ((Decides-int_eq a b).0 e))
    by false e = refl

-- comparisons of two numbers on the same side of a third
below_alike : (op : CompareOp) (a b c : ℤ) → a <ℤ c → b <ℤ c → compare_holds op a c ≡ compare_holds op b c
unfolding compare_holds
below_alike CompareOp.Equal a b c h k = eq_false a c (λ e. omega (arith, ints, e, h)) ∙ sym (eq_false b c (λ e. omega (arith, ints, e, k)))
below_alike CompareOp.NotEqual a b c h k = ap not (eq_false a c (λ e. omega (arith, ints, e, h)) ∙ sym (eq_false b c (λ e. omega (arith, ints, e, k))))
below_alike CompareOp.Less a b c h k = lt_true a c h ∙ sym (lt_true b c k)
below_alike CompareOp.AtMost a b c h k = le_true a c (omega (arith, ints, h)) ∙ sym (le_true b c (omega (arith, ints, k)))
below_alike CompareOp.Greater a b c h k = lt_false c a (omega (arith, ints, h)) ∙ sym (lt_false c b (omega (arith, ints, k)))
below_alike CompareOp.AtLeast a b c h k = le_false c a h ∙ sym (le_false c b k)

above_alike : (op : CompareOp) (a b c : ℤ) → c <ℤ a → c <ℤ b → compare_holds op a c ≡ compare_holds op b c
unfolding compare_holds
above_alike CompareOp.Equal a b c h k = eq_false a c (λ e. omega (arith, ints, e, h)) ∙ sym (eq_false b c (λ e. omega (arith, ints, e, k)))
above_alike CompareOp.NotEqual a b c h k = ap not (eq_false a c (λ e. omega (arith, ints, e, h)) ∙ sym (eq_false b c (λ e. omega (arith, ints, e, k))))
above_alike CompareOp.Less a b c h k = lt_false a c (omega (arith, ints, h)) ∙ sym (lt_false b c (omega (arith, ints, k)))
above_alike CompareOp.AtMost a b c h k = le_false a c h ∙ sym (le_false b c k)
above_alike CompareOp.Greater a b c h k = lt_true c a h ∙ sym (lt_true c b k)
above_alike CompareOp.AtLeast a b c h k = le_true c a (omega (arith, ints, h)) ∙ sym (le_true c b (omega (arith, ints, k)))

-- a number that stands for a sum on both sides compares as the sum does, with the rest beside each
pub same_beyond : (op : CompareOp) (low high number rest sum n : ℤ) → IsClipOver low high number rest → NoLess high sum n → NoGreater low sum n
    → compare_holds op (rest +ℤ n) number ≡ compare_holds op (rest +ℤ sum) number
same_beyond op low high number rest sum n clip (inl over) (inl under) = absurd (omega (arith, ints, over, under, clip.too_little, clip.too_much))
same_beyond op low high number rest sum n clip (inl over) (inr less) =
    above_alike op (rest +ℤ n) (rest +ℤ sum) number (omega (arith, ints, over, clip.too_much)) (omega (arith, ints, over, less, clip.too_much))
same_beyond op low high number rest sum n clip (inr more) (inl under) =
    below_alike op (rest +ℤ n) (rest +ℤ sum) number (omega (arith, ints, under, clip.too_little)) (omega (arith, ints, more, under, clip.too_little))
same_beyond op low high number rest sum n clip (inr more) (inr less) =
    let same : n ≡ sum = omega (arith, ints, more, less) in
    ap (λ k. compare_holds op (rest +ℤ k) number) same

-- "at most" holds of a sum where it holds of a number that is no less
lower_beyond : (op : CompareOp) (low high number rest sum n : ℤ) → is_lower op ≡ true → IsClipOver low high number rest → NoLess high sum n
    → IsTrue (compare_holds op (rest +ℤ n) number) → IsTrue (compare_holds op (rest +ℤ sum) number)
unfolding compare_holds
lower_beyond CompareOp.Equal low high number rest sum n is clip near h = absurd (cc is)
lower_beyond CompareOp.NotEqual low high number rest sum n is clip near h = absurd (cc is)
lower_beyond CompareOp.Less low high number rest sum n is clip (inl over) h = absurd (omega (arith, ints, h, over, clip.too_much))
lower_beyond CompareOp.Less low high number rest sum n is clip (inr more) h = lt_true (rest +ℤ sum) number (omega (arith, ints, h, more))
lower_beyond CompareOp.AtMost low high number rest sum n is clip (inl over) h = absurd (omega (arith, ints, h, over, clip.too_much))
lower_beyond CompareOp.AtMost low high number rest sum n is clip (inr more) h = le_true (rest +ℤ sum) number (omega (arith, ints, h, more))
lower_beyond CompareOp.Greater low high number rest sum n is clip near h = absurd (cc is)
lower_beyond CompareOp.AtLeast low high number rest sum n is clip near h = absurd (cc is)

-- "at least" holds of a sum where it holds of a number that is no greater
upper_beyond : (op : CompareOp) (low high number rest sum n : ℤ) → is_upper op ≡ true → IsClipOver low high number rest → NoGreater low sum n
    → IsTrue (compare_holds op (rest +ℤ n) number) → IsTrue (compare_holds op (rest +ℤ sum) number)
unfolding compare_holds
upper_beyond CompareOp.Equal low high number rest sum n is clip near h = absurd (cc is)
upper_beyond CompareOp.NotEqual low high number rest sum n is clip near h = absurd (cc is)
upper_beyond CompareOp.Less low high number rest sum n is clip near h = absurd (cc is)
upper_beyond CompareOp.AtMost low high number rest sum n is clip near h = absurd (cc is)
upper_beyond CompareOp.Greater low high number rest sum n is clip (inl under) h = absurd (omega (arith, ints, h, under, clip.too_little))
upper_beyond CompareOp.Greater low high number rest sum n is clip (inr less) h = lt_true number (rest +ℤ sum) (omega (arith, ints, h, less))
upper_beyond CompareOp.AtLeast low high number rest sum n is clip (inl under) h = absurd (omega (arith, ints, h, under, clip.too_little))
upper_beyond CompareOp.AtLeast low high number rest sum n is clip (inr less) h = le_true number (rest +ℤ sum) (omega (arith, ints, h, less))

said_plainly : (values : List ℤ) (holds : Bool) → is_as_said values None holds ≡ holds
unfolding is_as_said
said_plainly values holds = refl

not_lower : (op : CompareOp) → is_upper op ≡ true → not (is_lower op) ≡ true
not_lower CompareOp.Equal e = refl
not_lower CompareOp.NotEqual e = refl
not_lower CompareOp.Less e = absurd (cc e)
not_lower CompareOp.AtMost e = absurd (cc e)
not_lower CompareOp.Greater e = refl
not_lower CompareOp.AtLeast e = refl

-- what is said of a sum with a number in place of a part is said with the part, if the number stands for it as far as that is needed
pub said_beyond : (values : List ℤ) (truth : Option ℕ) (op : CompareOp) (low high number rest sum n : ℤ) → IsClipOver low high number rest
    → ((is_some truth || not (is_upper op)) ≡ true → NoLess high sum n) → ((is_some truth || not (is_lower op)) ≡ true → NoGreater low sum n)
    → IsTrue (is_as_said values truth (compare_holds op (rest +ℤ n) number)) → IsTrue (is_as_said values truth (compare_holds op (rest +ℤ sum) number))
said_beyond values (Some t) op low high number rest sum n clip less greater h =
    sym (ap (is_as_said values (Some t)) (same_beyond op low high number rest sum n clip (less refl) (greater refl))) ∙ h
said_beyond values None op low high number rest sum n clip less greater h = by (is_upper op) (is_lower op) refl refl
  where
    with_number : Bool
    with_number = compare_holds op (rest +ℤ n) number

    with_sum : Bool
    with_sum = compare_holds op (rest +ℤ sum) number

    holds : IsTrue with_number
    holds = sym (said_plainly values with_number) ∙ h

    by : (u l : Bool) → is_upper op ≡ u → is_lower op ≡ l → IsTrue (is_as_said values None with_sum)
    by true l up down = said_plainly values with_sum ∙ upper_beyond op low high number rest sum n up clip (greater (not_lower op up)) holds
    by false true up down = said_plainly values with_sum ∙ lower_beyond op low high number rest sum n down clip (less (ap not up)) holds
    by false false up down = said_plainly values with_sum ∙ sym (same_beyond op low high number rest sum n clip (less (ap not up)) (greater (ap not down))) ∙ holds

-- ---- bounds

-- what a term is worth lies within its bounds
pub worth_within : (L : List VariableLiterals) (f : Cnf) (term : Term) (values : List ℤ) → IsTermOf L f term → Arise L f values → LiesWithin term.bounds (worth_of values term)
unfolding worth_of
worth_within L f term values of_layout among =
    let a = stands_of L f term values of_layout among in
    let h = All-contains (λ (step : Step). LiesWithin term.bounds step.worth) term.steps.items a.step of_layout.bounds a.there in
    (omega (arith, ints, h.0, a.worth), omega (arith, ints, h.1, a.worth))

all_within : (L : List VariableLiterals) (f : Cnf) (ts : List Term) (values : List ℤ) → All (IsTermOf L f) ts → Arise L f values
    → (sum_of (map (λ (t : Term). t.bounds.least) ts) ≤ℤ total values ts) × (total values ts ≤ℤ sum_of (map (λ (t : Term). t.bounds.greatest) ts))
unfolding total sum_of
all_within L f [] values all among = (omega (arith, ints), omega (arith, ints))
all_within L f (t ∷ ts) values all among =
    let one = worth_within L f t values (All-head (IsTermOf L f) t ts all) among in
    let rest = all_within L f ts values (All-tail (IsTermOf L f) t ts all) among in
    (omega (arith, ints, one.0, rest.0), omega (arith, ints, one.1, rest.1))

-- what terms come to lies within their bounds
pub total_within : (L : List VariableLiterals) (f : Cnf) (terms : List Term) (bounds : Bounds) (values : List ℤ) → All (IsTermOf L f) terms → HasBounds bounds terms → Arise L f values → LiesWithin bounds (total values terms)
total_within L f terms bounds values of_layout has among =
    let h = all_within L f terms values of_layout among in
    (omega (arith, ints, h.0, has.least), omega (arith, ints, h.1, has.greatest))

-- the ends for a rest within bounds
pub clip_over : (L : List VariableLiterals) (f : Cnf) (others : List Term) (rest : Bounds) (number low high : ℤ) (values : List ℤ) → All (IsTermOf L f) others → HasBounds rest others → Arise L f values
    → low ≡ (number -ℤ rest.greatest) -ℤ pos 1 → high ≡ (number -ℤ rest.least) +ℤ pos 1 → IsClipOver low high number (total values others)
clip_over L f others rest number low high values of_layout has among is_low is_high =
    let h = total_within L f others rest values of_layout has among in
    record { too_little = omega (arith, ints, h.1, is_low); too_much = omega (arith, ints, h.0, is_high) }

-- bounds with a term more, and without one
pub bounds_more : (rest whole : Bounds) (term : Term) (terms : List Term) → HasBounds rest terms → whole.least ≡ rest.least +ℤ term.bounds.least → whole.greatest ≡ rest.greatest +ℤ term.bounds.greatest → HasBounds whole (term ∷ terms)
unfolding sum_of
bounds_more rest whole term terms has least greatest = record { least = omega (arith, ints, has.least, least); greatest = omega (arith, ints, has.greatest, greatest) }

pub bounds_less : (whole rest : Bounds) (term : Term) (terms : List Term) → HasBounds whole (term ∷ terms) → rest.least ≡ whole.least -ℤ term.bounds.least → rest.greatest ≡ whole.greatest -ℤ term.bounds.greatest → HasBounds rest terms
unfolding sum_of
bounds_less whole rest term terms has least greatest = record { least = omega (arith, ints, has.least, least); greatest = omega (arith, ints, has.greatest, greatest) }

-- a sum over terms is the same in any order
above_zero : ℤ → ℕ
above_zero (pos n) = n
above_zero (negsuc n) = 0

below_zero : ℤ → ℕ
below_zero (pos n) = 0
below_zero (negsuc n) = suc n

two_parts : (n : ℤ) → n ≡ pos (above_zero n) -ℤ pos (below_zero n)
unfolding above_zero below_zero
two_parts (pos n) = omega (arith, ints)
two_parts (negsuc n) = omega (arith, ints)

sum_parts : (g : Term → ℤ) (ts : List Term) → sum_of (map g ts) ≡ pos (sum_by (λ t. above_zero (g t)) ts) -ℤ pos (sum_by (λ t. below_zero (g t)) ts)
unfolding sum_of
sum_parts g [] = refl
sum_parts g (t ∷ ts) =
    let rest = sum_parts g ts in
    let up = sum_by-cons (λ t. above_zero (g t)) t ts in
    let down = sum_by-cons (λ t. below_zero (g t)) t ts in
    let one = two_parts (g t) in
    omega (arith, ints, rest, up, down, one)

pub sum_permuted : (g : Term → ℤ) (ts us : List Term) → IsPermutation ts us → sum_of (map g us) ≡ sum_of (map g ts)
sum_permuted g ts us moved =
    let a = sum_parts g ts in
    let b = sum_parts g us in
    let up = sum_by-IsPermutation (λ t. above_zero (g t)) ts us moved in
    let down = sum_by-IsPermutation (λ t. below_zero (g t)) ts us moved in
    omega (arith, ints, a, b, up, down)

pub bounds_permuted : (bounds : Bounds) (ts us : List Term) → IsPermutation ts us → HasBounds bounds ts → HasBounds bounds us
bounds_permuted bounds ts us moved has = record {
  least = has.least ∙ sym (sum_permuted (λ (t : Term). t.bounds.least) ts us moved);
  greatest = has.greatest ∙ sym (sum_permuted (λ (t : Term). t.bounds.greatest) ts us moved);
}

pub total_permuted : (values : List ℤ) (ts us : List Term) → IsPermutation ts us → total values us ≡ total values ts
unfolding total
total_permuted values ts us moved = sum_permuted (worth_of values) ts us moved

-- bounds as a loop gathers them
pub bounds_none : (bounds : Bounds) (ts : List Term) → bounds.least ≡ pos 0 → bounds.greatest ≡ pos 0 → HasBounds bounds (take 0 ts)
unfolding sum_of
bounds_none bounds ts low high = record { least = low; greatest = high }

sum_push : (g : Term → ℤ) (ts : List Term) (t : Term) → sum_of (map g (ts ++ t ∷ [])) ≡ sum_of (map g ts) +ℤ g t
unfolding sum_of
sum_push g [] t = omega (arith, ints)
sum_push g (u ∷ ts) t = let rest = sum_push g ts t in omega (arith, ints, rest)

pub bounds_next : (old new : Bounds) (ts : List Term) (i : ℕ) (d : Term) → i < length ts → HasBounds old (take i ts) → new.least ≡ old.least +ℤ (get_or ts i d).bounds.least → new.greatest ≡ old.greatest +ℤ (get_or ts i d).bounds.greatest
    → HasBounds new (take (i + 1) ts)
bounds_next old new ts i d low has least greatest =
    let more = take_more ts i d low in
    let a = ap (λ us. sum_of (map (λ (t : Term). t.bounds.least) us)) more ∙ sum_push (λ (t : Term). t.bounds.least) (take i ts) (get_or ts i d) in
    let b = ap (λ us. sum_of (map (λ (t : Term). t.bounds.greatest) us)) more ∙ sum_push (λ (t : Term). t.bounds.greatest) (take i ts) (get_or ts i d) in
    record { least = omega (arith, ints, has.least, least, a); greatest = omega (arith, ints, has.greatest, greatest, b) }

pub bounds_all : (bounds : Bounds) (ts : List Term) (i : ℕ) → length ts ≤ i → HasBounds bounds (take i ts) → HasBounds bounds ts
bounds_all bounds ts i long has = subst (HasBounds bounds) (take_all i ts long) has

-- what a number within a clip, or beyond one of its ends, is clipped to
pub clipped_low : (low high n : ℤ) → n <ℤ low → low ≡ clipped low high n
unfolding clipped
clipped_low low high n h = at (int_lt n low) refl
  where
    at : (b : Bool) → int_lt n low ≡ b → low ≡ (if b then low else if int_lt high n then high else n)
    at true e = refl
    at false e = absurd (omega (arith, ints, e, h))

pub clipped_high : (low high n : ℤ) → low ≤ℤ n → high <ℤ n → high ≡ clipped low high n
unfolding clipped
clipped_high low high n h k = at (int_lt n low) (int_lt high n) refl refl
  where
    at : (b d : Bool) → int_lt n low ≡ b → int_lt high n ≡ d → high ≡ (if b then low else if d then high else n)
    at true d e g = absurd (omega (arith, ints, e, h))
    at false true e g = refl
    at false false e g = absurd (omega (arith, ints, g, k))

pub clipped_within : (low high n : ℤ) → low ≤ℤ n → n ≤ℤ high → n ≡ clipped low high n
unfolding clipped
clipped_within low high n h k = at (int_lt n low) (int_lt high n) refl refl
  where
    at : (b d : Bool) → int_lt n low ≡ b → int_lt high n ≡ d → n ≡ (if b then low else if d then high else n)
    at true d e g = absurd (omega (arith, ints, e, h))
    at false true e g = absurd (omega (arith, ints, g, k))
    at false false e g = refl

pub also_is : {E : Type 0} (r : Result ℤ E) (m n : ℤ) → IfOk r (λ k. k ≡ m) → m ≡ n → IfOk r (λ k. k ≡ n)
also_is (Ok k) m n h e = h ∙ e
also_is (Err x) m n h e = tt

-- bounds of the first steps, and of one more
pub holds_next : (old new : Bounds) (xs : List Step) (i : ℕ) (d : Step) (w : ℤ) → i < length xs → HoldsSteps old (take i xs) → w ≡ (get_or xs i d).worth
    → (new.least ≤ℤ old.least) × (new.least ≤ℤ w) → (old.greatest ≤ℤ new.greatest) × (w ≤ℤ new.greatest) → HoldsSteps new (take (i + 1) xs)
holds_next old new xs i d w low has is least greatest =
    All-more (λ (step : Step). LiesWithin new step.worth) xs i d low
    (All-weaker (λ (step : Step). LiesWithin old step.worth) (λ (step : Step). LiesWithin new step.worth) (λ step h. (omega (arith, ints, h.0, least.0), omega (arith, ints, h.1, greatest.0))) (take i xs) has)
    (omega (arith, ints, is, least.1), omega (arith, ints, is, greatest.1))

pub holds_all : (bounds : Bounds) (xs : List Step) (i : ℕ) → length xs ≤ i → HoldsSteps bounds (take i xs) → HoldsSteps bounds xs
holds_all bounds xs i long has = subst (HoldsSteps bounds) (take_all i xs long) has
