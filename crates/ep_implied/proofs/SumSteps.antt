-- Sums of variables with coefficients, as they are gathered.
use Rattle.std.proofs.Common.{◌≡◌, ℕ, zero, suc, ◌+◌, ◌<◌, ◌≤◌, ℤ, pos, ◌+ℤ◌, ◌*ℤ◌, ◌≤ℤ◌, Bool, true, false, IsTrue, List, [], ◌∷◌, ◌++◌, length, map, take, get_or, Option, None, int_le, refl, sym, ap, subst, ◌∙◌, arith}
use Rattle.std.specs.Prelude.{slice_set}
use Rattle.std.specs.List.{All}
use Rattle.std.specs.Ordering.{int_eq}
use Rattle.std.proofs.lemmas.Bool.{false≢true}
use Rattle.std.proofs.lemmas.Bool.Decides.{Decides-int_eq}
use Rattle.std.proofs.lemmas.Int.{ints}
use Rattle.std.proofs.lemmas.List.{map-append, take_all, take_more}
use Rattle.std.proofs.lemmas.List.Elements.{All-push}
use Rattle.ep_base.specs.Numbers.{compare_holds, sum_of}
use Rattle.ep_base.specs.Reads.{IsWithinNumbers, weighted_sum}
use Rattle.ep_base.specs.declared.operators.CompareOp.{CompareOp}
use Rattle.ep_base.specs.declared.operators.CompareOp.TheVariants as op
use Rattle.ep_flat.specs.Cons.{FlatCon, FlatKind, con_holds, is_as_said, kind_holds, linear, number_at}
use Rattle.ep_implied.specs.Sums.{TakesIn, parts_sum, stays_within, weighed}
use Rattle.ep_implied.proofs.Products.{falls, rises, spread, spread_left, times_again}

-- ---- all variables, each with its coefficient

pub weighed_set : (place : ℕ) (cs : List ℤ) (k : ℕ) (d more : ℤ) (values : List ℤ) → k < length cs
    → weighed place (slice_set cs k (get_or cs k d +ℤ more)) values ≡ (weighed place cs values +ℤ (more *ℤ number_at values (place + k)))
weighed_set place [] k d more values low = absurd (omega (arith, low))
weighed_set place (c ∷ cs) zero d more values low =
    let here : place + 0 ≡ place = omega arith in
    let v : ℤ = number_at values place in
    subst (λ (k : ℕ). (((c +ℤ more) *ℤ v) +ℤ weighed (place + 1) cs values) ≡ (((c *ℤ v) +ℤ weighed (place + 1) cs values) +ℤ (more *ℤ number_at values k))) (sym here)
    (let both = spread_left c more v in omega (arith, ints, both))
weighed_set place (c ∷ cs) (suc k) d more values low =
    let there : (place + 1) + k ≡ place + suc k = omega arith in
    let rest = weighed_set (place + 1) cs k d more values (omega (arith, low)) in
    subst (λ (n : ℕ). ((c *ℤ number_at values place) +ℤ weighed (place + 1) (slice_set cs k (get_or cs k d +ℤ more)) values) ≡ (((c *ℤ number_at values place) +ℤ weighed (place + 1) cs values) +ℤ (more *ℤ number_at values n))) there
    (omega (arith, ints, rest))

-- a coefficient came to the one at a place
pub part_set : (cs : List ℤ) (k : ℕ) (d sum times factor : ℤ) (values : List ℤ) → k < length cs → sum ≡ (get_or cs k d +ℤ (times *ℤ factor))
    → weighed 0 (slice_set cs k sum) values ≡ (weighed 0 cs values +ℤ ((times *ℤ factor) *ℤ number_at values k))
part_set cs k d sum times factor values low is =
    let here : 0 + k ≡ k = omega arith in
    ap (λ (n : ℤ). weighed 0 (slice_set cs k n) values) is ∙ weighed_set 0 cs k d (times *ℤ factor) values low
    ∙ ap (λ (n : ℕ). weighed 0 cs values +ℤ ((times *ℤ factor) *ℤ number_at values n)) here

weighed_push : (place : ℕ) (cs : List ℤ) (c : ℤ) (values : List ℤ) → weighed place (cs ++ c ∷ []) values ≡ (weighed place cs values +ℤ (c *ℤ number_at values (place + length cs)))
weighed_push place [] c values =
    let here : place + 0 ≡ place = omega arith in
    subst (λ (k : ℕ). ((c *ℤ number_at values place) +ℤ pos 0) ≡ (pos 0 +ℤ (c *ℤ number_at values k))) (sym here) (omega (arith, ints))
weighed_push place (x ∷ cs) c values =
    let there : (place + 1) + length cs ≡ place + suc (length cs) = omega arith in
    let rest = weighed_push (place + 1) cs c values in
    subst (λ (n : ℕ). ((x *ℤ number_at values place) +ℤ weighed (place + 1) (cs ++ c ∷ []) values) ≡ (((x *ℤ number_at values place) +ℤ weighed (place + 1) cs values) +ℤ (c *ℤ number_at values n))) there
    (omega (arith, ints, rest))

long_front : (k : ℕ) (cs : List ℤ) → k ≤ length cs → length (take k cs) ≡ k
long_front zero cs low = refl
long_front (suc k) [] low = absurd (omega (arith, low))
long_front (suc k) (c ∷ cs) low = ap suc (long_front k cs (omega (arith, low)))

pub weighed_more : (cs : List ℤ) (k : ℕ) (d : ℤ) (values : List ℤ) → k < length cs → weighed 0 (take (k + 1) cs) values ≡ (weighed 0 (take k cs) values +ℤ (get_or cs k d *ℤ number_at values k))
weighed_more cs k d values low =
    let long : length (take k cs) ≡ k = long_front k cs (omega (arith, low)) in
    let here : 0 + length (take k cs) ≡ k = omega (arith, long) in
    ap (λ (xs : List ℤ). weighed 0 xs values) (take_more cs k d low) ∙ weighed_push 0 (take k cs) (get_or cs k d) values
    ∙ ap (λ (n : ℕ). weighed 0 (take k cs) values +ℤ (get_or cs k d *ℤ number_at values n)) here

pub weighed_zeros : (place : ℕ) (cs : List ℤ) (values : List ℤ) → All (λ c. c ≡ pos 0) cs → weighed place cs values ≡ pos 0
weighed_zeros place [] values all = refl
weighed_zeros place (c ∷ cs) values all =
    let none : c ≡ pos 0 = all 0 (pos 0) (omega arith) in
    let rest = weighed_zeros (place + 1) cs values (λ k d low. all (suc k) d (omega (arith, low))) in
    let here : (c *ℤ number_at values place) ≡ pos 0 = ap (λ x. x *ℤ number_at values place) none ∙ (let z : (pos 0 *ℤ number_at values place) ≡ pos 0 = omega (arith, ints) in z) in
    omega (arith, ints, rest, here)

-- ---- parts in any order

sum_push : (xs : List ℤ) (y : ℤ) → sum_of (xs ++ y ∷ []) ≡ (sum_of xs +ℤ y)
unfolding sum_of
sum_push [] y = omega (arith, ints)
sum_push (x ∷ xs) y = let inner = sum_push xs y in omega (arith, ints, inner)

abbrev part_worth : List ℤ → ℤ × ℕ → ℤ
part_worth values p = p.0 *ℤ number_at values p.1

parts_are : (values : List ℤ) (parts : List (ℤ × ℕ)) → parts_sum parts values ≡ sum_of (map (part_worth values) parts)
unfolding weighted_sum sum_of
parts_are values [] = refl
parts_are values (p ∷ parts) = ap (λ (n : ℤ). (p.0 *ℤ number_at values p.1) +ℤ n) (parts_are values parts)

pub parts_push : (values : List ℤ) (parts : List (ℤ × ℕ)) (p : ℤ × ℕ) → parts_sum (parts ++ p ∷ []) values ≡ (parts_sum parts values +ℤ (p.0 *ℤ number_at values p.1))
parts_push values parts p =
    parts_are values (parts ++ p ∷ []) ∙ ap sum_of (map-append (part_worth values) parts (p ∷ [])) ∙ sum_push (map (part_worth values) parts) (part_worth values p)
    ∙ ap (λ (n : ℤ). n +ℤ part_worth values p) (sym (parts_are values parts))

pub parts_none : (values : List ℤ) → parts_sum [] values ≡ pos 0
unfolding weighted_sum sum_of
parts_none values = refl

-- a number and a product are those of equal numbers
pub raised_is : (sum m n t u f g : ℤ) → sum ≡ (m +ℤ (t *ℤ f)) → m ≡ n → t ≡ u → f ≡ g → sum ≡ (n +ℤ (u *ℤ g))
raised_is sum m n t u f g is e h k = is ∙ ap (λ (x : ℤ). x +ℤ (t *ℤ f)) e ∙ ap (λ (x : ℤ). n +ℤ (x *ℤ f)) h ∙ ap (λ (x : ℤ). n +ℤ (u *ℤ x)) k

-- one part more, and then the next
pub taken_times : (times before sum : ℤ) (c number : ℤ) (after : ℤ) (total : ℤ) → after ≡ (before +ℤ (times *ℤ sum)) → total ≡ (after +ℤ ((times *ℤ c) *ℤ number))
    → total ≡ (before +ℤ (times *ℤ (sum +ℤ (c *ℤ number))))
taken_times times before sum c number after total is more =
    let a = spread times sum (c *ℤ number) in
    let b = times_again times c number in
    omega (arith, ints, is, more, a, b)

pub parts_more : (times : ℤ) (values : List ℤ) (before after total : ℤ) (parts : List (ℤ × ℕ)) (k : ℕ) (d : ℤ × ℕ) (factor : ℤ) → k < length parts → factor ≡ (get_or parts k d).0
    → after ≡ (before +ℤ (times *ℤ parts_sum (take k parts) values)) → total ≡ (after +ℤ ((times *ℤ factor) *ℤ number_at values (get_or parts k d).1))
    → total ≡ (before +ℤ (times *ℤ parts_sum (take (k + 1) parts) values))
parts_more times values before after total parts k d factor low same is more =
    taken_times times before (parts_sum (take k parts) values) factor (number_at values (get_or parts k d).1) after total is more
    ∙ ap (λ (n : ℤ). before +ℤ (times *ℤ n))
    (ap (λ (f : ℤ). parts_sum (take k parts) values +ℤ (f *ℤ number_at values (get_or parts k d).1)) same ∙ sym (parts_push values (take k parts) (get_or parts k d))
    ∙ sym (ap (λ (ps : List (ℤ × ℕ)). parts_sum ps values) (take_more parts k d low)))

pub parts_all : (times : ℤ) (values : List ℤ) (before total : ℤ) (parts : List (ℤ × ℕ)) (k : ℕ) → length parts ≤ k → total ≡ (before +ℤ (times *ℤ parts_sum (take k parts) values))
    → total ≡ (before +ℤ (times *ℤ parts_sum parts values))
parts_all times values before total parts k all is = is ∙ ap (λ (ps : List (ℤ × ℕ)). before +ℤ (times *ℤ parts_sum ps values)) (take_all k parts all)

pub no_parts : (times : ℤ) (values : List ℤ) (before : ℤ) → before ≡ (before +ℤ (times *ℤ parts_sum [] values))
no_parts times values before =
    let none = parts_none values in
    let z : (times *ℤ pos 0) ≡ pos 0 = omega (arith, ints) in
    let same : (times *ℤ parts_sum [] values) ≡ (times *ℤ pos 0) = ap (λ (n : ℤ). times *ℤ n) none in
    omega (arith, ints, z, same)

-- ---- taking in

pub took_none : (var : ℕ) (old : List (ℤ × ℕ)) (coefficient : ℤ) → coefficient ≡ pos 0 → TakesIn (coefficient, var) old old
took_none var old coefficient none = record {
  sum = λ values.
      let z : (pos 0 *ℤ number_at values var) ≡ pos 0 = omega (arith, ints) in
      let same : (coefficient *ℤ number_at values var) ≡ (pos 0 *ℤ number_at values var) = ap (λ (n : ℤ). n *ℤ number_at values var) none in
      omega (arith, ints, z, same);
  names = λ count all low. all;
  small = λ all near. all;
}

pub took_one : (old : List (ℤ × ℕ)) (part : ℤ × ℕ) → TakesIn part old (old ++ part ∷ [])
took_one old part = record {
  sum = λ values. parts_push values old part;
  names = λ count all low. All-push (λ (p : ℤ × ℕ). p.1 < count) old part all low;
  small = λ all near. All-push (λ (p : ℤ × ℕ). IsWithinNumbers p.0) old part all near;
}

-- ---- comparisons

equal_times : (times sum number : ℤ) → int_eq sum number ≡ true → (times *ℤ sum) ≤ℤ (times *ℤ number)
equal_times times sum number holds =
    let same : sum ≡ number = (Decides-int_eq sum number).0 holds in
    let e : (times *ℤ sum) ≡ (times *ℤ number) = ap (λ (n : ℤ). times *ℤ n) same in
    omega (arith, ints, e)

-- a sum that compares so with a number is at most that number, both so many times
pub within_times : (operator : CompareOp) (times sum number : ℤ) → stays_within operator times ≡ true → IsTrue (compare_holds operator sum number) → (times *ℤ sum) ≤ℤ (times *ℤ number)
unfolding compare_holds
within_times op.Equal times sum number stays holds = equal_times times sum number holds
within_times op.NotEqual times sum number stays holds = absurd (false≢true stays)
within_times op.Less times sum number stays holds = rises times sum number (omega (arith, ints, stays)) (omega (arith, ints, holds))
within_times op.AtMost times sum number stays holds = rises times sum number (omega (arith, ints, stays)) (omega (arith, ints, holds))
within_times op.Greater times sum number stays holds = falls times sum number (omega (arith, ints, stays)) (omega (arith, ints, holds))
within_times op.AtLeast times sum number stays holds = falls times sum number (omega (arith, ints, stays)) (omega (arith, ints, holds))

-- a comparison came to a sum that holds
pub holds_with : (operator : CompareOp) (times number : ℤ) (parts : List (ℤ × ℕ)) (before after : List ℤ) (most more : ℤ) (values : List ℤ) → stays_within operator times ≡ true
    → more ≡ (most +ℤ (times *ℤ number)) → weighed 0 after values ≡ (weighed 0 before values +ℤ (times *ℤ parts_sum parts values))
    → IsTrue (compare_holds operator (parts_sum parts values) number) → weighed 0 before values ≤ℤ most → weighed 0 after values ≤ℤ more
holds_with operator times number parts before after most more values stays is sum holds low =
    let own = within_times operator times (parts_sum parts values) number stays holds in
    omega (arith, ints, own, is, sum, low)

-- what a sum without a variable of its truth says
pub says_compared : (values : List ℤ) (con : FlatCon) (parts : List (ℤ × ℕ)) (op : CompareOp) (number : ℤ) → con.truth ≡ None → con.kind ≡ linear parts op number
    → IsTrue (con_holds values con) → IsTrue (compare_holds op (parts_sum parts values) number)
unfolding con_holds is_as_said kind_holds
says_compared values con parts op number none is holds =
    subst (λ (k : FlatKind). IsTrue (kind_holds values k)) is (subst (λ (t : Option ℕ). IsTrue (is_as_said values t (kind_holds values con.kind))) none holds)

is_at_most : (a b : ℤ) → a ≤ℤ b → int_le a b ≡ true
is_at_most a b h = by (int_le a b) refl
  where
    by : (t : Bool) → int_le a b ≡ t → t ≡ true
    by true e = refl
    by false e = absurd (omega (arith, ints, h, e))

pub compares : (values : List ℤ) (parts : List (ℤ × ℕ)) (number : ℤ) → parts_sum parts values ≤ℤ number → IsTrue (con_holds values (record { truth = None; kind = linear parts op.AtMost number }))
unfolding con_holds is_as_said kind_holds compare_holds
compares values parts number low = is_at_most (parts_sum parts values) number low
