-- What the ends of intervals say of comparisons.
use Rattle.std.proofs.Common.{◌≡◌, ℕ, zero, suc, ◌<◌, ◌⊎◌, inl, inr, Bool, true, false, not, ℤ, pos, ◌+ℤ◌, ◌≤ℤ◌, List, [], ◌∷◌, length, Option, Some, None, refl, sym, ap, subst, ◌∙◌, arith, SFits, w64, to_z, of_z}
use Rattle.std.specs.Prelude.{◌<ℤ◌, ◌↔◌, IfSome, IsTrue, get_or, int_le, int_lt, option_map}
use Rattle.std.specs.List.{All, Any, Contains, list_any}
use Rattle.std.specs.Ordering.{int_eq}
use Rattle.std.proofs.lemmas.Bool.{false≢true}
use Rattle.std.proofs.lemmas.Bool.Decides.{Decides-int_eq}
use Rattle.std.proofs.lemmas.Cmp.{int_eq_equiv}
use Rattle.std.proofs.lemmas.Int.{ints, to_z-of_z}
use Rattle.std.proofs.lemmas.Map.Views.{Contains-from_any, list_any-from_Contains}
use Rattle.ep_base.proofs.RunSteps.{in_numbers}
use Rattle.ep_base.specs.Intervals.{Interval, LiesIn}
use Rattle.ep_base.specs.Numbers.{compare_holds, has_number}
use Rattle.ep_base.specs.Runs.{AreApart, IsIn, numbers}
use Rattle.ep_base.specs.declared.run_lists.Run.{Run}
use Rattle.ep_base.specs.declared.operators.CompareOp.{CompareOp}
use Rattle.ep_simplify.specs.Decided.{Decides, DecidesMember, IsNotEmpty, LacksAll}

less_so : (a b m n : ℤ) → m ≤ℤ a → b ≤ℤ n → int_lt a b ≡ true → int_lt m n ≡ true
less_so a b m n h g k = grind (arith, ints, h, g, k)

less_not : (a b m n : ℤ) → a ≤ℤ m → n ≤ℤ b → int_le b a ≡ true → int_lt m n ≡ false
less_not a b m n h g k = grind (arith, ints, h, g, k)

equal_not : (a b m n : ℤ) → m ≤ℤ a → b ≤ℤ n → int_lt a b ≡ true → int_eq m n ≡ false
equal_not a b m n h g k = grind (arith, ints, h, g, k)

le_is : (a b : ℤ) → int_le a b ≡ true → a ≤ℤ b
le_is a b h = grind (arith, ints, h)

lt_is : (a b : ℤ) → int_lt a b ≡ true → a <ℤ b
lt_is a b h = grind (arith, ints, h)

equal_so : (a b c d m n : ℤ) → a ≤ℤ m → m ≤ℤ b → c ≤ℤ n → n ≤ℤ d → int_le b c ≡ true → int_le d a ≡ true → m ≡ n
equal_so a b c d m n h g k l p q = omega (arith, ints, h, g, k, l, le_is b c p, le_is d a q)

turned : (m n : ℤ) → int_eq n m ≡ false → int_eq m n ≡ false
turned m n e = grind (arith, ints, e)

pub less_always : (i j : Interval) → int_lt i.high j.low ≡ true → Decides CompareOp.Less i j true
unfolding compare_holds
less_always i j h m n l k = less_so i.high j.low m n l.1 k.0 h

pub less_never : (i j : Interval) → int_le j.high i.low ≡ true → Decides CompareOp.Less i j false
unfolding compare_holds
less_never i j h m n l k = less_not i.low j.high m n l.0 k.1 h

pub equal_never : (i j : Interval) → int_lt i.high j.low ≡ true → Decides CompareOp.Equal i j false
unfolding compare_holds
equal_never i j h m n l k = equal_not i.high j.low m n l.1 k.0 h

pub equal_never_too : (i j : Interval) → int_lt j.high i.low ≡ true → Decides CompareOp.Equal i j false
unfolding compare_holds
equal_never_too i j h m n l k = turned m n (equal_not j.high i.low n m k.1 l.0 h)

pub equal_always : (i j : Interval) → int_le i.high j.low ≡ true → int_le j.high i.low ≡ true → Decides CompareOp.Equal i j true
unfolding compare_holds
equal_always i j h g m n l k = (Decides-int_eq m n).1 (equal_so i.low i.high j.low j.high m n l.0 l.1 k.0 k.1 h g)

-- the contrary of what is decided
contrary_less : (m n : ℤ) (b : Bool) → int_lt n m ≡ b → int_le m n ≡ not b
contrary_less m n true e = grind (arith, ints, e)
contrary_less m n false e = grind (arith, ints, e)

pub decided_not_equal : (i j : Interval) (b : Bool) → Decides CompareOp.Equal i j b → Decides CompareOp.NotEqual i j (not b)
unfolding compare_holds
decided_not_equal i j b h m n l k = ap not (h m n l k)

pub decided_at_most : (i j : Interval) (b : Bool) → Decides CompareOp.Less j i b → Decides CompareOp.AtMost i j (not b)
unfolding compare_holds
decided_at_most i j b h m n l k = contrary_less m n b (h n m k l)

pub decided_greater : (i j : Interval) (b : Bool) → Decides CompareOp.Less j i b → Decides CompareOp.Greater i j b
unfolding compare_holds
decided_greater i j b h m n l k = h n m k l

pub decided_at_least : (i j : Interval) (b : Bool) → Decides CompareOp.Less i j b → Decides CompareOp.AtLeast i j (not b)
unfolding compare_holds
decided_at_least i j b h m n l k = contrary_less n m b (h m n l k)

pub if_contrary : (P Q : Bool → Type 0) (o p : Option Bool) → p ≡ option_map not o → IfSome o P → ((b : Bool) → P b → Q (not b)) → IfSome p Q
if_contrary P Q None p e h k = subst (λ q. IfSome q Q) (sym e) tt
if_contrary P Q (Some b) p e h k = subst (λ q. IfSome q Q) (sym e) (k b h)

-- ---- members

-- a set has each number of an interval that one of its runs has
pub covered_has : (runs : List Run) (ns : List ℤ) (i : Interval) → numbers runs ≡ ns → ((n : ℤ) → LiesIn n i → Any (IsIn n) runs) → (n : ℤ) → LiesIn n i → has_number ns n ≡ true
unfolding has_number
covered_has runs ns i same h n l = list_any-from_Contains int_eq_equiv n ns (subst (λ xs. Contains xs n) same ((in_numbers runs n).1 (h n l)))

-- it has none where no run has one
pub apart_lacks : (runs : List Run) (ns : List ℤ) (i : Interval) → numbers runs ≡ ns → All (LacksAll i) runs → (n : ℤ) → LiesIn n i → has_number ns n ≡ false
unfolding has_number
apart_lacks runs ns i same h n l = by (list_any (int_eq n) ns) refl
  where
    by : (b : Bool) → list_any (int_eq n) ns ≡ b → list_any (int_eq n) ns ≡ false
    by false e = e
    by true e =
        let found = (in_numbers runs n).0 (subst (λ xs. Contains xs n) (sym same) (Contains-from_any (λ x y f. (Decides-int_eq x y).0 f) n ns e)) in
        absurd (subst (LacksAll i) found.3 (h found.0 found.1 found.2) n l found.4)

pub run_above : (i : Interval) (run : Run) → int_lt i.high run.lo ≡ true → LacksAll i run
run_above i run e n l k = let h = lt_is i.high run.lo e in let a = l.1 in let b = k.0 in omega (arith, ints, h, a, b)

pub run_below : (i : Interval) (run : Run) → int_lt run.hi i.low ≡ true → LacksAll i run
run_below i run e n l k = let h = lt_is run.hi i.low e in let a = l.0 in let b = k.1 in omega (arith, ints, h, a, b)

-- a test of two words is one of the numbers that they stand for
pub words_lt : (a b : ℤ) → SFits w64 a → SFits w64 b → int_lt (to_z w64 (of_z w64 a)) (to_z w64 (of_z w64 b)) ≡ true → int_lt a b ≡ true
words_lt a b h g e = sym (λ i. int_lt (to_z-of_z w64 a h i) (to_z-of_z w64 b g i)) ∙ e

pub words_le : (a b : ℤ) → SFits w64 a → SFits w64 b → int_le (to_z w64 (of_z w64 a)) (to_z w64 (of_z w64 b)) ≡ true → int_le a b ≡ true
words_le a b h g e = sym (λ i. int_le (to_z-of_z w64 a h i) (to_z-of_z w64 b g i)) ∙ e

pub less_is : (a b : ℤ) (o : Bool) → SFits w64 a → SFits w64 b → int_lt (to_z w64 (of_z w64 a)) (to_z w64 (of_z w64 b)) ≡ o → int_lt a b ≡ o
less_is a b o h g e = sym (λ i. int_lt (to_z-of_z w64 a h i) (to_z-of_z w64 b g i)) ∙ e

pub at_most_is : (a b : ℤ) (o : Bool) → SFits w64 a → SFits w64 b → int_le (to_z w64 (of_z w64 a)) (to_z w64 (of_z w64 b)) ≡ o → int_le a b ≡ o
at_most_is a b o h g e = sym (λ i. int_le (to_z-of_z w64 a h i) (to_z-of_z w64 b g i)) ∙ e

-- ---- what ends leave undecided

low_in : (i : Interval) → IsNotEmpty i → LiesIn i.low i
low_in i h = (omega (arith, ints), h)

high_in : (i : Interval) → IsNotEmpty i → LiesIn i.high i
high_in i h = (h, omega (arith, ints))

true_false : (b : Bool) → b ≡ true → b ≡ false → ⊥
true_false b e d = false≢true (sym d ∙ e)

pub less_open : (i j : Interval) → int_lt i.high j.low ≡ false → int_le j.high i.low ≡ false → IsNotEmpty i → IsNotEmpty j → (known : Bool) → Decides CompareOp.Less i j known → ⊥
unfolding compare_holds
less_open i j below above hi hj true d = true_false (int_lt i.high j.low) (d i.high j.low (high_in i hi) (low_in j hj)) below
less_open i j below above hi hj false d = true_false (int_le j.high i.low) (contrary_less j.high i.low false (d i.low j.high (low_in i hi) (high_in j hj))) above

not_less : (a b : ℤ) → int_lt a b ≡ false → b ≤ℤ a
not_less a b h = grind (arith, ints, h)

not_least : (a b : ℤ) → int_le a b ≡ false → b ≤ℤ a
not_least a b h = grind (arith, ints, h)

is_at_most : (a b : ℤ) → a ≡ b → int_le a b ≡ true
is_at_most a b e = grind (arith, ints, e)

-- intervals that meet have a number in common
common : (i j : Interval) → int_lt i.high j.low ≡ false → int_lt j.high i.low ≡ false → IsNotEmpty i → IsNotEmpty j → (n : ℤ) × LiesIn n i × LiesIn n j
common i j below above hi hj = by (int_le i.low j.low) refl
  where
    by : (b : Bool) → int_le i.low j.low ≡ b → (n : ℤ) × LiesIn n i × LiesIn n j
    by true e = (j.low, (le_is i.low j.low e, not_less i.high j.low below), low_in j hj)
    by false e = (i.low, low_in i hi, (not_least i.low j.low e, not_less j.high i.low above))

equal_open : (i j : Interval) → int_lt i.high j.low ≡ false → int_lt j.high i.low ≡ false → (int_le i.high j.low ≡ true → int_le j.high i.low ≡ true → ⊥) → IsNotEmpty i → IsNotEmpty j → (known : Bool) → Decides CompareOp.Equal i j known → ⊥
unfolding compare_holds
equal_open i j below above apart hi hj true d =
    apart (is_at_most i.high j.low ((Decides-int_eq i.high j.low).0 (d i.high j.low (high_in i hi) (low_in j hj))))
    (is_at_most j.high i.low (sym ((Decides-int_eq i.low j.high).0 (d i.low j.high (low_in i hi) (high_in j hj)))))
equal_open i j below above apart hi hj false d =
    let c = common i j below above hi hj in
    true_false (int_eq c.0 c.0) ((Decides-int_eq c.0 c.0).1 refl) (d c.0 c.0 c.1 c.2)

pub equal_open_above : (i j : Interval) → int_lt i.high j.low ≡ false → int_lt j.high i.low ≡ false → int_lt j.low i.high ≡ true → IsNotEmpty i → IsNotEmpty j → (known : Bool) → Decides CompareOp.Equal i j known → ⊥
equal_open_above i j below above past = equal_open i j below above (λ p q. true_false (int_le i.high j.low) p (contrary_less i.high j.low true past))

pub equal_open_below : (i j : Interval) → int_lt i.high j.low ≡ false → int_lt j.high i.low ≡ false → int_lt i.low j.high ≡ true → IsNotEmpty i → IsNotEmpty j → (known : Bool) → Decides CompareOp.Equal i j known → ⊥
equal_open_below i j below above past = equal_open i j below above (λ p q. true_false (int_le j.high i.low) q (contrary_less j.high i.low true past))

pub not_past : (a b : ℤ) → int_lt b a ≡ false → int_le a b ≡ true
not_past a b e = contrary_less a b false e

-- the contrary decides as much
turned_not : (b c : Bool) → not b ≡ c → b ≡ not c
turned_not true true e = absurd cc
turned_not true false e = refl
turned_not false true e = refl
turned_not false false e = absurd cc

turned_less : (m n : ℤ) (b : Bool) → int_le m n ≡ b → int_lt n m ≡ not b
turned_less m n true e = grind (arith, ints, e)
turned_less m n false e = grind (arith, ints, e)

pub open_not_equal : (i j : Interval) → ((b : Bool) → Decides CompareOp.Equal i j b → ⊥) → (known : Bool) → Decides CompareOp.NotEqual i j known → ⊥
unfolding compare_holds
open_not_equal i j h known d = h (not known) (λ m n l k. turned_not (int_eq m n) known (d m n l k))

pub open_at_most : (i j : Interval) → ((b : Bool) → Decides CompareOp.Less j i b → ⊥) → (known : Bool) → Decides CompareOp.AtMost i j known → ⊥
unfolding compare_holds
open_at_most i j h known d = h (not known) (λ m n l k. turned_less n m known (d n m k l))

pub open_greater : (i j : Interval) → ((b : Bool) → Decides CompareOp.Less j i b → ⊥) → (known : Bool) → Decides CompareOp.Greater i j known → ⊥
unfolding compare_holds
open_greater i j h known d = h known (λ m n l k. d n m k l)

pub open_at_least : (i j : Interval) → ((b : Bool) → Decides CompareOp.Less i j b → ⊥) → (known : Bool) → Decides CompareOp.AtLeast i j known → ⊥
unfolding compare_holds
open_at_least i j h known d = h (not known) (λ m n l k. turned_less n m known (d m n l k))

-- a contrary that isn't there is that of nothing
pub none_before : (o p : Option Bool) → p ≡ option_map not o → p ≡ None → o ≡ None
none_before None p e none = refl
none_before (Some b) p e none = absurd (none_some (sym none ∙ e))
  where
    none_some : None ≡ Some (not b) → ⊥
    none_some f = cc

-- ---- members that are left undecided

-- a run covers an interval within its ends
pub run_covers : (i : Interval) (run : Run) (n : ℤ) → int_lt i.low run.lo ≡ false → int_lt run.hi i.high ≡ false → LiesIn n i → IsIn n run
run_covers i run n h g l = let a = not_less i.low run.lo h in let b = not_less run.hi i.high g in (omega (arith, ints, a, l.0), omega (arith, ints, b, l.1))

pub run_starts_behind : (i : Interval) (run : Run) → int_lt i.low run.lo ≡ true → run.lo ≤ℤ i.low → ⊥
run_starts_behind i run e h = let a = lt_is i.low run.lo e in omega (arith, ints, a, h)

pub run_ends_before : (i : Interval) (run : Run) → int_lt run.hi i.high ≡ true → i.high ≤ℤ run.hi → ⊥
run_ends_before i run e h = let a = lt_is run.hi i.high e in omega (arith, ints, a, h)

one_default : (runs : List Run) (k : ℕ) (d e : Run) → k < length runs → get_or runs k d ≡ get_or runs k e
one_default [] k d e h = absurd (omega (arith, h))
one_default (run ∷ runs) zero d e h = refl
one_default (run ∷ runs) (suc k) d e h = one_default runs k d e (omega (arith, h))

pub any_here : (P : Run → Type 0) (runs : List Run) (k : ℕ) (d : Run) → k < length runs → P (get_or runs k d) → Any P runs
any_here P runs k d l p = (k, get_or runs k d, l, one_default runs k (get_or runs k d) d l, p)

three_ways : (a b : ℕ) → (a < b) ⊎ ((b < a) ⊎ (a ≡ b))
three_ways zero zero = inr (inr refl)
three_ways zero (suc b) = inl (omega arith)
three_ways (suc a) zero = inr (inl (omega arith))
three_ways (suc a) (suc b) = elim (three_ways a b) as (λ _. (suc a < suc b) ⊎ ((suc b < suc a) ⊎ (suc a ≡ suc b))) [
  | inl h ↦ inl (omega (arith, h))
  | inr r ↦ elim r as (λ _. (suc a < suc b) ⊎ ((suc b < suc a) ⊎ (suc a ≡ suc b))) [
    | inl h ↦ inr (inl (omega (arith, h)))
    | inr h ↦ inr (inr (ap suc h))
  ]
]

-- no run has the number behind one that lies apart
next_free : (runs : List Run) (k j : ℕ) (run other : Run) → AreApart runs → k < length runs → j < length runs → get_or runs k run ≡ run → get_or runs j other ≡ other → run.lo ≤ℤ run.hi → other.lo ≤ℤ (run.hi +ℤ pos 1) → (run.hi +ℤ pos 1) ≤ℤ other.hi → ⊥
next_free runs k j run other apart lk lj at_k at_j filled low high =
    let other_is : get_or runs j run ≡ other = one_default runs j run other lj ∙ at_j in
    elim (three_ways k j) as (λ _. ⊥) [
      | inl less ↦ let gap = subst (λ r. (run.hi +ℤ pos 1) <ℤ r.lo) other_is (subst (λ r. (r.hi +ℤ pos 1) <ℤ (get_or runs j run).lo) at_k (apart.gaps k j run less lj)) in omega (arith, ints, gap, low)
      | inr r ↦ elim r as (λ _. ⊥) [
        | inl less ↦ let gap = subst (λ r. (r.hi +ℤ pos 1) <ℤ run.lo) other_is (subst (λ r. ((get_or runs j run).hi +ℤ pos 1) <ℤ r.lo) at_k (apart.gaps j k run less lk)) in omega (arith, ints, gap, high, filled)
        | inr same ↦ let one = subst (λ r. (run.hi +ℤ pos 1) ≤ℤ r.hi) (sym other_is ∙ ap (λ p. get_or runs p run) (sym same) ∙ at_k) high in omega (arith, ints, one)
      ]
    ]

-- runs that lie apart have an interval only where one of them has all of it
pub not_covered : (runs : List Run) (i : Interval) → AreApart runs → All (λ run. run.lo ≤ℤ i.low → i.high ≤ℤ run.hi → ⊥) runs → IsNotEmpty i → ((n : ℤ) → LiesIn n i → Any (IsIn n) runs) → ⊥
not_covered runs i apart none filled h = at_run (h i.low (low_in i filled))
  where
    at_run : Any (IsIn i.low) runs → ⊥
    at_run found = by (int_lt run.hi i.high) refl
      where
        run : Run
        run = found.1

        by : (b : Bool) → int_lt run.hi i.high ≡ b → ⊥
        by false e = subst (λ (r : Run). r.lo ≤ℤ i.low → i.high ≤ℤ r.hi → ⊥) found.3 (none found.0 run found.2) found.4.0 (not_less run.hi i.high e)
        by true e =
            let past : run.hi <ℤ i.high = lt_is run.hi i.high e in
            let first : run.lo ≤ℤ i.low = found.4.0 in
            let last : i.low ≤ℤ run.hi = found.4.1 in
            let next = h (run.hi +ℤ pos 1) (omega (arith, ints, last), omega (arith, ints, past)) in
            next_free runs found.0 next.0 run next.1 apart found.2 next.2 found.3 next.3 (omega (arith, ints, first, last)) next.4.0 next.4.1

-- a run that meets an interval has one of its numbers
pub run_meets : (i : Interval) (run : Run) → int_lt run.hi i.low ≡ false → int_lt i.high run.lo ≡ false → run.lo ≤ℤ run.hi → IsNotEmpty i → LacksAll i run → ⊥
run_meets i run below above filled h none = by (int_le i.low run.lo) refl
  where
    by : (b : Bool) → int_le i.low run.lo ≡ b → ⊥
    by true e = none run.lo (le_is i.low run.lo e, not_less i.high run.lo above) (omega (arith, ints), filled)
    by false e = none i.low (low_in i h) (not_least i.low run.lo e, not_less run.hi i.low below)

-- a set that has some numbers of an interval, and not all, is undecided
pub open_member : (runs : List Run) (ns : List ℤ) (i : Interval) → numbers runs ≡ ns → (((n : ℤ) → LiesIn n i → Any (IsIn n) runs) → ⊥) → (All (LacksAll i) runs → ⊥) → (known : Bool) → DecidesMember i ns known → ⊥
unfolding has_number
open_member runs ns i same some any true d = some (λ n l. (in_numbers runs n).0 (subst (λ xs. Contains xs n) (sym same) (Contains-from_any (λ x y f. (Decides-int_eq x y).0 f) n ns (d n l))))
open_member runs ns i same some any false d = any (λ k e l n lies inside.
    let run = get_or runs k e in
    true_false (list_any (int_eq n) ns) (list_any-from_Contains int_eq_equiv n ns (subst (λ xs. Contains xs n) same ((in_numbers runs n).1 (k, run, l, one_default runs k run e l, inside)))) (d n lies))

-- whether a set has a number
pub has_is : (ns : List ℤ) (n : ℤ) (b : Bool) → IsTrue b ↔ Contains ns n → has_number ns n ≡ b
unfolding has_number
has_is ns n true h = list_any-from_Contains int_eq_equiv n ns (h.0 refl)
has_is ns n false h = by (list_any (int_eq n) ns) refl
  where
    by : (b : Bool) → list_any (int_eq n) ns ≡ b → list_any (int_eq n) ns ≡ false
    by false e = e
    by true e = absurd (false≢true (h.1 (Contains-from_any (λ x y f. (Decides-int_eq x y).0 f) n ns e)))
