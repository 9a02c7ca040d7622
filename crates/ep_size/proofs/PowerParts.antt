-- Powers of the numbers between two ends.
use Rattle.ep_size.proofs.Words.{◌≡◌, ℕ, ℤ, pos, negsuc, Bool, true, false, refl, sym, ap, subst, ◌∙◌, arith, Option, Some, None, Ok, Err, Result, int_lt, IfSome, IsSome, ints, Interval, farthest_end, nth_power_interval, only, power_interval, IsWithinReach, absolute_of, is_too_far, untold_reach, wide_interval, WideSpan, MeasuredIndex, fixed_index, measured_index, wide_span, plain_span, Gives, measured_of, SizeError, Limit, Indexed, Stated}
use Rattle.ep_base.specs.declared.operators.Limit.{Limit as LimitName}
use Rattle.ep_tree.specs.Reach as defined
use Rattle.ep_size.specs.declared.extents.Span.{Span}

-- a power whose interval is told is as near as that
pub gives_told : (o : Option WideSpan) (wide : WideSpan) (r : Result Span SizeError) (i : Interval) → o ≡ Some wide → IfSome o (λ w. wide_interval w ≡ i)
    → Gives r (wide_span (wide_interval wide)) → Gives r (wide_span i)
gives_told o wide r i is same gives = subst (λ j. Gives r (wide_span j)) (subst (λ p. IfSome p (λ w. wide_interval w ≡ i)) is same) gives

-- one that isn't told is refused
pub gives_untold : (o : Option WideSpan) (i : Interval) → (IsWithinReach i → IsSome o) → o ≡ None → Gives (Err (Limit LimitName.Reach)) (wide_span i)
unfolding wide_span
gives_untold o i told is = (refl, untold_reach o i told is)

-- ---- single numbers

pub gives_undefined : (s : Span) (i : Interval) (n : Option ℤ) → plain_span s ≡ wide_span (only (pos 0)) → power_interval i n ≡ only (pos 0)
    → Gives (Ok s) (wide_span (power_interval i n))
unfolding wide_span is_too_far farthest_end absolute_of
gives_undefined s i n same none = subst (λ j. Gives (Ok s) (wide_span j)) (sym none) (same, refl)

pub negative_power : (i : Interval) (n : ℤ) → int_lt n (pos 0) ≡ true → power_interval i (Some n) ≡ only (pos 0)
unfolding power_interval
negative_power i (pos n) h = absurd (let e : int_lt (pos n) (pos 0) ≡ true = h in grind (arith, ints))
negative_power i (negsuc n) h = refl

pub no_power : (i : Interval) → power_interval i None ≡ only (pos 0)
unfolding power_interval
no_power i = refl

pub positive_power : (r : Result Span SizeError) (i : Interval) (n : ℤ) (k : ℕ) → Gives r (wide_span (nth_power_interval i k)) → n ≡ pos k
    → Gives r (wide_span (power_interval i (Some n)))
unfolding power_interval
positive_power r i n k gives is = subst (λ m. Gives r (wide_span (power_interval i (Some m)))) (sym is) gives

stated_by : (b : Bool) (s : defined.Span) (m n : Option ℤ) → fixed_index m ≡ measured_index b s n → m ≡ n
unfolding measured_index
stated_by true s m n h = absurd cc
stated_by false s m n h = of_fixed h
  where
    told : MeasuredIndex → Option ℤ
    told (fixed_index k) = k
    told _ = None

    of_fixed : fixed_index m ≡ fixed_index n → m ≡ n
    of_fixed e = ap told e

-- the number of an exponent without a decision variable
pub stated_is : (index : Indexed) (b : Bool) (s : defined.Span) (m n : Option ℤ) → index ≡ Stated m → measured_of index ≡ measured_index b s n → m ≡ n
unfolding measured_of
stated_is index b s m n is h = stated_by b s m n (sym (ap measured_of is) ∙ h)
