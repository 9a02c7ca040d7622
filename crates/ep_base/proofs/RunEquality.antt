-- Sets of numbers are equal exactly where their runs are, and what is hashed of one is found in its runs.
use Rattle.std.proofs.Common.{◌≡◌, ◌↔◌, inl, inr, zero, suc, ℤ, pos, negsuc, ◌+ℤ◌, ◌-ℤ◌, ◌<ℤ◌, ◌≤ℤ◌, List, [], ◌∷◌, ◌++◌, ◌&&◌, Some, refl, sym, ap, subst, ◌∙◌, arith, slice_get}
use Rattle.std.specs.Bool.{Decides}
use Rattle.std.specs.Cmp.Lexicographic.{pointwise, pointwise_decides}
use Rattle.std.specs.List.{Any, Contains}
use Rattle.std.specs.Ordering.{int_eq}
use Rattle.std.specs.Option.{option_map}
use Rattle.std.proofs.lemmas.Bool.Decides.{Decides-and, Decides-int_eq, Decides-like, same_from_decides}
use Rattle.std.proofs.lemmas.Int.{ints, by_lt_z}
use Rattle.ep_base.specs.declared.run_lists.Run.{Run}
use Rattle.ep_base.specs.Runs.{IsIn, counting, numbers_in, numbers, or_zero, AreApart}
use Rattle.ep_base.proofs.RunSteps.{in_numbers, any_cons_cases, apart_tail}

-- a number of a later run lies behind a gap after the first one
later_above : (x : Run) (xs : List Run) (v : ℤ) → AreApart (x ∷ xs) → Any (IsIn v) xs → (x.hi +ℤ pos 1) <ℤ v
later_above x xs v h a =
    let gap = subst (λ later. (x.hi +ℤ pos 1) <ℤ later.lo) a.3 (h.gaps 0 (suc a.0) a.1 (omega arith) (omega (arith, a.2))) in
    omega (arith, ints, gap, a.4.0)

first_filled : (x : Run) (xs : List Run) → AreApart (x ∷ xs) → x.lo ≤ℤ x.hi
first_filled x xs h = h.filled 0 x (omega arith)

in_first : (x : Run) (xs : List Run) (v : ℤ) → IsIn v x → Any (IsIn v) (x ∷ xs)
in_first x xs v w = (0, x, omega arith, refl, w)

in_later : (x : Run) (xs : List Run) (v : ℤ) → Any (IsIn v) xs → Any (IsIn v) (x ∷ xs)
in_later x xs v a = (suc a.0, a.1, omega (arith, a.2), a.3, a.4)

none_in : {P : Type 0} (v : ℤ) → Any (IsIn v) [] → P
none_in v a = absurd (omega (arith, a.2))

-- the first number of one list is no greater than that of another in which it stands
start_at_most : (x : Run) (xs : List Run) (v : ℤ) → AreApart (x ∷ xs) → Any (IsIn v) (x ∷ xs) → x.lo ≤ℤ v
start_at_most x xs v h a =
    elim (any_cons_cases (IsIn v) x xs a) as (λ _. x.lo ≤ℤ v) [
      | inl w ↦ w.0
      | inr w ↦ let above = later_above x xs v h w in let here = first_filled x xs h in omega (arith, ints, above, here)
    ]

-- the first run of one list ends no later than that of another that starts with the same number and has its numbers
end_at_most : (x y : Run) (xs ys : List Run) → AreApart (x ∷ xs) → AreApart (y ∷ ys) → x.lo ≡ y.lo → ((v : ℤ) → Any (IsIn v) (y ∷ ys) → Any (IsIn v) (x ∷ xs)) → y.hi ≤ℤ x.hi
end_at_most x y xs ys h g e keeps =
    by_lt_z x.hi y.hi
    (λ lt.
    let here = first_filled x xs h in
    elim (any_cons_cases (IsIn (x.hi +ℤ pos 1)) x xs (keeps (x.hi +ℤ pos 1) (in_first y ys (x.hi +ℤ pos 1) (omega (arith, ints, e, here), omega (arith, ints, lt))))) as (λ _. y.hi ≤ℤ x.hi) [
      | inl w ↦ absurd (omega (arith, ints, w.1))
      | inr w ↦ let above = later_above x xs (x.hi +ℤ pos 1) h w in absurd (omega (arith, ints, above))
    ])
    (λ le. le)

-- a number of a later run of one list is one of a later run of another whose first run ends with the same number
kept_behind : (x y : Run) (xs ys : List Run) (v : ℤ) → AreApart (x ∷ xs) → x.hi ≡ y.hi → (Any (IsIn v) (x ∷ xs) → Any (IsIn v) (y ∷ ys)) → Any (IsIn v) xs → Any (IsIn v) ys
kept_behind x y xs ys v h e keeps a =
    elim (any_cons_cases (IsIn v) y ys (keeps (in_later x xs v a))) as (λ _. Any (IsIn v) ys) [
      | inl w ↦ let above = later_above x xs v h a in absurd (omega (arith, ints, above, e, w.1))
      | inr w ↦ w
    ]

same_run : (x y : Run) → x.lo ≡ y.lo → x.hi ≡ y.hi → x ≡ y
same_run x y e g = λ i. record { lo = e i; hi = g i }

runs_are_equal : (xs ys : List Run) → AreApart xs → AreApart ys → ((v : ℤ) → Any (IsIn v) xs ↔ Any (IsIn v) ys) → xs ≡ ys
runs_are_equal [] [] h g same = refl
runs_are_equal [] (y ∷ ys) h g same = none_in y.lo ((same y.lo).1 (in_first y ys y.lo (omega (arith, ints), first_filled y ys g)))
runs_are_equal (x ∷ xs) [] h g same = none_in x.lo ((same x.lo).0 (in_first x xs x.lo (omega (arith, ints), first_filled x xs h)))
runs_are_equal (x ∷ xs) (y ∷ ys) h g same =
    let down = start_at_most y ys x.lo g ((same x.lo).0 (in_first x xs x.lo (omega (arith, ints), first_filled x xs h))) in
    let up = start_at_most x xs y.lo h ((same y.lo).1 (in_first y ys y.lo (omega (arith, ints), first_filled y ys g))) in
    let start : x.lo ≡ y.lo = omega (arith, ints, down, up) in
    let start' : y.lo ≡ x.lo = sym start in
    let low = end_at_most x y xs ys h g start (λ v. (same v).1) in
    let high = end_at_most y x ys xs g h start' (λ v. (same v).0) in
    let end : x.hi ≡ y.hi = omega (arith, ints, low, high) in
    let end' : y.hi ≡ x.hi = sym end in
    let rest = runs_are_equal xs ys (apart_tail x xs h) (apart_tail y ys g)
    (λ v. (kept_behind x y xs ys v h end (same v).0, kept_behind y x ys xs v g end' (same v).1)) in
    ap (λ r. r ∷ xs) (same_run x y start end) ∙ ap (λ rs. y ∷ rs) rest

-- runs of the same numbers are the same runs
pub runs_from_numbers : (xs ys : List Run) → AreApart xs → AreApart ys → numbers xs ≡ numbers ys → xs ≡ ys
runs_from_numbers xs ys h g e =
    runs_are_equal xs ys h g (λ v. (
      λ a. (in_numbers ys v).0 (subst (λ ns. Contains ns v) e ((in_numbers xs v).1 a)),
      λ a. (in_numbers xs v).0 (subst (λ ns. Contains ns v) (sym e) ((in_numbers ys v).1 a)),
    ))

run_decides : (x y : Run) → Decides (int_eq x.lo y.lo && int_eq x.hi y.hi) (x ≡ y)
run_decides x y =
    Decides-like (int_eq x.lo y.lo && int_eq x.hi y.hi)
    (λ p. same_run x y p.0 p.1) (λ e. (ap (λ r. r.lo) e, ap (λ r. r.hi) e))
    (Decides-and (int_eq x.lo y.lo) (int_eq x.hi y.hi) (Decides-int_eq x.lo y.lo) (Decides-int_eq x.hi y.hi))

-- runs compare as their numbers do
pub runs_compare : (xs ys : List Run) → AreApart xs → AreApart ys → pointwise (λ x y. int_eq x.lo y.lo && int_eq x.hi y.hi) xs ys ≡ pointwise int_eq (numbers xs) (numbers ys)
runs_compare xs ys h g =
    same_from_decides _ _
    (pointwise_decides run_decides xs ys)
    (Decides-like (pointwise int_eq (numbers xs) (numbers ys)) (runs_from_numbers xs ys h g) (λ e. ap numbers e) (pointwise_decides Decides-int_eq (numbers xs) (numbers ys)))

counting_starts : (first : ℤ) (n : ℤ) → (rest : List ℤ) → pos 0 <ℤ n → slice_get (counting first (or_zero n) ++ rest) 0 ≡ Some first
unfolding counting
counting_starts first (pos zero) rest h = absurd (omega (arith, ints, h))
counting_starts first (pos (suc n)) rest h = refl
counting_starts first (negsuc n) rest h = absurd (omega (arith, ints, h))

-- the first run starts with the least number
pub first_number : (runs : List Run) → AreApart runs → option_map (λ run. run.lo) (slice_get runs 0) ≡ slice_get (numbers runs) 0
unfolding numbers numbers_in
first_number [] h = refl
first_number (run ∷ runs) h =
    let here = first_filled run runs h in
    sym (counting_starts run.lo ((run.hi +ℤ pos 1) -ℤ run.lo) (numbers runs) (omega (arith, ints, here)))
