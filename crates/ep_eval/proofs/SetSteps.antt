-- Operations on sets of numbers, run by run.
use Rattle.ep_eval.proofs.Words.{◌≡◌, ℕ, ◌+◌, ◌<◌, ◌≤◌, Bool, true, false, not, ◌&&◌, ◌||◌, List, [], ◌∷◌, ◌++◌, length, take, get_or, ℤ, pos, ◌+ℤ◌, ◌-ℤ◌, Some, refl, sym, ap, ap₂, subst, ◌∙◌, arith, ◌↔◌, int_le, int_lt, int_max, int_min, int_eq, Any, ints, take_all, take_more, list_any-append, or-false, some_is, has_number, IsAscending, IsIn, numbers, numbers_in, Run, between-has, set_values-has, between, count_between, set_has, set_values, SetOp, run_has, runs_have}
use Rattle.std.specs.List.{Contains}
use Rattle.ep_eval.proofs.RangeNumbers.{set_is}

-- one run behind others
pub has_behind : (n : ℤ) (runs : List Run) (run : Run) → runs_have n (runs ++ run ∷ []) ≡ (runs_have n runs || run_has n run)
has_behind n runs run = list_any-append (run_has n) runs (run ∷ []) ∙ ap (λ b. runs_have n runs || b) (or-false (run_has n run))

-- one run further
pub has_more : (n : ℤ) (runs : List Run) (i : ℕ) (run : Run) → i < length runs → run ≡ get_or runs i run
    → runs_have n (take (i + 1) runs) ≡ (runs_have n (take i runs) || run_has n run)
has_more n runs i run within is =
    ap (runs_have n) (take_more runs i run within ∙ ap (λ r. take i runs ++ r ∷ []) (sym is)) ∙ has_behind n (take i runs) run

pub has_all : (n : ℤ) (runs : List Run) (i : ℕ) → length runs ≤ i → runs_have n (take i runs) ≡ runs_have n runs
has_all n runs i h = ap (runs_have n) (take_all i runs h)

pub or_none : (b : Bool) → b ≡ (b || false)
or_none true = refl
or_none false = refl

pub overlap_has : (n a b c d : ℤ) → (int_le (int_max a c) n && int_le n (int_min b d)) ≡ ((int_le a n && int_le n b) && (int_le c n && int_le n d))
overlap_has n a b c d = grind (arith, ints)

pub none_below : (n lo hi low : ℤ) (b : Bool) → int_lt lo low ≡ false → b ≡ (b || ((int_le lo n && int_le n hi) && int_lt n low))
none_below n lo hi low b h = or_none b ∙ ap (λ x. b || x) (nothing n lo hi low h)
  where
    nothing : (n lo hi low : ℤ) → int_lt lo low ≡ false → false ≡ ((int_le lo n && int_le n hi) && int_lt n low)
    nothing n lo hi low h = grind (arith, ints, h)

pub none_above : (n lo hi high : ℤ) (b : Bool) → int_le hi high ≡ true → b ≡ (b || ((int_le lo n && int_le n hi) && int_lt high n))
none_above n lo hi high b h = or_none b ∙ ap (λ x. b || x) (nothing n lo hi high h)
  where
    nothing : (n lo hi high : ℤ) → int_le hi high ≡ true → false ≡ ((int_le lo n && int_le n hi) && int_lt high n)
    nothing n lo hi high h = grind (arith, ints, h)

pub some_below : (n lo hi low most : ℤ) → most ≡ int_min hi (low -ℤ pos 1) → (int_le lo n && int_le n most) ≡ ((int_le lo n && int_le n hi) && int_lt n low)
some_below n lo hi low most is = ap (λ m. int_le lo n && int_le n m) is ∙ by n lo hi low
  where
    by : (n lo hi low : ℤ) → (int_le lo n && int_le n (int_min hi (low -ℤ pos 1))) ≡ ((int_le lo n && int_le n hi) && int_lt n low)
    by n lo hi low = grind (arith, ints)

pub some_above : (n lo hi high least : ℤ) → least ≡ int_max lo (high +ℤ pos 1) → (int_le least n && int_le n hi) ≡ ((int_le lo n && int_le n hi) && int_lt high n)
some_above n lo hi high least is = ap (λ m. int_le m n && int_le n hi) is ∙ by n lo hi high
  where
    by : (n lo hi high : ℤ) → (int_le (int_max lo (high +ℤ pos 1)) n && int_le n hi) ≡ ((int_le lo n && int_le n hi) && int_lt high n)
    by n lo hi high = grind (arith, ints)

-- below or above another run is outside it
outside : (n a b lo hi : ℤ) (before : Bool) → ((before || ((int_le a n && int_le n b) && int_lt n lo)) || ((int_le a n && int_le n b) && int_lt hi n))
    ≡ (before || ((int_le a n && int_le n b) && not (int_le lo n && int_le n hi)))
outside n a b lo hi true = refl
outside n a b lo hi false = grind (arith, ints)

-- ---- loops over runs, in Booleans

pub overlaps_one : (a b x c : Bool) → ((a || (b && c)) || (x && c)) ≡ (a || ((b || x) && c))
overlaps_one true b x c = refl
overlaps_one false true x true = refl
overlaps_one false true true false = refl
overlaps_one false true false false = refl
overlaps_one false false x c = refl

pub outside_one : (a x c : Bool) → ((a && not c) || (x && not c)) ≡ ((a || x) && not c)
outside_one true x true = and_last x
  where
    and_last : (b : Bool) → (b && false) ≡ false
    and_last true = refl
    and_last false = refl
outside_one true x false = refl
outside_one false x c = refl

-- ---- sets

has_append : (n : ℤ) (xs ys : List ℤ) → has_number (xs ++ ys) n ≡ (has_number xs n || has_number ys n)
unfolding has_number
has_append n xs ys = list_any-append (λ y. int_eq n y) xs ys

run_numbers : (n : ℤ) (run : Run) → has_number (numbers_in run) n ≡ run_has n run
unfolding numbers_in between count_between
run_numbers n run = between-has n run.lo run.hi

-- runs have the numbers of their set
pub has_numbers : (n : ℤ) (runs : List Run) → runs_have n runs ≡ has_number (numbers runs) n
unfolding numbers has_number
has_numbers n [] = refl
has_numbers n (run ∷ runs) = ap₂ ◌||◌ (sym (run_numbers n run)) (has_numbers n runs) ∙ sym (has_append n (numbers_in run) (numbers runs))

-- the set of an operation's runs
pub operation_is : (op : SetOp) (set xs ys : List ℤ) (one other parts : List Run) → IsAscending set → ((n : ℤ) → Contains set n ↔ Any (IsIn n) parts)
    → numbers one ≡ xs → numbers other ≡ ys → ((n : ℤ) → runs_have n parts ≡ set_has op (runs_have n one) (runs_have n other))
    → IsAscending (set_values op xs ys) → set ≡ set_values op xs ys
operation_is op set xs ys one other parts ascends same first second told up =
    some_is (set_is set parts ascends same (Some (set_values op xs ys)) (λ ns e. subst IsAscending (some_is e) up)
    (λ n. ap Some (told n ∙ ap₂ (set_has op) (has_numbers n one ∙ ap (λ l. has_number l n) first) (has_numbers n other ∙ ap (λ l. has_number l n) second)
    ∙ sym (set_values-has op xs ys n))))

-- ---- loops over runs

has_at : (n : ℤ) (runs : List Run) (i : ℕ) (d : Run) → i < length runs → runs_have n (take (i + 1) runs) ≡ (runs_have n (take i runs) || run_has n (get_or runs i d))
has_at n runs i d within = ap (runs_have n) (take_more runs i d within) ∙ has_behind n (take i runs) (get_or runs i d)

pub overlaps_more : (n : ℤ) (runs : List Run) (i : ℕ) (d other both : Run) (before old new : Bool) → i < length runs
    → old ≡ (before || (runs_have n (take i runs) && run_has n other)) → run_has n both ≡ (run_has n (get_or runs i d) && run_has n other)
    → new ≡ (old || run_has n both) → new ≡ (before || (runs_have n (take (i + 1) runs) && run_has n other))
overlaps_more n runs i d other both before old new within was over is =
    let done : Bool = runs_have n (take i runs) in
    is ∙ ap (λ b. b || run_has n both) was ∙ ap (λ b. (before || (done && run_has n other)) || b) over
    ∙ overlaps_one before done (run_has n (get_or runs i d)) (run_has n other)
    ∙ ap (λ b. before || (b && run_has n other)) (sym (has_at n runs i d within))

pub without_more : (n : ℤ) (runs : List Run) (i : ℕ) (d other : Run) (old new : Bool) → i < length runs
    → old ≡ (runs_have n (take i runs) && not (run_has n other)) → new ≡ (old || (run_has n (get_or runs i d) && not (run_has n other)))
    → new ≡ (runs_have n (take (i + 1) runs) && not (run_has n other))
without_more n runs i d other old new within was is =
    let run : Run = get_or runs i d in
    is ∙ ap (λ b. b || (run_has n run && not (run_has n other))) was
    ∙ outside_one (runs_have n (take i runs)) (run_has n run) (run_has n other)
    ∙ ap (λ b. b && not (run_has n other)) (sym (has_at n runs i d within))
