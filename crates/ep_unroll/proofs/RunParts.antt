-- The part of a block with an index, where the index domain is gone through run by run.
use Rattle.ep_unroll.proofs.Words.{◌≡◌, ℕ, zero, suc, ◌+◌, ◌*◌, ◌<◌, Bool, true, false, ℤ, pos, negsuc, ◌+ℤ◌, ◌-ℤ◌, ◌≤ℤ◌, ◌<ℤ◌, ◌≤◌, ◌⊎◌, inl, inr, List, [], ◌∷◌, ◌++◌, length, drop, get_or, Some, None, refl, sym, ap, subst, ◌∙◌, arith, flat_map, if◌then◌else◌, map, nat_abs, int_eq, Decides-int_eq, ints, at_drop_all, at_drop_more, length-append, length-map, counting, numbers, numbers_in, or_zero, Run, length_of_run, cell_count, index_lists}
use Rattle.ep_unroll.specs.Blocks.{cell_of}

-- ---- one run

other_index : (i j : ℤ) → (i <ℤ j) ⊎ (j <ℤ i) → int_eq i j ≡ false
other_index i j out = by (int_eq i j) refl
  where
    by : (b : Bool) → int_eq i j ≡ b → b ≡ false
    by false e = refl
    by true e =
        let same : i ≡ j = (Decides-int_eq i j).0 e in
        elim out as (λ _. true ≡ false) [ inl l ↦ absurd (omega (arith, ints, l, same)) | inr l ↦ absurd (omega (arith, ints, l, same)) ]

this_index : (i j : ℤ) → i ≡ j → int_eq i j ≡ true
this_index i j same = (Decides-int_eq i j).1 same

no_more : (first each : ℕ) → first ≡ first + 0 * each
no_more first each = omega arith

one_further : (first each n : ℕ) → (first + each) + n * each ≡ first + suc n * each
one_further first each n = grind arith

-- numbers one after another among which an index isn't
counting_passed : (first each n : ℕ) (lo : ℤ) (rest : List ℤ) (i : ℤ) → (i <ℤ lo) ⊎ ((lo +ℤ pos n) ≤ℤ i) → cell_of first each (counting lo n ++ rest) i ≡ cell_of (first + n * each) each rest i
unfolding cell_of counting
counting_passed first each zero lo rest i out = ap (λ k. cell_of k each rest i) (no_more first each)
counting_passed first each (suc n) lo rest i out =
    ap (λ b. if b then Some first else cell_of (first + each) each (counting (lo +ℤ pos 1) n ++ rest) i)
    (other_index i lo (elim out as (λ _. (i <ℤ lo) ⊎ (lo <ℤ i)) [ inl l ↦ inl l | inr l ↦ inr (omega (arith, ints, l)) ]))
    ∙ counting_passed (first + each) each n (lo +ℤ pos 1) rest i
    (elim out as (λ _. (i <ℤ (lo +ℤ pos 1)) ⊎ (((lo +ℤ pos 1) +ℤ pos n) ≤ℤ i)) [ inl l ↦ inl (omega (arith, ints, l)) | inr l ↦ inr (omega (arith, ints, l)) ])
    ∙ ap (λ k. cell_of k each rest i) (one_further first each n)

-- numbers one after another among which it is
counting_met : (first each n j : ℕ) (lo : ℤ) (rest : List ℤ) (i : ℤ) → j < n → i ≡ lo +ℤ pos j → cell_of first each (counting lo n ++ rest) i ≡ Some (first + j * each)
unfolding cell_of counting
counting_met first each zero j lo rest i below is = absurd (omega (arith, below))
counting_met first each (suc n) zero lo rest i below is =
    ap (λ b. if b then Some first else cell_of (first + each) each (counting (lo +ℤ pos 1) n ++ rest) i) (this_index i lo (omega (arith, ints, is))) ∙ ap (λ k. Some k) (no_more first each)
counting_met first each (suc n) (suc j) lo rest i below is =
    ap (λ b. if b then Some first else cell_of (first + each) each (counting (lo +ℤ pos 1) n ++ rest) i) (other_index i lo (inr (omega (arith, ints, is))))
    ∙ counting_met (first + each) each n j (lo +ℤ pos 1) rest i (omega (arith, below)) (omega (arith, ints, is))
    ∙ ap (λ k. Some k) (one_further first each j)

behind_run : (lo hi i : ℤ) → (i <ℤ lo) ⊎ (hi <ℤ i) → lo ≤ℤ hi → (i <ℤ lo) ⊎ ((lo +ℤ pos (or_zero ((hi +ℤ pos 1) -ℤ lo))) ≤ℤ i)
behind_run lo hi i out filled =
    elim out as (λ _. (i <ℤ lo) ⊎ ((lo +ℤ pos (or_zero ((hi +ℤ pos 1) -ℤ lo))) ≤ℤ i)) [ inl l ↦ inl l | inr l ↦ inr (above ((hi +ℤ pos 1) -ℤ lo) refl l) ]
  where
    above : (z : ℤ) → z ≡ (hi +ℤ pos 1) -ℤ lo → hi <ℤ i → (lo +ℤ pos (or_zero z)) ≤ℤ i
    above (pos n) e l = omega (arith, ints, e, l)
    above (negsuc n) e l = omega (arith, ints, e, l, filled)

-- how far an index is from the first number of a run that has it
pub placed : (run : Run) (i z : ℤ) → z ≡ i -ℤ run.lo → run.lo ≤ℤ i → i ≤ℤ run.hi → (i ≡ run.lo +ℤ pos (nat_abs z)) × (nat_abs z < length (numbers_in run))
placed run i (negsuc n) e low high = absurd (omega (arith, ints, e, low))
placed run i (pos n) e low high = (omega (arith, ints, e), subst (λ m. n < m) (sym (length_of_run run)) (below ((run.hi +ℤ pos 1) -ℤ run.lo) refl))
  where
    below : (w : ℤ) → w ≡ (run.hi +ℤ pos 1) -ℤ run.lo → n < or_zero w
    below (pos m) h = omega (arith, ints, e, h, high)
    below (negsuc m) h = absurd (omega (arith, ints, e, h, high))

-- ---- runs

-- an index that isn't in the next run
pub run_passed : (first each : ℕ) (all : List ℤ) (runs : List Run) (k : ℕ) (d run : Run) (cell more : ℕ) (i : ℤ) → k < length runs → run ≡ get_or runs k d → run.lo ≤ℤ run.hi
    → (i <ℤ run.lo) ⊎ (run.hi <ℤ i) → more ≡ cell + length (numbers_in run) * each → cell_of cell each (numbers (drop k runs)) i ≡ cell_of first each all i
    → cell_of more each (numbers (drop (k + 1) runs)) i ≡ cell_of first each all i
unfolding numbers numbers_in
run_passed first each all runs k d run cell more i within is filled out sum was =
    let rest = numbers (drop (k + 1) runs) in
    let n : ℕ = or_zero ((run.hi +ℤ pos 1) -ℤ run.lo) in
    ap (λ m. cell_of m each rest i) (sum ∙ ap (λ m. cell + m * each) (length_of_run run))
    ∙ sym (counting_passed cell each n run.lo rest i (behind_run run.lo run.hi i out filled))
    ∙ ap (λ r. cell_of cell each (numbers_in r ++ rest) i) is
    ∙ ap (λ l. cell_of cell each l i) (sym (at_drop_more numbers runs k d within)) ∙ was

-- an index in the next run
pub run_met : (first each : ℕ) (all : List ℤ) (runs : List Run) (k : ℕ) (d run : Run) (cell found j : ℕ) (i : ℤ) → k < length runs → run ≡ get_or runs k d
    → i ≡ run.lo +ℤ pos j → j < length (numbers_in run) → found ≡ cell + j * each → cell_of cell each (numbers (drop k runs)) i ≡ cell_of first each all i
    → Some found ≡ cell_of first each all i
unfolding numbers numbers_in
run_met first each all runs k d run cell found j i within is place below sum was =
    let rest = numbers (drop (k + 1) runs) in
    let n : ℕ = or_zero ((run.hi +ℤ pos 1) -ℤ run.lo) in
    ap (λ m. Some m) sum
    ∙ sym (counting_met cell each n j run.lo rest i (subst (λ m. j < m) (length_of_run run) below) place)
    ∙ ap (λ r. cell_of cell each (numbers_in r ++ rest) i) is
    ∙ ap (λ l. cell_of cell each l i) (sym (at_drop_more numbers runs k d within)) ∙ was

pub run_none : (first each : ℕ) (all : List ℤ) (runs : List Run) (k cell : ℕ) (i : ℤ) → length runs ≤ k → cell_of cell each (numbers (drop k runs)) i ≡ cell_of first each all i → None ≡ cell_of first each all i
unfolding numbers cell_of
run_none first each all runs k cell i end was = ap (λ l. cell_of cell each l i) (sym (at_drop_all numbers runs k end)) ∙ was

-- ---- no cells

index_count : (indices : List ℤ) (inner : List (List ℤ)) → length (flat_map (λ i. map (λ rest. i ∷ rest) inner) indices) ≡ length indices * length inner
index_count [] inner = omega arith
index_count (i ∷ indices) inner =
    let here : length (map (λ rest. i ∷ rest) inner) ≡ length inner = length-map inner (λ rest. i ∷ rest) in
    let one : suc (length indices) * length inner ≡ length inner + length indices * length inner = grind arith in
    length-append (map (λ rest. i ∷ rest) inner) (flat_map (λ j. map (λ rest. j ∷ rest) inner) indices)
    ∙ ap (λ n. n + length (flat_map (λ j. map (λ rest. j ∷ rest) inner) indices)) here
    ∙ ap (λ n. length inner + n) (index_count indices inner) ∙ sym one

lists_count : (ds : List (List ℤ)) → length (index_lists ds) ≡ cell_count ds
unfolding index_lists cell_count
lists_count [] = refl
lists_count (indices ∷ inner) = index_count indices (index_lists inner) ∙ ap (λ n. length indices * n) (lists_count inner)

pub no_index_lists : (ds : List (List ℤ)) → 0 ≡ cell_count ds → [] ≡ index_lists ds
no_index_lists ds none = by (index_lists ds) refl
  where
    by : (xs : List (List ℤ)) → index_lists ds ≡ xs → [] ≡ xs
    by [] e = refl
    by (x ∷ xs) e = let long : length (x ∷ xs) ≡ 0 = ap length (sym e) ∙ lists_count ds ∙ sym none in absurd (omega (arith, long))
