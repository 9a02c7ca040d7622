-- Numbers that are told only as far as a limit needs them.
use Rattle.ep_size.proofs.Words.{◌≡◌, true, false, ℕ, zero, suc, ◌+◌, ◌*◌, ◌<◌, ◌≤◌, refl, sym, ap, ◌∙◌, inl, inr, arith, List, [], ◌∷◌, length, length-append, drop, get_or, ℤ, ◌⊎◌, pos, negsuc, ◌+ℤ◌, ◌-ℤ◌, int_lt, nat_abs, mul-le-mul, mul_assoc, mul_comm, at_drop_all, at_drop_more, numbers, numbers_in, or_zero, Run, length_of_run, none_below, cell_count, MOST_TOLD, capped}

either : (a : ℕ) → (a ≤ MOST_TOLD) ⊎ (MOST_TOLD < a)
either a = grind arith

least_product : (a b : ℕ) → MOST_TOLD < a → capped (capped a * suc b) ≡ capped (a * suc b)
least_product a b h =
    let same : capped a ≡ MOST_TOLD = omega (arith, h) in
    let one : 1 ≤ suc b = omega arith in
    let whole : a * 1 ≤ a * suc b = mul-le-mul (omega arith) one in
    let rest : capped (MOST_TOLD * suc b) ≡ capped (a * suc b) = omega (arith, whole, h) in
    ap (λ n. capped (n * suc b)) same ∙ rest

first_kept : (a b : ℕ) → capped (capped a * b) ≡ capped (a * b)
first_kept a b = elim (either a) as (λ _. capped (capped a * b) ≡ capped (a * b)) [
  | inl h ↦ let same : capped a ≡ a = omega (arith, h) in ap (λ n. capped (n * b)) same
  | inr h ↦ past b h
]
  where
    past : (b : ℕ) → MOST_TOLD < a → capped (capped a * b) ≡ capped (a * b)
    past zero h = omega arith
    past (suc b) h = least_product a b h

-- a product of numbers that are told so far
pub product_kept : (a b : ℕ) → capped (capped a * capped b) ≡ capped (a * b)
product_kept a b =
    first_kept a (capped b) ∙ ap capped (mul_comm a (capped b)) ∙ first_kept b a ∙ ap capped (mul_comm b a)

-- a sum of numbers that are told so far
pub sum_kept : (a b : ℕ) → capped (capped a + capped b) ≡ capped (a + b)
sum_kept a b = omega arith

many_above : (z : ℤ) → int_lt (pos 20000001) z ≡ true → MOST_TOLD < or_zero z
many_above (pos n) h = grind arith
many_above (negsuc n) h = grind arith

few_between : (z : ℤ) → int_lt z (pos 0) ≡ false → int_lt (pos 20000001) z ≡ false → nat_abs z ≡ capped (or_zero z)
few_between (pos n) h k = grind arith
few_between (negsuc n) h k = absurd cc

-- a run that ends before it begins has no number
pub run_none : (run : Run) → int_lt ((run.hi +ℤ pos 1) -ℤ run.lo) (pos 0) ≡ true → 0 ≡ capped (length (numbers_in run))
run_none run h = let count = length_of_run run in let none = none_below ((run.hi +ℤ pos 1) -ℤ run.lo) h in omega (arith, count, none)

-- a long run has as many numbers as are told
pub run_many : (run : Run) → int_lt (pos 20000001) ((run.hi +ℤ pos 1) -ℤ run.lo) ≡ true → MOST_TOLD ≡ capped (length (numbers_in run))
run_many run h = let count = length_of_run run in let many = many_above ((run.hi +ℤ pos 1) -ℤ run.lo) h in omega (arith, count, many)

-- any other run has as many as from its first number to its last one
pub run_some : (run : Run) → int_lt ((run.hi +ℤ pos 1) -ℤ run.lo) (pos 0) ≡ false → int_lt (pos 20000001) ((run.hi +ℤ pos 1) -ℤ run.lo) ≡ false
    → nat_abs ((run.hi +ℤ pos 1) -ℤ run.lo) ≡ capped (length (numbers_in run))
run_some run h k = few_between ((run.hi +ℤ pos 1) -ℤ run.lo) h k ∙ ap capped (sym (length_of_run run))

-- how many numbers runs have, the first of them apart
pub numbers_more : (run : Run) (runs : List Run) → length (numbers (run ∷ runs)) ≡ length (numbers_in run) + length (numbers runs)
unfolding numbers
numbers_more run runs = length-append (numbers_in run) (numbers runs)

-- how many cells index domains make, the first of them apart
pub cells_more : (indices : List ℤ) (inner : List (List ℤ)) → cell_count (indices ∷ inner) ≡ length indices * cell_count inner
unfolding cell_count
cells_more indices inner = refl

-- ---- a loop over index domains

no_cells : cell_count [] ≡ 1
unfolding cell_count
no_cells = refl

pub cells_begin : (indices : List (List ℤ)) → capped (1 * cell_count (drop 0 indices)) ≡ capped (cell_count indices)
cells_begin indices = omega arith

-- one index domain more: the cells are multiplied by its numbers
pub cells_on : (indices : List (List ℤ)) (k : ℕ) (set d : List ℤ) (cells next : ℕ) → k < length indices → set ≡ get_or indices k d
    → next ≡ capped (cells * capped (length set)) → cells ≤ MOST_TOLD
    → capped (next * cell_count (drop (k + 1) indices)) ≡ capped (cells * cell_count (drop k indices))
cells_on indices k set d cells next h same told small =
    let rest : ℕ = cell_count (drop (k + 1) indices) in
    let cut : cell_count (drop k indices) ≡ length set * rest =
    at_drop_more cell_count indices k d h ∙ ap (λ s. cell_count (s ∷ drop (k + 1) indices)) (sym same)
    ∙ cells_more set (drop (k + 1) indices) in
    let own : cells ≡ capped cells = omega (arith, small) in
    ap (λ n. capped (n * rest)) (told ∙ ap (λ n. capped (n * capped (length set))) own ∙ product_kept cells (length set))
    ∙ first_kept (cells * length set) rest
    ∙ ap capped (mul_assoc cells (length set) rest ∙ ap (λ n. cells * n) (sym cut))

pub cells_all : (indices : List (List ℤ)) (k cells : ℕ) → length indices ≤ k → cells ≤ MOST_TOLD → cells ≡ capped (cells * cell_count (drop k indices))
cells_all indices k cells h small =
    let none : cell_count (drop k indices) ≡ 1 = at_drop_all cell_count indices k h ∙ no_cells in
    let one : cells * cell_count (drop k indices) ≡ cells * 1 = ap (λ n. cells * n) none in
    omega (arith, one, small)

-- ---- a loop over runs

no_numbers : length (numbers []) ≡ 0
unfolding numbers
no_numbers = refl

-- one run more: its numbers are added
pub numbers_on : (runs : List Run) (k : ℕ) (run d : Run) (count next : ℕ) → k < length runs → run ≡ get_or runs k d
    → next ≡ capped (count + capped (length (numbers_in run)))
    → capped (next + length (numbers (drop (k + 1) runs))) ≡ capped (count + length (numbers (drop k runs)))
numbers_on runs k run d count next h same told =
    let cut : length (numbers (drop k runs)) ≡ length (numbers_in run) + length (numbers (drop (k + 1) runs)) =
    at_drop_more (λ rs. length (numbers rs)) runs k d h ∙ ap (λ r. length (numbers (r ∷ drop (k + 1) runs))) (sym same)
    ∙ numbers_more run (drop (k + 1) runs) in
    omega (arith, told, cut)

pub numbers_all : (runs : List Run) (k count : ℕ) → length runs ≤ k → count ≤ MOST_TOLD → count ≡ capped (count + length (numbers (drop k runs)))
numbers_all runs k count h small =
    let none : length (numbers (drop k runs)) ≡ 0 = at_drop_all (λ rs. length (numbers rs)) runs k h ∙ no_numbers in
    omega (arith, none, small)
