-- The numbers of runs, one after another.
use Rattle.ep_eval.proofs.Words.{◌≡◌, ℕ, suc, ℤ, pos, negsuc, ◌+ℤ◌, ◌-ℤ◌, ◌≤ℤ◌, ◌<ℤ◌, List, [], ◌∷◌, ◌++◌, length, Some, refl, sym, ap, ◌∙◌, arith, ints, counting, numbers, numbers_in, or_zero, Run, counting_first, counting_step, left_in}

-- a list without a part
pub no_runs : {A : Type 0} (xs : List A) → length xs ≡ 0 → xs ≡ []
no_runs [] h = refl
no_runs (x ∷ xs) h = absurd (omega (arith, h))

-- the numbers of a run that has more than one, and of those behind it
pub run_step : (run : Run) (later : List Run) (lo hi : ℤ) → lo ≡ run.lo +ℤ pos 1 → hi ≡ run.hi → run.lo <ℤ run.hi
    → left_in (Some run) later ≡ run.lo ∷ left_in (Some (record { lo = lo; hi = hi })) later
unfolding left_in numbers_in
run_step run later lo hi first last lt =
    ap (λ l. l ++ numbers later) (counting_step run.lo run.hi lt)
    ∙ ap (λ x. run.lo ∷ (counting x (or_zero ((run.hi +ℤ pos 1) -ℤ x)) ++ numbers later)) (sym first)
    ∙ ap (λ x. run.lo ∷ (counting lo (or_zero ((x +ℤ pos 1) -ℤ lo)) ++ numbers later)) (sym last)

-- the numbers of a run that has one alone
pub run_last : (run : Run) (later : List Run) (rest : List ℤ) → run.lo ≤ℤ run.hi → run.hi ≤ℤ run.lo → rest ≡ numbers later
    → left_in (Some run) later ≡ run.lo ∷ rest
unfolding left_in numbers_in
run_last run later rest low high is =
    ap (λ l. l ++ numbers later) (counting_first run.lo run.hi low high) ∙ ap (λ l. run.lo ∷ l) (sym is)
