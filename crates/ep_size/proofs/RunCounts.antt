-- How many numbers runs have.
use Rattle.ep_size.proofs.Words.{◌≡◌, ℕ, ◌+◌, ◌<◌, ◌≤◌, List, ◌∷◌, length, drop, get_or, sym, ap, ◌∙◌, arith, at_drop_all, at_drop_more, numbers, numbers_in, Run}
use Rattle.ep_size.proofs.Caps.{numbers_more}

pub numbers_cut : (runs : List Run) (k : ℕ) (run d : Run) → k < length runs → run ≡ get_or runs k d
    → length (numbers (drop k runs)) ≡ length (numbers_in run) + length (numbers (drop (k + 1) runs))
numbers_cut runs k run d h same =
    at_drop_more (λ rs. length (numbers rs)) runs k d h ∙ ap (λ r. length (numbers (r ∷ drop (k + 1) runs))) (sym same)
    ∙ numbers_more run (drop (k + 1) runs)

pub numbers_none : (runs : List Run) (k : ℕ) → length runs ≤ k → length (numbers (drop k runs)) ≡ 0
unfolding numbers
numbers_none runs k h = at_drop_all (λ rs. length (numbers rs)) runs k h

pub count_more : (runs : List Run) (k : ℕ) (run d : Run) (count more whole : ℕ) → k < length runs → run ≡ get_or runs k d → more ≡ length (numbers_in run)
    → count + length (numbers (drop k runs)) ≡ whole → (count + more) + length (numbers (drop (k + 1) runs)) ≡ whole
count_more runs k run d count more whole h same is w = let cut = numbers_cut runs k run d h same in omega (arith, cut, is, w)
