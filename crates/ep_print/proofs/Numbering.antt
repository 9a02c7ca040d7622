-- A turn and the end of a loop that puts out solutions with their numbers.
use Rattle.std.proofs.Common.{◌≡◌, ℕ, ◌+◌, ◌<◌, ◌≤◌, List, ◌++◌, length, drop, get_or, map, sym, ap, ◌∙◌, append_assoc}
use Rattle.std.proofs.Math.ListN.{drop_of_length-le}
use Rattle.std.proofs.lemmas.List.{append-nil}
use Rattle.ep_tree.specs.Views.{assigned}
use Rattle.ep_tree.specs.declared.values.Assignment.{Assignment}
use Rattle.ep_print.specs.Listings.{solution_text, solution_texts}
use Rattle.ep_print.proofs.Turns.{next_is}

-- one solution more
pub solution_more : (found : List Assignment) (k number : ℕ) (one : Assignment) (t0 t1 goal : List ℕ) → k < length found → one ≡ get_or found k one
    → t1 ≡ t0 ++ solution_text number (assigned one) → t0 ++ solution_texts number (map assigned (drop k found)) ≡ goal
    → t1 ++ solution_texts (number + 1) (map assigned (drop (k + 1) found)) ≡ goal
unfolding solution_texts
solution_more found k number one t0 t1 goal low is said so_far =
    let rest : List ℕ = solution_texts (number + 1) (map assigned (drop (k + 1) found)) in
    ap (λ t. t ++ rest) said
    ∙ append_assoc t0 (solution_text number (assigned one)) rest
    ∙ ap (λ xs. t0 ++ solution_texts number (map assigned xs)) (sym (next_is found k one low is))
    ∙ so_far

-- no more
pub solutions_end : (found : List Assignment) (k number : ℕ) (t goal : List ℕ) → length found ≤ k → t ++ solution_texts number (map assigned (drop k found)) ≡ goal → t ≡ goal
unfolding solution_texts
solutions_end found k number t goal high so_far =
    sym (ap (λ xs. t ++ solution_texts number (map assigned xs)) (drop_of_length-le found high) ∙ append-nil t) ∙ so_far
