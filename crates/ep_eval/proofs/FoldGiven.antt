-- What each fold gives, with the numbers at its node.
use Rattle.ep_eval.proofs.Words.{◌≡◌, ℤ, pos, Bool, true, false, List, sym, subst, or_right, Option, Some, None, Result, Ok, Err, ◌||◌, option_to_list, list_any, all_one, any_one, greatest_of, least_of, product_of, sum_of, is_too_far, folded_value, number_in, number_value, truth_in, products_from, ValueTree, single, FoldOp, Mode, Gives, GivesAt, folded_numbers, EvalError, Limit, Memory, Held}

alone : (r : Result (Option Held) EvalError) (v : Option ValueTree) → Gives r v → GivesAt r v (option_to_list (number_in v))
alone (Ok seen) v h = (h, λ k. k)
alone (Err Memory) v h = tt
alone (Err (Limit l)) v h = h

pub gives_sum : (mode : Mode) (xs : List ℤ) (op : FoldOp) (r : Result (Option Held) EvalError) → op ≡ FoldOp.Sum → Gives r (Some (single (sum_of xs)))
    → GivesAt r (folded_value mode op (Some xs)) (folded_numbers mode op (Some xs))
unfolding folded_value folded_numbers
gives_sum mode xs op r is h = subst (λ o. GivesAt r (folded_value mode o (Some xs)) (folded_numbers mode o (Some xs))) (sym is) (alone r (Some (single (sum_of xs))) h)

pub gives_and : (mode : Mode) (xs : List ℤ) (op : FoldOp) (r : Result (Option Held) EvalError) → op ≡ FoldOp.And → Gives r (truth_in mode (Some (all_one xs)))
    → GivesAt r (folded_value mode op (Some xs)) (folded_numbers mode op (Some xs))
unfolding folded_value folded_numbers
gives_and mode xs op r is h = subst (λ o. GivesAt r (folded_value mode o (Some xs)) (folded_numbers mode o (Some xs))) (sym is) (alone r (truth_in mode (Some (all_one xs))) h)

pub gives_or : (mode : Mode) (xs : List ℤ) (op : FoldOp) (r : Result (Option Held) EvalError) → op ≡ FoldOp.Or → Gives r (truth_in mode (Some (any_one xs)))
    → GivesAt r (folded_value mode op (Some xs)) (folded_numbers mode op (Some xs))
unfolding folded_value folded_numbers
gives_or mode xs op r is h = subst (λ o. GivesAt r (folded_value mode o (Some xs)) (folded_numbers mode o (Some xs))) (sym is) (alone r (truth_in mode (Some (any_one xs))) h)

pub gives_min : (mode : Mode) (xs : List ℤ) (op : FoldOp) (r : Result (Option Held) EvalError) → op ≡ FoldOp.Min → Gives r (number_value (least_of xs))
    → GivesAt r (folded_value mode op (Some xs)) (folded_numbers mode op (Some xs))
unfolding folded_value folded_numbers
gives_min mode xs op r is h = subst (λ o. GivesAt r (folded_value mode o (Some xs)) (folded_numbers mode o (Some xs))) (sym is) (alone r (number_value (least_of xs)) h)

pub gives_max : (mode : Mode) (xs : List ℤ) (op : FoldOp) (r : Result (Option Held) EvalError) → op ≡ FoldOp.Max → Gives r (number_value (greatest_of xs))
    → GivesAt r (folded_value mode op (Some xs)) (folded_numbers mode op (Some xs))
unfolding folded_value folded_numbers
gives_max mode xs op r is h = subst (λ o. GivesAt r (folded_value mode o (Some xs)) (folded_numbers mode o (Some xs))) (sym is) (alone r (number_value (greatest_of xs)) h)

near_first : (a b : Bool) → (a || false) ≡ false → b ≡ false → (a || b) ≡ false
near_first false b h k = k
near_first true b h k = absurd cc

product_at : (mode : Mode) (xs : List ℤ) (r : Result (Option Held) EvalError) → GivesAt r (Some (single (product_of xs))) (products_from (pos 1) xs)
    → GivesAt r (folded_value mode FoldOp.Product (Some xs)) (folded_numbers mode FoldOp.Product (Some xs))
unfolding folded_value folded_numbers number_in
product_at mode xs (Ok seen) h = (h.0, λ k. near_first (is_too_far (product_of xs)) (list_any is_too_far (products_from (pos 1) xs)) k (h.1 k))
product_at mode xs (Err Memory) h = tt
product_at mode xs (Err (Limit l)) h = (h.0, or_right (is_too_far (product_of xs)) (list_any is_too_far (products_from (pos 1) xs)) h.1)

pub gives_product : (mode : Mode) (xs : List ℤ) (op : FoldOp) (r : Result (Option Held) EvalError) → op ≡ FoldOp.Product
    → GivesAt r (Some (single (product_of xs))) (products_from (pos 1) xs)
    → GivesAt r (folded_value mode op (Some xs)) (folded_numbers mode op (Some xs))
gives_product mode xs op r is h = subst (λ o. GivesAt r (folded_value mode o (Some xs)) (folded_numbers mode o (Some xs))) (sym is) (product_at mode xs r h)

none_at : (mode : Mode) (op : FoldOp) (r : Result (Option Held) EvalError) → Gives r (folded_value mode op None) → GivesAt r (folded_value mode op None) (folded_numbers mode op None)
unfolding folded_value folded_numbers products_from number_in
none_at mode FoldOp.Sum r h = alone r None h
none_at mode FoldOp.Product r h = alone r None h
none_at mode FoldOp.And r h = alone r (truth_in mode None) h
none_at mode FoldOp.Or r h = alone r (truth_in mode None) h
none_at mode FoldOp.Min r h = alone r None h
none_at mode FoldOp.Max r h = alone r None h

pub gives_none : (mode : Mode) (op : FoldOp) (xs : Option (List ℤ)) (r : Result (Option Held) EvalError) → xs ≡ None → Gives r (folded_value mode op None)
    → GivesAt r (folded_value mode op xs) (folded_numbers mode op xs)
gives_none mode op xs r none h = subst (λ o. GivesAt r (folded_value mode op o) (folded_numbers mode op o)) (sym none) (none_at mode op r h)
