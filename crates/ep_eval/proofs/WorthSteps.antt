-- What operators give, as worths; what nodes of a family are.
use Rattle.ep_eval.proofs.Words.{◌≡◌, Bool, true, false, List, [], ◌∷◌, ◌++◌, ℤ, pos, refl, sym, ap, subst, ◌∙◌, Option, Some, None, Result, Ok, Err, option_to_list, unwrap_or, list_any, or_left, is_too_far, Place, counts_node, one_node, truths_node, two_node, CountOp, OneOp, Group, Not, Neg, Abs, ToInt, Factorial, Flatten, AllDiff, Fold, TwoOp, Binary, Compare, Lex, InSet, Table, Env, evaluate, folded_value, number_in, truth_in, values_of, numbers_at, products_from, a_node, met, met_all, ExprTree, ExprTrees, ValueTree, FoldOp, Mode, Gives, is_far_value, of_all, GivesAt, folded_numbers, seen_held, IsMadeOf, IsWorth, count_value, one_numbers, one_value, own_number, two_value, EvalError, Limit, Memory, Held, Worth, Seen}
use Rattle.ep_eval.proofs.Countings.{any_append}

-- ---- what an operator gave

-- a value as a worth
pub worth_seen : (v : Option ValueTree) (seen : Option Held) → seen_held seen ≡ v → IsWorth (own_number v) v (Seen seen)
unfolding IsWorth
worth_seen v seen h = (sym h, refl)

-- what an operator gave whose node has the numbers of its value
pub worth_gives : (v : Option ValueTree) (r : Result (Option Held) EvalError) (w : Worth) → Gives r v → IsMadeOf r w → IsWorth (own_number v) v w
unfolding IsWorth IsMadeOf
worth_gives v (Ok seen) w h k = subst (IsWorth (own_number v) v) (sym k) (worth_seen v seen h)
worth_gives v (Err (Limit l)) w h k = subst (IsWorth (own_number v) v) (sym k) h.1
worth_gives v (Err Memory) w h k = absurd k

-- what an operator gave whose node has more numbers
pub worth_gives_at : (numbers : List ℤ) (v : Option ValueTree) (r : Result (Option Held) EvalError) (w : Worth)
    → (is_far_value v ≡ true → list_any is_too_far numbers ≡ true) → GivesAt r v numbers → IsMadeOf r w → IsWorth numbers v w
unfolding IsWorth IsMadeOf
worth_gives_at numbers v (Ok seen) w far h k = subst (IsWorth numbers v) (sym k) (sym h.0, same (is_far_value v) (list_any is_too_far numbers) far h.1)
  where
    same : (a b : Bool) → (a ≡ true → b ≡ true) → (a ≡ false → b ≡ false) → b ≡ a
    same true b f g = f refl
    same false b f g = g refl
worth_gives_at numbers v (Err (Limit l)) w far h k = subst (IsWorth numbers v) (sym k) h.1
worth_gives_at numbers v (Err Memory) w far h k = absurd k

-- the value of a fold is one of the numbers there
pub far_fold : (mode : Mode) (op : FoldOp) (xs : Option (List ℤ)) → is_far_value (folded_value mode op xs) ≡ true → list_any is_too_far (folded_numbers mode op xs) ≡ true
unfolding folded_numbers
far_fold mode FoldOp.Product xs h =
    any_append is_too_far (option_to_list (number_in (folded_value mode FoldOp.Product xs))) (products_from (pos 1) (unwrap_or xs [])) ∙ or_left _ _ h
far_fold mode FoldOp.Sum xs h = h
far_fold mode FoldOp.And xs h = h
far_fold mode FoldOp.Or xs h = h
far_fold mode FoldOp.Min xs h = h
far_fold mode FoldOp.Max xs h = h

-- ---- families of nodes

pub evaluate-one : (mode : Mode) (env : Env) (p : Place) (op : OneOp) (e : ExprTree) → evaluate mode env (one_node p op e) ≡ one_value mode op (evaluate mode env e)
unfolding evaluate one_node one_value
evaluate-one mode env p Group e = refl
evaluate-one mode env p Not e = refl
evaluate-one mode env p Neg e = refl
evaluate-one mode env p Abs e = refl
evaluate-one mode env p ToInt e = refl
evaluate-one mode env p Factorial e = refl
evaluate-one mode env p Flatten e = refl
evaluate-one mode env p AllDiff e = refl
evaluate-one mode env p (Fold op) e = refl

pub numbers-one : (mode : Mode) (env : Env) (p : Place) (op : OneOp) (e : ExprTree) → numbers_at mode (a_node env (one_node p op e)) ≡ one_numbers mode op (evaluate mode env e)
unfolding evaluate one_node one_value one_numbers numbers_at folded_numbers
numbers-one mode env p Group e = refl
numbers-one mode env p Not e = refl
numbers-one mode env p Neg e = refl
numbers-one mode env p Abs e = refl
numbers-one mode env p ToInt e = refl
numbers-one mode env p Factorial e = refl
numbers-one mode env p Flatten e = refl
numbers-one mode env p AllDiff e = refl
numbers-one mode env p (Fold FoldOp.Product) e = refl
numbers-one mode env p (Fold FoldOp.Sum) e = refl
numbers-one mode env p (Fold FoldOp.And) e = refl
numbers-one mode env p (Fold FoldOp.Or) e = refl
numbers-one mode env p (Fold FoldOp.Min) e = refl
numbers-one mode env p (Fold FoldOp.Max) e = refl

pub met-one : (mode : Mode) (env : Env) (p : Place) (op : OneOp) (e : ExprTree) → met mode env (one_node p op e) ≡ a_node env (one_node p op e) ∷ met mode env e
unfolding met one_node
met-one mode env p Group e = refl
met-one mode env p Not e = refl
met-one mode env p Neg e = refl
met-one mode env p Abs e = refl
met-one mode env p ToInt e = refl
met-one mode env p Factorial e = refl
met-one mode env p Flatten e = refl
met-one mode env p AllDiff e = refl
met-one mode env p (Fold op) e = refl

pub evaluate-two : (mode : Mode) (env : Env) (p : Place) (op : TwoOp) (a b : ExprTree) → evaluate mode env (two_node p op a b) ≡ two_value mode op (evaluate mode env a) (evaluate mode env b)
unfolding evaluate two_node two_value
evaluate-two mode env p (Binary op) a b = refl
evaluate-two mode env p (Compare op) a b = refl
evaluate-two mode env p (Lex op) a b = refl
evaluate-two mode env p InSet a b = refl
evaluate-two mode env p Table a b = refl

pub numbers-two : (mode : Mode) (env : Env) (p : Place) (op : TwoOp) (a b : ExprTree) → numbers_at mode (a_node env (two_node p op a b)) ≡ own_number (evaluate mode env (two_node p op a b))
unfolding evaluate two_node numbers_at
numbers-two mode env p (Binary op) a b = refl
numbers-two mode env p (Compare op) a b = refl
numbers-two mode env p (Lex op) a b = refl
numbers-two mode env p InSet a b = refl
numbers-two mode env p Table a b = refl

pub met-two : (mode : Mode) (env : Env) (p : Place) (op : TwoOp) (a b : ExprTree) → met mode env (two_node p op a b) ≡ a_node env (two_node p op a b) ∷ (met mode env a ++ met mode env b)
unfolding met two_node
met-two mode env p (Binary op) a b = refl
met-two mode env p (Compare op) a b = refl
met-two mode env p (Lex op) a b = refl
met-two mode env p InSet a b = refl
met-two mode env p Table a b = refl

pub evaluate-counts : (mode : Mode) (env : Env) (p : Place) (op : CountOp) (m a b : ExprTree)
    → evaluate mode env (counts_node p op m a b) ≡ count_value mode op (evaluate mode env m) (evaluate mode env a) (evaluate mode env b)
unfolding evaluate counts_node count_value
evaluate-counts mode env p CountOp.Gcc m a b = refl
evaluate-counts mode env p CountOp.AtLeast m a b = refl
evaluate-counts mode env p CountOp.AtMost m a b = refl

pub numbers-counts : (mode : Mode) (env : Env) (p : Place) (op : CountOp) (m a b : ExprTree)
    → numbers_at mode (a_node env (counts_node p op m a b)) ≡ own_number (evaluate mode env (counts_node p op m a b))
unfolding evaluate counts_node numbers_at
numbers-counts mode env p CountOp.Gcc m a b = refl
numbers-counts mode env p CountOp.AtLeast m a b = refl
numbers-counts mode env p CountOp.AtMost m a b = refl

pub met-counts : (mode : Mode) (env : Env) (p : Place) (op : CountOp) (m a b : ExprTree)
    → met mode env (counts_node p op m a b) ≡ a_node env (counts_node p op m a b) ∷ (met mode env m ++ met mode env a ++ met mode env b)
unfolding met counts_node
met-counts mode env p CountOp.Gcc m a b = refl
met-counts mode env p CountOp.AtLeast m a b = refl
met-counts mode env p CountOp.AtMost m a b = refl

pub evaluate-truths : (mode : Mode) (env : Env) (p : Place) (every : Bool) (parts : ExprTrees) → evaluate mode env (truths_node p every parts) ≡ truth_in mode (of_all every (values_of mode env parts))
unfolding evaluate truths_node of_all
evaluate-truths mode env p true parts = refl
evaluate-truths mode env p false parts = refl

pub numbers-truths : (mode : Mode) (env : Env) (p : Place) (every : Bool) (parts : ExprTrees)
    → numbers_at mode (a_node env (truths_node p every parts)) ≡ own_number (evaluate mode env (truths_node p every parts))
unfolding evaluate truths_node numbers_at
numbers-truths mode env p true parts = refl
numbers-truths mode env p false parts = refl

pub met-truths : (mode : Mode) (env : Env) (p : Place) (every : Bool) (parts : ExprTrees) → met mode env (truths_node p every parts) ≡ a_node env (truths_node p every parts) ∷ met_all mode env parts
unfolding met truths_node
met-truths mode env p true parts = refl
met-truths mode env p false parts = refl
