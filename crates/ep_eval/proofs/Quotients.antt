-- Forms of two numbers.
use Rattle.ep_eval.proofs.Words.{◌≡◌, ℕ, zero, suc, ℤ, pos, negsuc, ◌-ℤ◌, ◌*ℤ◌, Bool, true, false, refl, sym, ap, arith, Option, Some, None, int_lt, neg_ℤ, not, ◌||◌, compare_holds, is_one, of_bool, on_both, CompareOp, binary_number, binary_value, joins_truths, number_value, truth_in, single, BinaryOp, Mode, undefined_binary}

-- ---- two numbers with an operator between them

one_of_bool : (b : Bool) → is_one (of_bool b) ≡ b
unfolding is_one of_bool
one_of_bool true = refl
one_of_bool false = refl

pub binary_some : (mode : Mode) (op : BinaryOp) (x y : ℤ) → number_value (binary_number op x y) ≡ binary_value mode op (Some x) (Some y)
unfolding binary_value binary_number joins_truths on_both truth_in
binary_some mode BinaryOp.Mul x y = refl
binary_some mode BinaryOp.Div x y = refl
binary_some mode BinaryOp.Mod x y = refl
binary_some mode BinaryOp.Pow x y = refl
binary_some mode BinaryOp.Min x y = refl
binary_some mode BinaryOp.Max x y = refl
binary_some mode BinaryOp.Implies x y = ap (λ b. Some (single (of_bool b))) (sym (one_of_bool (not (is_one x) || is_one y)))
binary_some mode BinaryOp.Iff x y = ap (λ b. Some (single (of_bool b))) (sym (one_of_bool (compare_holds CompareOp.Equal x y)))

pub binary_first_none : (mode : Mode) (op : BinaryOp) (b : Option ℤ) → undefined_binary mode op ≡ binary_value mode op None b
unfolding binary_value undefined_binary joins_truths on_both
binary_first_none mode BinaryOp.Mul b = refl
binary_first_none mode BinaryOp.Div b = refl
binary_first_none mode BinaryOp.Mod b = refl
binary_first_none mode BinaryOp.Pow b = refl
binary_first_none mode BinaryOp.Min b = refl
binary_first_none mode BinaryOp.Max b = refl
binary_first_none mode BinaryOp.Implies b = refl
binary_first_none mode BinaryOp.Iff b = refl

pub binary_second_none : (mode : Mode) (op : BinaryOp) (x : ℤ) → undefined_binary mode op ≡ binary_value mode op (Some x) None
unfolding binary_value undefined_binary joins_truths on_both
binary_second_none mode BinaryOp.Mul x = refl
binary_second_none mode BinaryOp.Div x = refl
binary_second_none mode BinaryOp.Mod x = refl
binary_second_none mode BinaryOp.Pow x = refl
binary_second_none mode BinaryOp.Min x = refl
binary_second_none mode BinaryOp.Max x = refl
binary_second_none mode BinaryOp.Implies x = refl
binary_second_none mode BinaryOp.Iff x = refl
