-- A comparison and its contrary.
use Rattle.std.proofs.Common.{◌≡◌, ℤ, Bool, true, false, not, int_le, int_lt, refl, arith}
use Rattle.std.proofs.lemmas.Int.{ints}
use Rattle.std.specs.Ordering.{int_eq}
use Rattle.ep_base.specs.Numbers.{compare_holds, contrary_comparison}
use Rattle.ep_base.specs.declared.operators.CompareOp.{CompareOp}

not_not : (b : Bool) → b ≡ not (not b)
not_not true = refl
not_not false = refl

not_le : (a b : ℤ) → int_lt b a ≡ not (int_le a b)
not_le a b = grind (arith, ints)

le_not : (a b : ℤ) → int_le a b ≡ not (int_lt b a)
le_not a b = grind (arith, ints)

-- the contrary holds exactly where the comparison doesn't
pub contrary_holds : (op : CompareOp) (m n : ℤ) → compare_holds (contrary_comparison op) m n ≡ not (compare_holds op m n)
unfolding compare_holds contrary_comparison
contrary_holds CompareOp.Equal m n = refl
contrary_holds CompareOp.NotEqual m n = not_not (int_eq m n)
contrary_holds CompareOp.Less m n = le_not n m
contrary_holds CompareOp.AtMost m n = not_le m n
contrary_holds CompareOp.Greater m n = le_not m n
contrary_holds CompareOp.AtLeast m n = not_le n m
