-- Numbers that meet a flat problem, and numbers that don't.
use Rattle.std.proofs.Common.{◌≡◌, ℤ, pos, negsuc, true, List, [], ◌∷◌, None, refl, arith}
use Rattle.std.proofs.lemmas.Bool.{false≢true}
use Rattle.std.proofs.lemmas.Cmp.{int_eq_equiv}
use Rattle.std.proofs.lemmas.List.Elements.{All-from_recursion, All-head}
use Rattle.std.proofs.lemmas.Map.Views.{list_any-from_Contains}
use Rattle.ep_base.specs.Numbers as numbers
use Rattle.ep_base.specs.Reads as reads
use Rattle.ep_base.specs.declared.operators.CompareOp.{CompareOp}
use Rattle.ep_flat.specs.Cons.{FlatCon, linear, con_holds, is_as_said, kind_holds, number_at}
use Rattle.ep_flat.specs.Flats.{FlatState, Meets}

-- 0 to 3
abbrev up_to_three : List ℤ
up_to_three = pos 0 ∷ pos 1 ∷ pos 2 ∷ pos 3 ∷ []

-- 2x + 3y = 7
abbrev seven : FlatCon
seven = record { truth = None; kind = linear ((pos 2, 0) ∷ (pos 3, 1) ∷ []) CompareOp.Equal (pos 7) }

-- 2x + 3y = 7, where x and y are each of 0 to 3
abbrev pair : FlatState
pair = record { vars = up_to_three ∷ up_to_three ∷ []; cons = seven ∷ [] }

-- 2 and 1 meet it
meets : Meets pair (pos 2 ∷ pos 1 ∷ [])
unfolding con_holds is_as_said kind_holds number_at numbers.sum_of numbers.compare_holds reads.weighted_sum
meets = record {
  domains = ((2, omega arith, refl), ((1, omega arith, refl), tt));
  cons = All-from_recursion (λ con. con_holds (pos 2 ∷ pos 1 ∷ []) con ≡ true) (seven ∷ []) (refl, tt);
}

-- of -1 and 3 the constraint holds
outside_holds : con_holds (negsuc 0 ∷ pos 3 ∷ []) seven ≡ true
unfolding con_holds is_as_said kind_holds number_at numbers.sum_of numbers.compare_holds reads.weighted_sum
outside_holds = refl

-- but they don't meet it, since -1 is none of 0 to 3
outside : Meets pair (negsuc 0 ∷ pos 3 ∷ []) → ⊥
outside m = false≢true (list_any-from_Contains int_eq_equiv (negsuc 0) up_to_three m.domains.0)

-- nor do 3 and 0, since the sum is 6
of_six : Meets pair (pos 3 ∷ pos 0 ∷ []) → ⊥
unfolding con_holds is_as_said kind_holds number_at numbers.sum_of numbers.compare_holds reads.weighted_sum
of_six m = false≢true (All-head (λ con. con_holds (pos 3 ∷ pos 0 ∷ []) con ≡ true) seven [] m.cons)

-- nor 2 and 1 with a further number, though the constraint holds of them
one_too_many : Meets pair (pos 2 ∷ pos 1 ∷ pos 0 ∷ []) → ⊥
one_too_many m = m.domains.1.1

-- nor a single number, which is missing for y
one_too_few : Meets pair (pos 2 ∷ []) → ⊥
one_too_few m = m.domains.1
