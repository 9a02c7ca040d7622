-- Numbers, literals and clauses as words spell them.
use Rattle.std.proofs.Common.{◌≡◌, neg_ℤ, ℕ, zero, suc, ℤ, pos, negsuc, ◌≤◌, Bool, true, false, cond, List, ◌∷◌, refl, sym, ap, subst, ◌∙◌, arith}
use Rattle.std.proofs.lemmas.Bool.Decides.{nat_tests}
use Rattle.std.proofs.lemmas.Bool.{eqb-true}
use Rattle.cnf_core.specs.Literal.{Literal}
use Rattle.sat_text.specs.Clauses.{is_zero, literal_of, number_of, in_order}
use Rattle.sat_text.specs.CnfGrammar.{IsClauseOf}
use Rattle.sat_text.proofs.LogAgain.{signed_again}
use Rattle.sat_text.proofs.Order.{clause_is, in_order_ordered, in_order_same}

pub cons_same : {X : Type 0} (x y : X) (xs ys : List X) → x ≡ y → xs ≡ ys → x ∷ xs ≡ y ∷ ys
cons_same x y xs ys e f = ap (λ (z : _). z ∷ xs) e ∙ ap (λ (zs : List _). y ∷ zs) f

pub cons_head : {X : Type 0} (x y : X) (xs ys : List X) → x ∷ xs ≡ y ∷ ys → x ≡ y
cons_head x y xs ys e = cc

pub cons_tail : {X : Type 0} (x y : X) (xs ys : List X) → x ∷ xs ≡ y ∷ ys → xs ≡ ys
cons_tail x y xs ys e = cc

-- ---- literals and their numbers

pub literal_of_number : (l : Literal) → 1 ≤ l.var → literal_of (number_of l) ≡ l
literal_of_number l some = signed_again l.var l.positive some

signed_not_zero : (v : ℕ) (positive : Bool) → 1 ≤ v → is_zero (cond positive (pos v) (neg_ℤ (pos v))) ≡ false
signed_not_zero zero positive some = absurd (omega arith)
signed_not_zero (suc v) true some = grind (arith, nat_tests)
signed_not_zero (suc v) false some = refl

pub number_not_zero : (l : Literal) → 1 ≤ l.var → is_zero (number_of l) ≡ false
number_not_zero l some = signed_not_zero l.var l.positive some

pub number_of_literal : (n : ℤ) → is_zero n ≡ false → number_of (literal_of n) ≡ n
number_of_literal (pos n) e = refl
number_of_literal (negsuc n) e = refl

pub literal_some : (n : ℤ) → is_zero n ≡ false → 1 ≤ (literal_of n).var
literal_some (pos zero) e = absurd cc
literal_some (pos (suc n)) e = omega arith
literal_some (negsuc n) e = omega arith

pub zero_number : (n : ℤ) → is_zero n ≡ true → n ≡ pos 0
zero_number (pos n) e = ap pos (eqb-true _ _ e)
zero_number (negsuc n) e = absurd cc

-- ---- the clause of literals

pub in_order_is_clause : (clause literals : List Literal) → clause ≡ in_order literals → IsClauseOf clause literals
in_order_is_clause clause literals e = subst (λ (c : List Literal). IsClauseOf c literals) (sym e) (record { ordered = in_order_ordered literals; same = in_order_same literals })

pub clause_is_in_order : (clause literals : List Literal) → IsClauseOf clause literals → clause ≡ in_order literals
clause_is_in_order clause literals is = clause_is clause literals is.ordered is.same
