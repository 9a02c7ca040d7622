-- What is found of a number.
use Rattle.std.proofs.Common.{◌≡◌, ◌∙◌, ℤ, true, false, refl, sym, ap, subst}
use Rattle.std.specs.Prelude.{Bool, Some, None, Option, IfSome, IsSome}
use Rattle.std.specs.Ordering.{int_eq}
use Rattle.std.proofs.lemmas.Bool.Decides.{Decides-int_eq}
use Rattle.ep_base.specs.Reads.{IsWithinNumbers, is_too_far}
use Rattle.ep_numbers.proofs.Ends.{untold_far, within_near}
use Rattle.ep_flat.specs.Cons.{is_value}
use Rattle.enc_arith.specs.Finding.{Finds}

-- a number that is too far isn't found
pub found_far : (v : ℤ) → is_too_far v ≡ true → Finds None v
unfolding is_value
found_far v far = record { same = λ n near. by n near (int_eq n v) refl }
  where
    by : (n : ℤ) → IsWithinNumbers n → (b : Bool) → int_eq n v ≡ b → false ≡ int_eq n v
    by n near false e = sym e
    by n near true e = absurd (let s : n ≡ v = (Decides-int_eq n v).0 e in let k = within_near n near in let j = ap is_too_far s in cc)

-- a number that is found is found
pub found_near : (v w : ℤ) → v ≡ w → Finds (Some v) w
unfolding is_value
found_near v w is = subst (Finds (Some v)) is (record { same = λ n near. refl })

-- what is told of a number that is within reach is found of one that equals it
pub found_of : (found : Option ℤ) (v w : ℤ) → v ≡ w → IfSome found (λ n. n ≡ v) → (IsWithinNumbers v → IsSome found) → Finds found w
found_of (Some n) v w is same told = found_near n w (same ∙ is)
found_of None v w is same told = subst (Finds None) is (found_far v (untold_far None v told refl))
