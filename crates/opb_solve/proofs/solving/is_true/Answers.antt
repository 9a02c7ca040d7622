use Rattle.std.proofs.Common.{◌≡◌, ℕ, ℤ, pos, true, SFits, nat_eq, of_z, to_z, w64, refl, sym, ap, subst, ◌∙◌, arith}
use Rattle.std.specs.Ordering.{int_eq}
use Rattle.std.specs.Bool.{one_answer}
use Rattle.std.proofs.lemmas.Bool.Decides.{Decides-int_eq}
use Rattle.std.proofs.lemmas.Int.{ints, to_z-of_z}
use Rattle.ep_base.specs.Numbers.{is_one}
use Rattle.opb_solve.proofs.solving.is_true.Goals as goal

same_number : (m n : ℕ) → nat_eq m n ≡ true → m ≡ n
same_number m n h = grind arith

pub returns : goal.returns
unfolding is_one
returns c =
    let n : ℤ = c.args.number in
    let short : SFits w64 n = omega (arith, ints) in
    one_answer {P = n ≡ pos 1} (nat_eq (of_z w64 n) 1) (int_eq n (pos 1))
    (λ e. sym (to_z-of_z w64 n short) ∙ ap (to_z w64) (same_number (of_z w64 n) 1 e), λ e. subst (λ x. nat_eq (of_z w64 x) 1 ≡ true) (sym e) refl)
    (Decides-int_eq n (pos 1))
