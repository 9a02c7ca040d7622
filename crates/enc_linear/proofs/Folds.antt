-- Terms of a sum that give way to others, step by step.
use Rattle.std.proofs.Common.{◌≡◌, ◌↔◌, ℕ, ◌<◌, ℤ, IsTrue, List, [], ◌∷◌, ◌++◌, length, take, refl, sym, ap, subst, ◌∙◌, arith}
use Rattle.std.specs.List.{All}
use Rattle.std.specs.List.Sorted.{IsPermutation}
use Rattle.std.specs.Prelude.{Err, MatchOption, None, Ok, OnOk, Option, Result, Some}
use Rattle.std.proofs.lemmas.List.{take-take, take_all}
use Rattle.std.proofs.lemmas.List.Sorted.{All-permutation, IsPermutation-cons, IsPermutation-sym, IsPermutation-to_front, IsPermutation-trans}
use Rattle.cnf_core.specs.Formula.{Cnf}
use Rattle.ep_base.specs.Numbers.{compare_holds}
use Rattle.ep_flat.specs.Cons.{is_as_said}
use Rattle.enc_atoms.proofs.Adding.{adds_like}
use Rattle.enc_atoms.specs.Atoms.{Adds}
use Rattle.enc_linear.proofs.Arising.{no_longer}
use Rattle.enc_linear.proofs.Clipping.{total_permuted}
use Rattle.enc_linear.specs.Bounds.{Compares}
use Rattle.enc_linear.specs.Folding.{GiveWay}
use Rattle.enc_linear.specs.Terms.{IsTermOf, total}
use Rattle.enc_linear.specs.declared.comparison.Comparison.{Comparison}
use Rattle.enc_linear.specs.declared.terms.Term.{Term}
use Rattle.enc_var.specs.Decoding.{VariableLiterals}
use Rattle.enc_var.specs.Layouts.{IsLayoutOf}

front_of_front : (xs ys zs : List VariableLiterals) → take (length xs) ys ≡ xs → take (length ys) zs ≡ ys → take (length xs) zs ≡ xs
front_of_front xs ys zs first second = sym (take-take (length xs) (length ys) zs (no_longer xs ys first)) ∙ ap (take (length xs)) second ∙ first

-- the variable of a truth is of a later layout too
pub truth_later : (L later : List VariableLiterals) (truth : Option ℕ) → take (length L) later ≡ L → MatchOption truth (length L ≡ length L) (λ t. t < length L) → MatchOption truth (length later ≡ length later) (λ t. t < length later)
truth_later L later None front h = refl
truth_later L later (Some t) front h = let low = no_longer L later front in omega (arith, low, h)

-- a sum compares as it does in any order
compares_permuted : (c : Comparison) (ts us : List Term) (values : List ℤ) → IsPermutation ts us → Compares c us values ↔ Compares c ts values
compares_permuted c ts us values moved =
    let same : is_as_said values c.truth (compare_holds c.op (total values us) c.number) ≡ is_as_said values c.truth (compare_holds c.op (total values ts) c.number) =
    ap (λ n. is_as_said values c.truth (compare_holds c.op n c.number)) (total_permuted values ts us moved) in
    (λ h. sym same ∙ h, λ h. same ∙ h)

-- terms in another order
pub gives_order : (c : Comparison) (L : List VariableLiterals) (f : Cnf) (ts us : List Term) → IsLayoutOf L f → IsTrue f.from_new → All (IsTermOf L f) ts → IsPermutation ts us → GiveWay c L f ts L f us
gives_order c L f ts us is_layout from_new of_layout moved = record {
  from_new = from_new;
  is_layout = is_layout;
  earlier = take_all (length L) L (omega arith);
  of_layout = All-permutation (IsTermOf L f) ts us moved of_layout;
  leads = λ last h added. adds_like L f last h (Compares c us) (Compares c ts) is_layout added (λ values among. compares_permuted c ts us values moved);
}

-- the same terms
pub gives_none : (c : Comparison) (L : List VariableLiterals) (f : Cnf) (ts : List Term) → IsLayoutOf L f → IsTrue f.from_new → All (IsTermOf L f) ts → GiveWay c L f ts L f ts
gives_none c L f ts is_layout from_new of_layout = record {
  from_new = from_new;
  is_layout = is_layout;
  earlier = take_all (length L) L (omega arith);
  of_layout = of_layout;
  leads = λ last h added. added;
}

-- a step, with both sums in another order
pub gives_moved : (c : Comparison) (L : List VariableLiterals) (f : Cnf) (ts us : List Term) (L1 : List VariableLiterals) (f1 : Cnf) (ts1 us1 : List Term) → IsLayoutOf L f → IsPermutation us ts → IsPermutation ts1 us1
    → GiveWay c L f ts L1 f1 ts1 → GiveWay c L f us L1 f1 us1
gives_moved c L f ts us L1 f1 ts1 us1 is_layout before after gives = record {
  from_new = gives.from_new;
  is_layout = gives.is_layout;
  earlier = gives.earlier;
  of_layout = All-permutation (IsTermOf L1 f1) ts1 us1 after gives.of_layout;
  leads = λ last h added.
      adds_like L f last h (Compares c ts) (Compares c us) is_layout
      (gives.leads last h (adds_like L1 f1 last h (Compares c us1) (Compares c ts1) gives.is_layout added (λ values among. compares_permuted c ts1 us1 values after)))
      (λ values among. compares_permuted c us ts values before);
}

-- two steps
pub gives_then : (c : Comparison) (L : List VariableLiterals) (f : Cnf) (ts : List Term) (L1 : List VariableLiterals) (f1 : Cnf) (ts1 : List Term) (L2 : List VariableLiterals) (f2 : Cnf) (ts2 : List Term)
    → GiveWay c L f ts L1 f1 ts1 → GiveWay c L1 f1 ts1 L2 f2 ts2 → GiveWay c L f ts L2 f2 ts2
gives_then c L f ts L1 f1 ts1 L2 f2 ts2 one two = record {
  from_new = two.from_new;
  is_layout = two.is_layout;
  earlier = front_of_front L L1 L2 one.earlier two.earlier;
  of_layout = two.of_layout;
  leads = λ last h added. one.leads last h (two.leads last h added);
}

-- the last two terms in front, and one term behind the others
pub last_two : (terms middle rest : List Term) (first second : Term) → terms ≡ middle ++ first ∷ [] → middle ≡ rest ++ second ∷ [] → IsPermutation terms (first ∷ second ∷ rest)
last_two terms middle rest first second one two =
    subst (λ ts. IsPermutation ts (first ∷ second ∷ rest)) (sym one)
    (IsPermutation-trans (middle ++ first ∷ []) (first ∷ middle) (first ∷ second ∷ rest) (IsPermutation-to_front middle first)
    (IsPermutation-cons first middle (second ∷ rest) (subst (λ ts. IsPermutation ts (second ∷ rest)) (sym two) (IsPermutation-to_front rest second))))

pub one_behind : (terms rest : List Term) (whole : Term) → terms ≡ rest ++ whole ∷ [] → IsPermutation (whole ∷ rest) terms
one_behind terms rest whole is = subst (IsPermutation (whole ∷ rest)) (sym is) (IsPermutation-sym (rest ++ whole ∷ []) (whole ∷ rest) (IsPermutation-to_front rest whole))

-- what a step that gave way leads to
pub led : {T E : Type 0} (r : Result T E) (c : Comparison) (L : List VariableLiterals) (f : Cnf) (ts : List Term) (L1 : List VariableLiterals) (f1 : Cnf) (ts1 us : List Term) (last : List VariableLiterals) (h : Cnf) (m : ℤ) → GiveWay c L f ts L1 f1 ts1
    → us ≡ ts1 → m ≡ c.number → OnOk r (Adds L1 f1 last h (λ values. IsTrue (is_as_said values c.truth (compare_holds c.op (total values us) m)))) → OnOk r (Adds L f last h (Compares c ts))
led (Ok x) c L f ts L1 f1 ts1 us last h m gives same is added =
    gives.leads last h
    (subst (λ (n : ℤ). Adds L1 f1 last h (λ values. IsTrue (is_as_said values c.truth (compare_holds c.op (total values ts1) n)))) is
    (subst (λ (vs : List Term). Adds L1 f1 last h (λ values. IsTrue (is_as_said values c.truth (compare_holds c.op (total values vs) m)))) same added))
led (Err e) c L f ts L1 f1 ts1 us last h m gives same is added = tt
