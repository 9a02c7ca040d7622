-- Sums of few terms, and their comparisons with a number.
use Rattle.std.proofs.Common.{◌≡◌, ◌≢◌, ◌⊎◌, inl, inr, ◌↔◌, ℕ, ◌+◌, ◌<◌, ◌≤◌, ℤ, pos, neg_ℤ, ◌+ℤ◌, ◌-ℤ◌, ◌*ℤ◌, ◌≤ℤ◌, Bool, true, false, not, IsTrue, List, [], ◌∷◌, ◌++◌, length, map, take, get_or, refl, sym, ap, subst, ◌∙◌, arith}
use Rattle.std.specs.List.{All, AllZip}
use Rattle.std.specs.Ordering.{int_eq}
use Rattle.std.proofs.lemmas.Bool.Decides.{Decides-int_eq}
use Rattle.std.proofs.lemmas.Int.{ints}
use Rattle.std.proofs.lemmas.List.{map-append, take_all, take_more}
use Rattle.std.proofs.lemmas.List.Elements.{All-cons, All-head, All-nil, All-tail}
use Rattle.ep_base.specs.declared.operators.CompareOp.{CompareOp}
use Rattle.ep_base.specs.Numbers.{compare_holds, sum_of}
use Rattle.ep_base.specs.Reads.{weighted_sum}
use Rattle.ep_flat.specs.Cons.{is_as_said, number_at}
use Rattle.std.specs.Prelude.{None, OnOk, Option, Result, Some}
use Rattle.cnf_core.specs.Formula.{Cnf}
use Rattle.enc_atoms.proofs.Adding.{adds_both}
use Rattle.enc_atoms.specs.Atoms.{Adds, AreOfDomains, clause_holds}
use Rattle.enc_atoms.specs.declared.atoms.Test.{Test}
use Rattle.enc_var.specs.Layouts.{IsLayoutOf}
use Rattle.enc_atoms.specs.declared.atoms.Atom.{Atom}
use Rattle.enc_linear.specs.declared.terms.Term.{Term}
use Rattle.enc_linear.specs.Guards.{IsTruthValue, Unless}
use Rattle.enc_linear.specs.Terms.{IsMirror, IsTermOf, total, worth_of}
use Rattle.enc_linear.proofs.Multiples.{mirror_of, mirror_worth}
use Rattle.enc_linear.proofs.Saying.{negated, said_always, said_by}
use Rattle.enc_linear.proofs.Turns.{relabelled, then_both}
use Rattle.enc_var.specs.Decoding.{VariableLiterals}
use Rattle.enc_var.proofs.Counts.{is_at_most, is_below}

-- a comparison, with the guards before it, in other words
pub unless_like : (guards : List Atom) (P R : List ℤ → Type 0) (values : List ℤ) → (P values ↔ R values) → Unless guards P values ↔ Unless guards R values
unless_like guards P R values same = (
  λ h. elim h as (λ _. Unless guards R values) [ inl g ↦ inl g | inr p ↦ inr (same.0 p) ],
  λ h. elim h as (λ _. Unless guards P values) [ inl g ↦ inl g | inr r ↦ inr (same.1 r) ],
)

-- two of them under the same guards
pub unless_both : (guards : List Atom) (P Q R : List ℤ → Type 0) (values : List ℤ) → ((P values × Q values) ↔ R values) → (Unless guards P values × Unless guards Q values) ↔ Unless guards R values
unless_both guards P Q R values same = (forth, back)
  where
    forth : Unless guards P values × Unless guards Q values → Unless guards R values
    forth (inl g, b) = inl g
    forth (inr p, inl g) = inl g
    forth (inr p, inr q) = inr (same.0 (p, q))

    back : Unless guards R values → Unless guards P values × Unless guards Q values
    back (inl g) = (inl g, inl g)
    back (inr r) = (inr (same.1 r).0, inr (same.1 r).1)

pub total_none : (values : List ℤ) (terms : List Term) → length terms ≡ 0 → total values terms ≡ pos 0
unfolding total sum_of
total_none values [] none = refl
total_none values (t ∷ terms) none = absurd (omega (arith, none))

pub total_cons : (values : List ℤ) (t : Term) (terms : List Term) → total values (t ∷ terms) ≡ worth_of values t +ℤ total values terms
unfolding total sum_of
total_cons values t terms = refl

pub total_one : (values : List ℤ) (terms : List Term) (a : Term) → length terms ≡ 1 → a ≡ get_or terms 0 a → total values terms ≡ worth_of values a
total_one values [] a long first = absurd (omega (arith, long))
total_one values (t ∷ terms) a long first =
    let rest = total_none values terms (omega (arith, long)) in
    let step = total_cons values t terms in
    let same : worth_of values a ≡ worth_of values t = ap (worth_of values) first in
    omega (arith, ints, rest, step, same)

pub total_two : (values : List ℤ) (terms : List Term) (a b : Term) → length terms ≡ 2 → a ≡ get_or terms 0 a → b ≡ get_or terms 1 b → total values terms ≡ worth_of values a +ℤ worth_of values b
total_two values [] a b long first second = absurd (omega (arith, long))
total_two values (t ∷ terms) a b long first second =
    let rest = total_one values terms b (omega (arith, long)) second in
    let step = total_cons values t terms in
    let same : worth_of values a ≡ worth_of values t = ap (worth_of values) first in
    omega (arith, ints, rest, step, same)

pub total_three : (values : List ℤ) (terms : List Term) (a b d : Term) → length terms ≡ 3 → a ≡ get_or terms 0 a → b ≡ get_or terms 1 b → d ≡ get_or terms 2 d
    → total values terms ≡ worth_of values a +ℤ (worth_of values b +ℤ worth_of values d)
total_three values [] a b d long first second third = absurd (omega (arith, long))
total_three values (t ∷ terms) a b d long first second third =
    let rest = total_two values terms b d (omega (arith, long)) second third in
    let step = total_cons values t terms in
    let same : worth_of values a ≡ worth_of values t = ap (worth_of values) first in
    omega (arith, ints, rest, step, same)

-- one term more at the end
pub total_push : (values : List ℤ) (terms : List Term) (t : Term) → total values (terms ++ t ∷ []) ≡ total values terms +ℤ worth_of values t
unfolding total sum_of
total_push values [] t = omega (arith, ints)
total_push values (s ∷ terms) t = let h = total_push values terms t in omega (arith, ints, h)

-- comparisons as bounds on a sum or its opposite
pub at_most_is : (n c m : ℤ) → m ≡ c → (n ≤ℤ m) ↔ IsTrue (compare_holds CompareOp.AtMost n c)
unfolding compare_holds
at_most_is n c m e = (λ h. is_at_most n c (omega (arith, ints, h, e)), λ h. omega (arith, ints, h, e))

pub less_is : (n c m : ℤ) → m ≡ c -ℤ pos 1 → (n ≤ℤ m) ↔ IsTrue (compare_holds CompareOp.Less n c)
unfolding compare_holds
less_is n c m e = (λ h. is_below n c (omega (arith, ints, h, e)), λ h. omega (arith, ints, h, e))

pub at_least_is : (n o c m : ℤ) → o ≡ neg_ℤ n → m ≡ neg_ℤ c → (o ≤ℤ m) ↔ IsTrue (compare_holds CompareOp.AtLeast n c)
unfolding compare_holds
at_least_is n o c m p e = (λ h. is_at_most c n (omega (arith, ints, h, p, e)), λ h. omega (arith, ints, h, p, e))

pub greater_is : (n o c m : ℤ) → o ≡ neg_ℤ n → m ≡ neg_ℤ c -ℤ pos 1 → (o ≤ℤ m) ↔ IsTrue (compare_holds CompareOp.Greater n c)
unfolding compare_holds
greater_is n o c m p e = (λ h. is_below c n (omega (arith, ints, h, p, e)), λ h. omega (arith, ints, h, p, e))

pub equal_is : (n o c m k : ℤ) → o ≡ neg_ℤ n → m ≡ c → k ≡ neg_ℤ c → ((n ≤ℤ m) × (o ≤ℤ k)) ↔ IsTrue (compare_holds CompareOp.Equal n c)
unfolding compare_holds
equal_is n o c m k p e d = (
  λ h. (Decides-int_eq n c).1 (omega (arith, ints, h.0, h.1, p, e, d)),
  λ h. let s = (Decides-int_eq n c).0 h in (omega (arith, ints, s, e), omega (arith, ints, s, p, d)),
)

-- the mirrors of terms are of their layout, and come to the opposite sum
pub mirrors_of_layout : (L : List VariableLiterals) (f : Cnf) (terms mirrors : List Term) → All (IsTermOf L f) terms → AllZip IsMirror terms mirrors → All (IsTermOf L f) mirrors
mirrors_of_layout L f [] [] h z = All-nil (IsTermOf L f)
mirrors_of_layout L f [] (m ∷ mirrors) h z = absurd z
mirrors_of_layout L f (t ∷ terms) [] h z = absurd z
mirrors_of_layout L f (t ∷ terms) (m ∷ mirrors) h z =
    All-cons (IsTermOf L f) m mirrors (mirror_of L f t m (All-head (IsTermOf L f) t terms h) z.0) (mirrors_of_layout L f terms mirrors (All-tail (IsTermOf L f) t terms h) z.1)

pub mirrors_opposite : (terms mirrors : List Term) → AllZip IsMirror terms mirrors → (values : List ℤ) → total values mirrors ≡ neg_ℤ (total values terms)
unfolding total sum_of
mirrors_opposite [] [] z values = refl
mirrors_opposite [] (m ∷ mirrors) z values = absurd z
mirrors_opposite (t ∷ terms) [] z values = absurd z
mirrors_opposite (t ∷ terms) (m ∷ mirrors) z values =
    let rest = mirrors_opposite terms mirrors z.1 values in
    let worth = mirror_worth values t m z.0 in
    omega (arith, ints, rest, worth)

-- a weighted sum with one part more
pub weighted_push : (xs : List (ℤ × ℤ)) (x : ℤ × ℤ) → weighted_sum (xs ++ x ∷ []) ≡ weighted_sum xs +ℤ (x.0 *ℤ x.1)
unfolding weighted_sum sum_of
weighted_push [] x = omega (arith, ints)
weighted_push (y ∷ xs) x = let h = weighted_push xs x in omega (arith, ints, h)

pub weighted_more : (g : (ℤ × ℕ) → ℤ × ℤ) (parts : List (ℤ × ℕ)) (i : ℕ) (d : ℤ × ℕ) → i < length parts
    → weighted_sum (map g (take (i + 1) parts)) ≡ weighted_sum (map g (take i parts)) +ℤ ((g (get_or parts i d)).0 *ℤ (g (get_or parts i d)).1)
weighted_more g parts i d low =
    ap (λ ps. weighted_sum (map g ps)) (take_more parts i d low) ∙ ap weighted_sum (map-append g (take i parts) (get_or parts i d ∷ [])) ∙ weighted_push (map g (take i parts)) (g (get_or parts i d))

-- the numbers of parts in a sum
abbrev pub Sums : List VariableLiterals → List Term → List (ℤ × ℕ) → Type 0
Sums L terms parts = (values : List ℤ) → AreOfDomains L values → total values terms ≡ weighted_sum (map (λ part. (part.0, number_at values part.1)) parts)

pub sums_none : (L : List VariableLiterals) (terms : List Term) (parts : List (ℤ × ℕ)) → terms ≡ [] → Sums L terms (take 0 parts)
unfolding total weighted_sum sum_of
sums_none L terms parts none values among = ap (total values) none

pub sums_more : (L : List VariableLiterals) (old new : List Term) (parts : List (ℤ × ℕ)) (i : ℕ) (d : ℤ × ℕ) (a : ℤ) (x : ℕ) → i < length parts → Sums L old (take i parts)
    → ((values : List ℤ) → AreOfDomains L values → total values new ≡ total values old +ℤ (a *ℤ number_at values x)) → a ≡ (get_or parts i d).0 → x ≡ (get_or parts i d).1 → Sums L new (take (i + 1) parts)
sums_more L old new parts i d a x low before step first second values among =
    let g : (ℤ × ℕ) → ℤ × ℤ = λ part. (part.0, number_at values part.1) in
    step values among ∙ ap (λ n. n +ℤ (a *ℤ number_at values x)) (before values among)
    ∙ ap (λ b. weighted_sum (map g (take i parts)) +ℤ (b *ℤ number_at values x)) first
    ∙ ap (λ y. weighted_sum (map g (take i parts)) +ℤ ((get_or parts i d).0 *ℤ number_at values y)) second
    ∙ sym (weighted_more g parts i d low)

pub sums_all : (L : List VariableLiterals) (terms : List Term) (parts : List (ℤ × ℕ)) (n : ℕ) → length parts ≤ n → Sums L terms (take n parts) → Sums L terms parts
sums_all L terms parts n long h = subst (Sums L terms) (take_all n parts long) h

-- the sum isn't the number
pub other_is : (n c m : ℤ) → m ≡ c → (n ≢ m) ↔ IsTrue (compare_holds CompareOp.NotEqual n c)
unfolding compare_holds
other_is n c m e =
    let t = negated (int_eq n c) (n ≡ c) (Decides-int_eq n c) in
    (λ h. t.1 (λ s. h (s ∙ sym e)), λ h s. t.0 h (s ∙ e))

-- a bound on a sum, in other words, where there is memory
pub bound_said : {T E : Type 0} (r : Result T E) (L : List VariableLiterals) (f : Cnf) (L1 : List VariableLiterals) (g : Cnf) (guards : List Atom) (n n' : List ℤ → ℤ) (m most : ℤ) → IsLayoutOf L f
    → OnOk r (Adds L f L1 g (Unless guards (λ values. n values ≤ℤ m))) → m ≡ most → ((values : List ℤ) → n' values ≡ n values) → OnOk r (Adds L f L1 g (Unless guards (λ values. n' values ≤ℤ most)))
bound_said r L f L1 g guards n n' m most is_layout added same is =
    relabelled r L f L1 g (Unless guards (λ values. n values ≤ℤ m)) (Unless guards (λ values. n' values ≤ℤ most)) is_layout
    (λ values among. let e = is values in unless_like guards (λ vs. n vs ≤ℤ m) (λ vs. n' vs ≤ℤ most) values (λ h. omega (arith, ints, h, e, same), λ h. omega (arith, ints, h, e, same))) added

pub apart_said : {T E : Type 0} (r : Result T E) (L : List VariableLiterals) (f : Cnf) (L1 : List VariableLiterals) (g : Cnf) (guards : List Atom) (n n' : List ℤ → ℤ) (m most : ℤ) → IsLayoutOf L f
    → OnOk r (Adds L f L1 g (Unless guards (λ values. n values ≢ m))) → m ≡ most → ((values : List ℤ) → n' values ≡ n values) → OnOk r (Adds L f L1 g (Unless guards (λ values. n' values ≢ most)))
apart_said r L f L1 g guards n n' m most is_layout added same is =
    relabelled r L f L1 g (Unless guards (λ values. n values ≢ m)) (Unless guards (λ values. n' values ≢ most)) is_layout
    (λ values among. unless_like guards (λ vs. n vs ≢ m) (λ vs. n' vs ≢ most) values (λ h e. h (sym (is values) ∙ e ∙ sym same), λ h e. h (is values ∙ e ∙ same))) added

-- a bound as a comparison
pub compared_said : {T E : Type 0} (r : Result T E) (L : List VariableLiterals) (f : Cnf) (L1 : List VariableLiterals) (g : Cnf) (guards : List Atom) (n : List ℤ → ℤ) (m : ℤ) (R : List ℤ → Type 0) → IsLayoutOf L f
    → OnOk r (Adds L f L1 g (Unless guards (λ values. n values ≤ℤ m))) → ((values : List ℤ) → (n values ≤ℤ m) ↔ R values) → OnOk r (Adds L f L1 g (Unless guards R))
compared_said r L f L1 g guards n m R is_layout added same =
    relabelled r L f L1 g (Unless guards (λ values. n values ≤ℤ m)) (Unless guards R) is_layout (λ values among. unless_like guards (λ vs. n vs ≤ℤ m) R values (same values)) added

pub other_compared : {T E : Type 0} (r : Result T E) (L : List VariableLiterals) (f : Cnf) (L1 : List VariableLiterals) (g : Cnf) (guards : List Atom) (n : List ℤ → ℤ) (m : ℤ) (R : List ℤ → Type 0) → IsLayoutOf L f
    → OnOk r (Adds L f L1 g (Unless guards (λ values. n values ≢ m))) → ((values : List ℤ) → (n values ≢ m) ↔ R values) → OnOk r (Adds L f L1 g (Unless guards R))
other_compared r L f L1 g guards n m R is_layout added same =
    relabelled r L f L1 g (Unless guards (λ values. n values ≢ m)) (Unless guards R) is_layout (λ values among. unless_like guards (λ vs. n vs ≢ m) R values (same values)) added

pub both_compared : {T E : Type 0} (r : Result T E) (L : List VariableLiterals) (f f1 g : Cnf) (guards : List Atom) (n o : List ℤ → ℤ) (m k : ℤ) (R : List ℤ → Type 0) → IsLayoutOf L f
    → Adds L f L f1 (Unless guards (λ values. n values ≤ℤ m)) → OnOk r (Adds L f1 L g (Unless guards (λ values. o values ≤ℤ k)))
    → ((values : List ℤ) → ((n values ≤ℤ m) × (o values ≤ℤ k)) ↔ R values) → OnOk r (Adds L f L g (Unless guards R))
both_compared r L f f1 g guards n o m k R is_layout before added same =
    then_both r L f f1 g (Unless guards (λ values. n values ≤ℤ m)) (Unless guards (λ values. o values ≤ℤ k)) (Unless guards R) is_layout before
    (λ values among. unless_both guards (λ vs. n vs ≤ℤ m) (λ vs. o vs ≤ℤ k) R values (same values)) added

-- the operators, one by one
pub by_op : (op one : CompareOp) (P : Type 0) (n c : ℤ) → op ≡ one → P ↔ IsTrue (compare_holds one n c) → P ↔ IsTrue (compare_holds op n c)
by_op op one P n c e h = subst (λ (o : CompareOp). P ↔ IsTrue (compare_holds o n c)) (sym e) h

-- a comparison without a truth, and with one
pub said_one : {T E : Type 0} (r : Result T E) (L : List VariableLiterals) (f g : Cnf) (truth : Option ℕ) (op : CompareOp) (n : List ℤ → ℤ) (m number : ℤ) → IsLayoutOf L f
    → OnOk r (Adds L f L g (Unless [] (λ values. IsTrue (compare_holds op (n values) m)))) → truth ≡ None → m ≡ number
    → OnOk r (Adds L f L g (λ values. IsTrue (is_as_said values truth (compare_holds op (n values) number))))
said_one r L f g truth op n m number is_layout added none same =
    relabelled r L f L g (Unless [] (λ values. IsTrue (compare_holds op (n values) m))) (λ values. IsTrue (is_as_said values truth (compare_holds op (n values) number))) is_layout
    (λ values among. subst (λ (k : ℤ). (IsTrue (clause_holds values []) ⊎ IsTrue (compare_holds op (n values) m)) ↔ IsTrue (is_as_said values truth (compare_holds op (n values) k))) same
    (said_always values truth (compare_holds op (n values) m) none)) added

false_is : (a b : Bool) → b ≡ not a → (b ≡ true) ↔ (a ≡ false)
false_is true b e = (λ h. absurd (cc (e, h)), λ h. absurd (cc h))
false_is false b e = (λ h. refl, λ h. e)

pub said_two : {T E : Type 0} (r : Result T E) (L : List VariableLiterals) (f f1 f2 g : Cnf) (t : ℕ) (truth : Option ℕ) (non one : Atom) (op against : CompareOp) (n : List ℤ → ℤ) (m k number : ℤ) → IsLayoutOf L f
    → Adds L f L f1 (IsTruthValue t) → Adds L f1 L f2 (Unless (non ∷ []) (λ values. IsTrue (compare_holds op (n values) m))) → OnOk r (Adds L f2 L g (Unless (one ∷ []) (λ values. IsTrue (compare_holds against (n values) k))))
    → truth ≡ Some t → non ≡ record { var = t; test = Test.IsNot; value = pos 1 } → one ≡ record { var = t; test = Test.Is; value = pos 1 } → m ≡ number → k ≡ number
    → ((x y : ℤ) → compare_holds against x y ≡ not (compare_holds op x y)) → OnOk r (Adds L f L g (λ values. IsTrue (is_as_said values truth (compare_holds op (n values) number))))
said_two r L f f1 f2 g t truth non one op against n m k number is_layout first second added some is_non is_one same_m same_k opposite =
    let P : List ℤ → Type 0 = λ values. IsTruthValue t values × Unless (non ∷ []) (λ values. IsTrue (compare_holds op (n values) m)) values in
    then_both r L f f2 g P (Unless (one ∷ []) (λ values. IsTrue (compare_holds against (n values) k))) (λ values. IsTrue (is_as_said values truth (compare_holds op (n values) number))) is_layout
    (adds_both L f f1 L f2 (IsTruthValue t) (Unless (non ∷ []) (λ values. IsTrue (compare_holds op (n values) m))) is_layout first second)
    (λ values among. same values) added
  where
    same : (values : List ℤ)
        → ((IsTruthValue t values × Unless (non ∷ []) (λ values. IsTrue (compare_holds op (n values) m)) values) × Unless (one ∷ []) (λ values. IsTrue (compare_holds against (n values) k)) values)
        ↔ IsTrue (is_as_said values truth (compare_holds op (n values) number))
    same values =
        let h : Bool = compare_holds op (n values) number in
        let s = said_by values truth t h non one some is_non is_one in
        let e : compare_holds op (n values) m ≡ h = ap (compare_holds op (n values)) same_m in
        let d = false_is h (compare_holds against (n values) k) (ap (compare_holds against (n values)) same_k ∙ opposite (n values) number) in (
          λ c. s.0 (
            (c.0.0, elim c.0.1 as (λ _. IsTrue (clause_holds values (non ∷ [])) ⊎ (h ≡ true)) [ inl g ↦ inl g | inr x ↦ inr (sym e ∙ x) ]),
            elim c.1 as (λ _. IsTrue (clause_holds values (one ∷ [])) ⊎ (h ≡ false)) [ inl g ↦ inl g | inr x ↦ inr (d.0 x) ],
          ),
          λ x. let c = s.1 x in (
            (c.0.0, elim c.0.1 as (λ _. Unless (non ∷ []) (λ values. IsTrue (compare_holds op (n values) m)) values) [ inl g ↦ inl g | inr y ↦ inr (e ∙ y) ]),
            elim c.1 as (λ _. Unless (one ∷ []) (λ values. IsTrue (compare_holds against (n values) k)) values) [ inl g ↦ inl g | inr y ↦ inr (d.1 y) ],
          ),
        )

-- the sum in other words
pub linear_from : {T E : Type 0} (r : Result T E) (L : List VariableLiterals) (f : Cnf) (L1 : List VariableLiterals) (g : Cnf) (truth : Option ℕ) (op : CompareOp) (n w : List ℤ → ℤ) (m number : ℤ) → IsLayoutOf L f
    → OnOk r (Adds L f L1 g (λ values. IsTrue (is_as_said values truth (compare_holds op (n values) m)))) → m ≡ number → ((values : List ℤ) → AreOfDomains L values → n values ≡ w values)
    → OnOk r (Adds L f L1 g (λ values. IsTrue (is_as_said values truth (compare_holds op (w values) number))))
linear_from r L f L1 g truth op n w m number is_layout added same sums =
    relabelled r L f L1 g (λ values. IsTrue (is_as_said values truth (compare_holds op (n values) m))) (λ values. IsTrue (is_as_said values truth (compare_holds op (w values) number))) is_layout
    (λ values among.
    let e : is_as_said values truth (compare_holds op (n values) m) ≡ is_as_said values truth (compare_holds op (w values) number) =
    ap (λ k. is_as_said values truth (compare_holds op (n values) k)) same ∙ ap (λ k. is_as_said values truth (compare_holds op k number)) (sums values among.among) in
    (λ h. sym e ∙ h, λ h. e ∙ h)) added

pub equal_said : {T E : Type 0} (r : Result T E) (L : List VariableLiterals) (f : Cnf) (L1 : List VariableLiterals) (g : Cnf) (guards : List Atom) (n : List ℤ → ℤ) (op : CompareOp) (m number : ℤ) → IsLayoutOf L f
    → OnOk r (Adds L f L1 g (Unless guards (λ values. IsTrue (compare_holds CompareOp.Equal (n values) m)))) → m ≡ number → op ≡ CompareOp.Equal
    → OnOk r (Adds L f L1 g (Unless guards (λ values. IsTrue (compare_holds op (n values) number))))
equal_said r L f L1 g guards n op m number is_layout added same is =
    subst (λ (o : CompareOp). OnOk r (Adds L f L1 g (Unless guards (λ values. IsTrue (compare_holds o (n values) number))))) (sym is)
    (subst (λ (k : ℤ). OnOk r (Adds L f L1 g (Unless guards (λ values. IsTrue (compare_holds CompareOp.Equal (n values) k))))) same added)
