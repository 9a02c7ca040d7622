-- What clauses say, case by case.
use Rattle.std.proofs.Common.{◌≡◌, ◌↔◌, ℕ, ◌+◌, ◌<◌, ◌≤◌, ℤ, pos, Bool, true, false, IsTrue, not, ◌||◌, List, [], ◌∷◌, ◌++◌, length, take, get_or, refl, sym, ap, subst, ◌∙◌}
use Rattle.std.specs.Prelude.{Option, Some, None}
use Rattle.std.specs.List.{All, Contains}
use Rattle.std.specs.Ordering.{int_eq}
use Rattle.std.proofs.lemmas.Bool.Decides.{Decides-int_eq}
use Rattle.std.proofs.lemmas.List.Elements.{All-contains}
use Rattle.std.proofs.lemmas.List.Folds.{list_any-append}
use Rattle.std.proofs.Math.Bool.{or-false}
use Rattle.cnf_core.proofs.Members.{All-from_contains}
use Rattle.cnf_core.specs.Formula.{Cnf}
use Rattle.ep_base.specs.Numbers.{of_bool}
use Rattle.ep_base.specs.Reads.{IsWithinNumbers}
use Rattle.ep_flat.specs.Cons.{is_as_said, is_value, number_at}
use Rattle.enc_atoms.proofs.Adding.{adds_all, adds_both, adds_like, adds_none, adds_one_more}
use Rattle.enc_atoms.proofs.Decoded.{number_among}
use Rattle.enc_atoms.specs.Atoms.{Adds, atom_holds, clause_holds, test_holds}
use Rattle.enc_atoms.specs.declared.atoms.Atom.{Atom}
use Rattle.enc_atoms.specs.declared.atoms.Test.{Test}
use Rattle.enc_var.specs.Decoding.{VariableLiterals}
use Rattle.enc_var.specs.Layouts.{literals_at}
use Rattle.enc_arith.specs.Finding.{Finds}
use Rattle.enc_arith.specs.Saying.{IsReady, IsTarget, or_is_not, says}

-- the atoms of a test
abbrev pub is_atom : ℕ → ℤ → Atom
is_atom x n = record { var = x; test = Test.Is; value = n }

abbrev pub is_not_atom : ℕ → ℤ → Atom
is_not_atom x n = record { var = x; test = Test.IsNot; value = n }

pub one_pushed : (values : List ℤ) (when : List Atom) (a : Atom) → clause_holds values (when ++ a ∷ []) ≡ (clause_holds values when || atom_holds values a)
unfolding clause_holds
one_pushed values when a =
    list_any-append (atom_holds values) when (a ∷ []) ∙ ap (λ b. clause_holds values when || b) (or-false (atom_holds values a))

pub two_pushed : (values : List ℤ) (when : List Atom) (a b : Atom) → clause_holds values (when ++ a ∷ b ∷ []) ≡ (clause_holds values when || (atom_holds values a || atom_holds values b))
unfolding clause_holds
two_pushed values when a b =
    list_any-append (atom_holds values) when (a ∷ b ∷ []) ∙ ap (λ e. clause_holds values when || (atom_holds values a || e)) (or-false (atom_holds values b))

-- the same test
pub same_test : (a b : Bool) → a ≡ b → IsTrue a ↔ IsTrue b
same_test a b e = (λ h. subst IsTrue e h, λ h. subst IsTrue (sym e) h)

-- ---- a number, with and without a variable that says whether

said_number : (values : List ℤ) (when : List Atom) (r : ℕ) (n : ℤ) → clause_holds values (when ++ is_atom r n ∷ []) ≡ says values when None (int_eq (number_at values r) n)
unfolding says is_as_said atom_holds test_holds
said_number values when r n = one_pushed values when (is_atom r n)

both_ways : (c h : Bool) (x : ℤ) → (IsTrue (c || (not h || int_eq x (pos 1))) × IsTrue (c || (h || int_eq x (pos 0)))) ↔ IsTrue (c || int_eq x (of_bool h))
unfolding of_bool
both_ways true h x = (λ e. refl, λ e. (refl, refl))
both_ways false true x = (λ e. e.0, λ e. (e, refl))
both_ways false false x = (λ e. e.1, λ e. (refl, e))

said_whether : (values : List ℤ) (when : List Atom) (r t : ℕ) (n : ℤ)
    → (IsTrue (clause_holds values (when ++ is_not_atom r n ∷ is_atom t (pos 1) ∷ [])) × IsTrue (clause_holds values (when ++ is_atom r n ∷ is_atom t (pos 0) ∷ [])))
    ↔ IsTrue (says values when (Some t) (int_eq (number_at values r) n))
unfolding says is_as_said atom_holds test_holds
said_whether values when r t n =
    let one = two_pushed values when (is_not_atom r n) (is_atom t (pos 1)) in
    let two = two_pushed values when (is_atom r n) (is_atom t (pos 0)) in
    let h = both_ways (clause_holds values when) (int_eq (number_at values r) n) (number_at values t) in
    (λ e. h.0 (subst IsTrue one e.0, subst IsTrue two e.1), λ e. let b = h.1 e in (subst IsTrue (sym one) b.0, subst IsTrue (sym two) b.1))

said_failure : (values : List ℤ) (when : List Atom) → clause_holds values when ≡ says values when None false
unfolding says is_as_said
said_failure values when = sym (or-false (clause_holds values when))

said_false : (values : List ℤ) (when : List Atom) (t : ℕ) → clause_holds values (when ++ is_atom t (pos 0) ∷ []) ≡ says values when (Some t) false
unfolding says is_as_said atom_holds test_holds of_bool
said_false values when t = one_pushed values when (is_atom t (pos 0))

pub adds_number : (L : List VariableLiterals) (f g : Cnf) (when : List Atom) (truth : Option ℕ) (r : ℕ) (n m : ℤ) (a : Atom) → IsReady L f → truth ≡ None → m ≡ n → a ≡ is_atom r m
    → Adds L f L g (λ values. IsTrue (clause_holds values (when ++ a ∷ [])))
    → Adds L f L g (λ values. IsTrue (says values when truth (int_eq (number_at values r) n)))
adds_number L f g when truth r n m a ready none same is adds =
    let atom : a ≡ is_atom r n = is ∙ ap (is_atom r) same in
    subst (λ o. Adds L f L g (λ values. IsTrue (says values when o (int_eq (number_at values r) n)))) (sym none)
    (adds_like L f L g (λ values. IsTrue (clause_holds values (when ++ is_atom r n ∷ []))) (λ values. IsTrue (says values when None (int_eq (number_at values r) n))) ready.is_layout
    (subst (λ b. Adds L f L g (λ values. IsTrue (clause_holds values (when ++ b ∷ [])))) atom adds)
    (λ values among. same_test _ _ (said_number values when r n)))

pub adds_whether : (L : List VariableLiterals) (f f1 g : Cnf) (when : List Atom) (truth : Option ℕ) (r t : ℕ) (n m : ℤ) (a b a2 b2 : Atom) → IsReady L f → truth ≡ Some t → m ≡ n
    → a ≡ is_not_atom r m → b ≡ is_atom t (pos 1) → a2 ≡ is_atom r m → b2 ≡ is_atom t (pos 0)
    → Adds L f L f1 (λ values. IsTrue (clause_holds values (when ++ a ∷ b ∷ [])))
    → Adds L f1 L g (λ values. IsTrue (clause_holds values (when ++ a2 ∷ b2 ∷ [])))
    → Adds L f L g (λ values. IsTrue (says values when truth (int_eq (number_at values r) n)))
adds_whether L f f1 g when truth r t n m a b a2 b2 ready some same is_a is_b is_a2 is_b2 one two =
    let P : List ℤ → Type 0 = λ values. IsTrue (clause_holds values (when ++ is_not_atom r n ∷ is_atom t (pos 1) ∷ [])) in
    let Q : List ℤ → Type 0 = λ values. IsTrue (clause_holds values (when ++ is_atom r n ∷ is_atom t (pos 0) ∷ [])) in
    let p : a ∷ b ∷ [] ≡ is_not_atom r n ∷ is_atom t (pos 1) ∷ [] = ap (λ x. x ∷ b ∷ []) (is_a ∙ ap (is_not_atom r) same) ∙ ap (λ x. is_not_atom r n ∷ x ∷ []) is_b in
    let q : a2 ∷ b2 ∷ [] ≡ is_atom r n ∷ is_atom t (pos 0) ∷ [] = ap (λ x. x ∷ b2 ∷ []) (is_a2 ∙ ap (is_atom r) same) ∙ ap (λ x. is_atom r n ∷ x ∷ []) is_b2 in
    subst (λ o. Adds L f L g (λ values. IsTrue (says values when o (int_eq (number_at values r) n)))) (sym some)
    (adds_like L f L g (λ values. P values × Q values) (λ values. IsTrue (says values when (Some t) (int_eq (number_at values r) n))) ready.is_layout
    (adds_both L f f1 L g P Q ready.is_layout
    (subst (λ xs. Adds L f L f1 (λ values. IsTrue (clause_holds values (when ++ xs)))) p one)
    (subst (λ xs. Adds L f1 L g (λ values. IsTrue (clause_holds values (when ++ xs)))) q two))
    (λ values among. said_whether values when r t n))

pub adds_failure : (L : List VariableLiterals) (f g : Cnf) (when : List Atom) (truth : Option ℕ) → IsReady L f → truth ≡ None
    → Adds L f L g (λ values. IsTrue (clause_holds values when))
    → Adds L f L g (λ values. IsTrue (says values when truth false))
adds_failure L f g when truth ready none adds =
    subst (λ o. Adds L f L g (λ values. IsTrue (says values when o false))) (sym none)
    (adds_like L f L g (λ values. IsTrue (clause_holds values when)) (λ values. IsTrue (says values when None false)) ready.is_layout adds
    (λ values among. same_test _ _ (said_failure values when)))

pub adds_false : (L : List VariableLiterals) (f g : Cnf) (when : List Atom) (truth : Option ℕ) (t : ℕ) (a : Atom) → IsReady L f → truth ≡ Some t → a ≡ is_atom t (pos 0)
    → Adds L f L g (λ values. IsTrue (clause_holds values (when ++ a ∷ [])))
    → Adds L f L g (λ values. IsTrue (says values when truth false))
adds_false L f g when truth t a ready some is adds =
    subst (λ o. Adds L f L g (λ values. IsTrue (says values when o false))) (sym some)
    (adds_like L f L g (λ values. IsTrue (clause_holds values (when ++ is_atom t (pos 0) ∷ []))) (λ values. IsTrue (says values when (Some t) false)) ready.is_layout
    (subst (λ b. Adds L f L g (λ values. IsTrue (clause_holds values (when ++ b ∷ [])))) is adds)
    (λ values among. same_test _ _ (said_false values when t)))

-- ---- what was found of a number

pub adds_found : (L : List VariableLiterals) (f g : Cnf) (when atoms : List Atom) (truth : Option ℕ) (r : ℕ) (found : Option ℤ) (v w : ℤ) → IsReady L f → IsTarget L truth r → Finds found w → w ≡ v → atoms ≡ when
    → Adds L f L g (λ values. IsTrue (says values atoms truth (is_value found (number_at values r))))
    → Adds L f L g (λ values. IsTrue (says values when truth (int_eq (number_at values r) v)))
adds_found L f g when atoms truth r found v w ready target finds same is adds =
    adds_like L f L g (λ values. IsTrue (says values atoms truth (is_value found (number_at values r)))) (λ values. IsTrue (says values when truth (int_eq (number_at values r) v))) ready.is_layout adds
    (λ values among. same_test _ _ (
    ap (says values atoms truth) (finds.same (number_at values r) (All-contains IsWithinNumbers (literals_at L r).domain (number_at values r) target.numbers (number_among L values r among target.there)))
    ∙ ap (λ x. says values atoms truth (int_eq (number_at values r) x)) same
    ∙ ap (λ xs. says values xs truth (int_eq (number_at values r) v)) is
    ))

pub adds_some : (L : List VariableLiterals) (f g : Cnf) (when : List Atom) (truth : Option ℕ) (r : ℕ) (found : Option ℤ) (n m : ℤ) → found ≡ Some n → m ≡ n
    → Adds L f L g (λ values. IsTrue (says values when truth (int_eq (number_at values r) m)))
    → Adds L f L g (λ values. IsTrue (says values when truth (is_value found (number_at values r))))
unfolding is_value
adds_some L f g when truth r found n m some same adds =
    subst (λ o. Adds L f L g (λ values. IsTrue (says values when truth (is_value o (number_at values r))))) (sym some)
    (subst (λ x. Adds L f L g (λ values. IsTrue (says values when truth (int_eq (number_at values r) x)))) same adds)

pub adds_no_number : (L : List VariableLiterals) (f g : Cnf) (when : List Atom) (truth : Option ℕ) (r : ℕ) (found : Option ℤ) → found ≡ None
    → Adds L f L g (λ values. IsTrue (says values when truth false))
    → Adds L f L g (λ values. IsTrue (says values when truth (is_value found (number_at values r))))
unfolding is_value
adds_no_number L f g when truth r found none adds =
    subst (λ o. Adds L f L g (λ values. IsTrue (says values when truth (is_value o (number_at values r))))) (sym none) adds

-- the same of another number that is always this one
pub adds_same : (L : List VariableLiterals) (f g : Cnf) (when atoms : List Atom) (truth : Option ℕ) (r : ℕ) (v w : List ℤ → ℤ) → IsReady L f → atoms ≡ when → ((values : List ℤ) → w values ≡ v values)
    → Adds L f L g (λ values. IsTrue (says values atoms truth (int_eq (number_at values r) (w values))))
    → Adds L f L g (λ values. IsTrue (says values when truth (int_eq (number_at values r) (v values))))
adds_same L f g when atoms truth r v w ready is same adds =
    adds_like L f L g (λ values. IsTrue (says values atoms truth (int_eq (number_at values r) (w values)))) (λ values. IsTrue (says values when truth (int_eq (number_at values r) (v values)))) ready.is_layout adds
    (λ values among. same_test _ _ (
    ap (λ x. says values atoms truth (int_eq (number_at values r) x)) (same values)
    ∙ ap (λ xs. says values xs truth (int_eq (number_at values r) (v values))) is
    ))

-- ---- all cases of a variable

pub where_is : (values : List ℤ) (when : List Atom) (x : ℕ) (n : ℤ) (truth : Option ℕ) (h : Bool) → int_eq (number_at values x) n ≡ true → says values (or_is_not when x n) truth h ≡ says values when truth h
unfolding says atom_holds test_holds
where_is values when x n truth h e =
    ap (λ b. b || is_as_said values truth h) (one_pushed values when (is_not_atom x n) ∙ ap (λ b. clause_holds values when || not b) e ∙ or-false (clause_holds values when))

pub where_is_not : (values : List ℤ) (when : List Atom) (x : ℕ) (n : ℤ) (truth : Option ℕ) (h : Bool) → int_eq (number_at values x) n ≡ false → says values (or_is_not when x n) truth h ≡ true
unfolding says atom_holds test_holds
where_is_not values when x n truth h e =
    ap (λ b. b || is_as_said values truth h) (one_pushed values when (is_not_atom x n) ∙ ap (λ b. clause_holds values when || not b) e ∙ or_true (clause_holds values when))
  where
    or_true : (b : Bool) → (b || true) ≡ true
    or_true true = refl
    or_true false = refl

-- where the variable has one of the numbers, its case alone matters
pub each_case : (values : List ℤ) (when : List Atom) (x : ℕ) (truth : Option ℕ) (P : ℤ → Bool) (ns : List ℤ) → Contains ns (number_at values x)
    → All (λ n. IsTrue (says values (or_is_not when x n) truth (P n))) ns ↔ IsTrue (says values when truth (P (number_at values x)))
each_case values when x truth P ns found = (
  λ all.
      subst IsTrue (where_is values when x (number_at values x) truth (P (number_at values x)) ((Decides-int_eq (number_at values x) (number_at values x)).1 refl))
      (All-contains (λ n. IsTrue (says values (or_is_not when x n) truth (P n))) ns (number_at values x) all found),
  λ h. All-from_contains (λ n. IsTrue (says values (or_is_not when x n) truth (P n))) ns (λ n among. by h n (int_eq (number_at values x) n) refl),
)
  where
    by : IsTrue (says values when truth (P (number_at values x))) → (n : ℤ) → (b : Bool) → int_eq (number_at values x) n ≡ b → IsTrue (says values (or_is_not when x n) truth (P n))
    by h n true e =
        let same : number_at values x ≡ n = (Decides-int_eq (number_at values x) n).0 e in
        subst IsTrue (sym (where_is values when x n truth (P n) e)) (subst (λ m. IsTrue (says values when truth (P m))) same h)
    by h n false e = subst IsTrue (sym (where_is_not values when x n truth (P n) e)) refl

-- the cases of the first numbers of a variable
abbrev pub CasesOf : List Atom → ℕ → Option ℕ → (List ℤ → ℤ → Bool) → List ℤ → List ℤ → Type 0
CasesOf when x truth P ns values = All (λ n. IsTrue (says values (or_is_not when x n) truth (P values n))) ns

pub cases_begin : (L : List VariableLiterals) (f : Cnf) (when : List Atom) (x : ℕ) (truth : Option ℕ) (P : List ℤ → ℤ → Bool) (ns : List ℤ) → IsReady L f
    → Adds L f L f (λ values. CasesOf when x truth P (take 0 ns) values)
cases_begin L f when x truth P ns ready = adds_none L f (λ values n. IsTrue (says values (or_is_not when x n) truth (P values n))) ns ready.is_layout ready.from_new

pub cases_more : (L : List VariableLiterals) (f f1 g : Cnf) (when : List Atom) (x : ℕ) (truth : Option ℕ) (P : List ℤ → ℤ → Bool) (ns : List ℤ) (k : ℕ) (d n : ℤ) → IsReady L f → k < length ns → n ≡ get_or ns k d
    → Adds L f L f1 (λ values. CasesOf when x truth P (take k ns) values)
    → Adds L f1 L g (λ values. IsTrue (says values (or_is_not when x n) truth (P values n)))
    → Adds L f L g (λ values. CasesOf when x truth P (take (k + 1) ns) values)
cases_more L f f1 g when x truth P ns k d n ready low is one two =
    let H : List ℤ → ℤ → Type 0 = λ values m. IsTrue (says values (or_is_not when x m) truth (P values m)) in
    adds_one_more L f f1 L g H ns k d ready.is_layout low one (subst (λ m. Adds L f1 L g (λ values. H values m)) is two)

pub cases_end : (L : List VariableLiterals) (f g : Cnf) (when : List Atom) (x : ℕ) (truth : Option ℕ) (P : List ℤ → ℤ → Bool) (ns : List ℤ) (k : ℕ) → IsReady L f → x < length L → ns ≡ (literals_at L x).domain → length ns ≤ k
    → Adds L f L g (λ values. CasesOf when x truth P (take k ns) values)
    → Adds L f L g (λ values. IsTrue (says values when truth (P values (number_at values x))))
cases_end L f g when x truth P ns k ready there is long adds =
    let H : List ℤ → ℤ → Type 0 = λ values n. IsTrue (says values (or_is_not when x n) truth (P values n)) in
    adds_like L f L g (λ values. All (H values) ns) (λ values. IsTrue (says values when truth (P values (number_at values x)))) ready.is_layout
    (adds_all L f L g H ns k long adds)
    (λ values among. each_case values when x truth (P values) ns (subst (λ ms. Contains ms (number_at values x)) (sym is) (number_among L values x among there)))
