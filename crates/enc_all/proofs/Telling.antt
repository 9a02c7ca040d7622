-- What clauses between truth values say.
use Rattle.std.proofs.Common.{◌≡◌, ◌↔◌, ◌⊎◌, inl, inr, ℕ, zero, suc, ◌+◌, ◌<◌, ◌≤◌, ℤ, pos, Bool, true, false, not, ◌||◌, ◌&&◌, IsTrue, List, [], ◌∷◌, ◌++◌, length, map, take, refl, sym, ap, subst, ◌∙◌, arith, Option, Some, None, option_to_list, slice_index_or}
use Rattle.std.specs.List.{All, Contains, list_all, list_any}
use Rattle.std.specs.Ordering.{int_eq}
use Rattle.std.proofs.lemmas.Bool.Decides.{Decides-int_eq}
use Rattle.std.proofs.lemmas.List.Elements.{All-cons, All-contains, All-head, All-map, All-push, All-tail, Contains-append_left, Contains-append_right, Contains-get_or}
use Rattle.std.proofs.Math.Bool.{or-false}
use Rattle.cnf_core.proofs.Members.{All-from_contains, and_parts, passes_none}
use Rattle.cnf_core.specs.Formula.{Cnf}
use Rattle.enc_all.specs.Parts.{IsTruth, any_part, other_part, part_atom, part_holds, test_of}
use Rattle.enc_atoms.proofs.Adding.{adds_both, adds_like}
use Rattle.enc_atoms.specs.Atoms.{Adds, atom_holds, clause_holds, test_holds}
use Rattle.enc_atoms.specs.declared.atoms.Atom.{Atom}
use Rattle.enc_atoms.specs.declared.atoms.Test.{Test}
use Rattle.enc_var.specs.Decoding.{VariableLiterals}
use Rattle.enc_var.specs.Layouts.{IsLayoutOf}
use Rattle.ep_base.specs.Numbers.{is_one, of_bool}
use Rattle.ep_base.specs.Reads.{same_bool}
use Rattle.ep_flat.specs.Cons.{all_of, clause, is_as_said, kind_holds, number_at, same_truth}

bad : {X : Type 0} → true ≡ false → X
bad h = absurd (never h)
  where
    never : true ≡ false → ⊥
    never h = cc

-- the atom of a part
pub part_is : (p : Bool × ℕ) (b : Bool) (a : Atom) → p.0 ≡ b → a ≡ record { var = p.1; test = test_of b; value = pos 1 } → a ≡ part_atom p
part_is p b a e h = h ∙ ap (λ c. record { var = p.1; test = test_of c; value = pos 1 }) (sym e)

same_true : (b : Bool) → same_bool b true ≡ b
unfolding same_bool
same_true true = refl
same_true false = refl

same_false : (b : Bool) → same_bool b false ≡ not b
unfolding same_bool
same_false true = refl
same_false false = refl

same_not : (b c : Bool) → same_bool b (not c) ≡ not (same_bool b c)
unfolding same_bool
same_not true c = refl
same_not false true = refl
same_not false false = refl

atom_is_part : (values : List ℤ) (b : Bool) (x : ℕ) → test_holds (test_of b) (pos 1) (number_at values x) ≡ same_bool (is_one (number_at values x)) b
unfolding test_holds test_of is_one
atom_is_part values true x = sym (same_true (int_eq (number_at values x) (pos 1)))
atom_is_part values false x = sym (same_false (int_eq (number_at values x) (pos 1)))

-- a clause of the parts' atoms holds where one of the parts is so
pub atoms_hold : (values : List ℤ) (parts : List (Bool × ℕ)) → clause_holds values (map part_atom parts) ≡ any_part values parts
unfolding clause_holds any_part atom_holds part_holds
atoms_hold values [] = refl
atoms_hold values (p ∷ parts) = ap (λ b. b || list_any (atom_holds values) (map part_atom parts)) (atom_is_part values p.0 p.1) ∙ ap (λ b. same_bool (is_one (number_at values p.1)) p.0 || b) (atoms_hold values parts)

is_same : (a b : Bool) → a ≡ b → IsTrue a ↔ IsTrue b
is_same a b h = (λ on. subst IsTrue h on, λ on. subst IsTrue (sym h) on)

-- the same of all numbers of variables
pub adds_as : (L : List VariableLiterals) (f g : Cnf) (P R : List ℤ → Type 0) → IsLayoutOf L f → ((values : List ℤ) → P values ↔ R values) → Adds L f L g P → Adds L f L g R
adds_as L f g P R is_layout same adds = adds_like L f L g P R is_layout adds (λ values among. same values)

pub adds_parts : (L : List VariableLiterals) (f g : Cnf) (atoms : List Atom) (parts : List (Bool × ℕ)) → IsLayoutOf L f → atoms ≡ map part_atom parts
    → Adds L f L g (λ values. IsTrue (clause_holds values atoms)) → Adds L f L g (λ values. IsTrue (any_part values parts))
adds_parts L f g atoms parts is_layout is adds =
    adds_as L f g (λ values. IsTrue (clause_holds values atoms)) (λ values. IsTrue (any_part values parts)) is_layout
    (λ values. is_same (clause_holds values atoms) (any_part values parts) (ap (clause_holds values) is ∙ atoms_hold values parts)) adds

or_either : (a b : Bool) → IsTrue (a || b) ↔ (IsTrue a ⊎ IsTrue b)
or_either true b = (λ h. inl refl, λ h. refl)
or_either false b = (λ h. inr h, λ h. elim h as (λ _. IsTrue b) [ inl never ↦ bad (sym never) | inr holds ↦ holds ])

pub one_part : (values : List ℤ) (a : Bool × ℕ) → IsTrue (any_part values (a ∷ [])) ↔ IsTrue (part_holds values a)
unfolding any_part
one_part values a = is_same (part_holds values a || false) (part_holds values a) (or-false (part_holds values a))

pub two_parts : (values : List ℤ) (a b : Bool × ℕ) → IsTrue (any_part values (a ∷ b ∷ [])) ↔ (IsTrue (part_holds values a) ⊎ IsTrue (part_holds values b))
unfolding any_part
two_parts values a b =
    let either = or_either (part_holds values a) (any_part values (b ∷ [])) in (
      λ h. elim (either.0 h) as (λ _. IsTrue (part_holds values a) ⊎ IsTrue (part_holds values b)) [ inl here ↦ inl here | inr later ↦ inr ((one_part values b).0 later) ],
      λ h. either.1 (elim h as (λ _. IsTrue (part_holds values a) ⊎ IsTrue (any_part values (b ∷ []))) [ inl here ↦ inl here | inr later ↦ inr ((one_part values b).1 later) ]),
    )

pub three_parts : (values : List ℤ) (a b c : Bool × ℕ) → IsTrue (any_part values (a ∷ b ∷ c ∷ [])) ↔ (IsTrue (part_holds values a) ⊎ (IsTrue (part_holds values b) ⊎ IsTrue (part_holds values c)))
unfolding any_part
three_parts values a b c =
    let either = or_either (part_holds values a) (any_part values (b ∷ c ∷ [])) in (
      λ h. elim (either.0 h) as (λ _. IsTrue (part_holds values a) ⊎ (IsTrue (part_holds values b) ⊎ IsTrue (part_holds values c))) [ inl here ↦ inl here | inr later ↦ inr ((two_parts values b c).0 later) ],
      λ h. either.1 (elim h as (λ _. IsTrue (part_holds values a) ⊎ IsTrue (any_part values (b ∷ c ∷ []))) [ inl here ↦ inl here | inr later ↦ inr ((two_parts values b c).1 later) ]),
    )

any_append : {X : Type 0} (p : X → Bool) (xs ys : List X) → list_any p (xs ++ ys) ≡ (list_any p xs || list_any p ys)
any_append p [] ys = refl
any_append p (x ∷ xs) ys = ap (λ b. p x || b) (any_append p xs ys) ∙ grouped (p x) (list_any p xs) (list_any p ys)
  where
    grouped : (a b c : Bool) → (a || (b || c)) ≡ ((a || b) || c)
    grouped true b c = refl
    grouped false b c = refl

-- the contrary of a part is so where the part isn't
pub other_holds : (values : List ℤ) (p : Bool × ℕ) → part_holds values (other_part p) ≡ not (part_holds values p)
unfolding part_holds
other_holds values p = same_not (is_one (number_at values p.1)) p.0

pushed_parts : (values : List ℤ) (parts : List (Bool × ℕ)) (said : Bool × ℕ) → any_part values (parts ++ other_part said ∷ []) ≡ (any_part values parts || not (part_holds values said))
unfolding any_part
pushed_parts values parts said = any_append (part_holds values) parts (other_part said ∷ []) ∙ ap (λ b. list_any (part_holds values) parts || b) (or-false (part_holds values (other_part said)) ∙ other_holds values said)

none_found : (values : List ℤ) (parts : List (Bool × ℕ)) (p : Bool × ℕ) → any_part values parts ≡ false → Contains parts p → part_holds values p ≡ false
unfolding any_part
none_found values parts p none found = passes_none (part_holds values) parts p none found

none_so : (values : List ℤ) (said : Bool × ℕ) (parts : List (Bool × ℕ)) → part_holds values said ≡ false → All (λ p. IsTrue (part_holds values said) ⊎ IsTrue (part_holds values (other_part p))) parts → any_part values parts ≡ false
unfolding any_part
none_so values said [] e each = refl
none_so values said (p ∷ parts) e each =
    let Each : (Bool × ℕ) → Type 0 = λ q. IsTrue (part_holds values said) ⊎ IsTrue (part_holds values (other_part q)) in
    let here : part_holds values p ≡ false = elim (All-head Each p parts each) as (λ _. part_holds values p ≡ false) [ inl so ↦ bad (sym so ∙ e) | inr other ↦ turned (part_holds values p) (sym (other_holds values p) ∙ other) ] in
    ap (λ b. b || list_any (part_holds values) parts) here ∙ none_so values said parts e (All-tail Each p parts each)
  where
    turned : (b : Bool) → not b ≡ true → b ≡ false
    turned true h = bad (sym h)
    turned false h = refl

-- "said, or not this part" for each part, and "one of the parts, or not said", are together "said exactly where one of the parts is so"
pub equal_parts : (values : List ℤ) (said : Bool × ℕ) (parts : List (Bool × ℕ))
    → (All (λ p. IsTrue (part_holds values said) ⊎ IsTrue (part_holds values (other_part p))) parts × IsTrue (any_part values (parts ++ other_part said ∷ []))) ↔ (part_holds values said ≡ any_part values parts)
equal_parts values said parts = (
  λ h. forth (part_holds values said) refl (any_part values parts) refl h.0 ((last values parts said).0 h.1),
  λ e. (
    λ k d low. back (part_holds values said) refl (list_at k d low) e,
    (last values parts said).1 (whole (part_holds values said) refl e),
  ),
)
  where
    Each : (Bool × ℕ) → Type 0
    Each p = IsTrue (part_holds values said) ⊎ IsTrue (part_holds values (other_part p))

    last : (values : List ℤ) (parts : List (Bool × ℕ)) (said : Bool × ℕ) → IsTrue (any_part values (parts ++ other_part said ∷ [])) ↔ IsTrue (any_part values parts || not (part_holds values said))
    last values parts said = is_same (any_part values (parts ++ other_part said ∷ [])) (any_part values parts || not (part_holds values said)) (pushed_parts values parts said)

    forth : (s : Bool) → part_holds values said ≡ s → (a : Bool) → any_part values parts ≡ a → All Each parts → IsTrue (any_part values parts || not (part_holds values said)) → part_holds values said ≡ any_part values parts
    forth true e true g each one = e ∙ sym g
    forth false e false g each one = e ∙ sym g
    forth true e false g each one = bad (sym (sym (ap (λ b. b || not (part_holds values said)) g ∙ ap not e) ∙ one))
    forth false e true g each one = bad (sym g ∙ none_so values said parts e each)

    list_at : (k : ℕ) (d : Bool × ℕ) → k < length parts → Contains parts (slice_index_or parts k d)
    list_at k d low = Contains-get_or parts k d low

    back : (s : Bool) → part_holds values said ≡ s → {p : Bool × ℕ} → Contains parts p → part_holds values said ≡ any_part values parts → Each p
    back true e found is = inl e
    back false e {p} found is = inr (other_holds values p ∙ ap not (none_found values parts p (sym is ∙ e) found))

    whole : (s : Bool) → part_holds values said ≡ s → part_holds values said ≡ any_part values parts → IsTrue (any_part values parts || not (part_holds values said))
    whole true e is = ap (λ b. b || not (part_holds values said)) (sym is ∙ e)
    whole false e is = ap (λ b. b || not (part_holds values said)) (sym is ∙ e) ∙ ap not e

-- a variable that is 0 or 1, and 1 exactly where something holds
pub truth_told : (n : ℤ) (h : Bool) → (((n ≡ pos 0) ⊎ (n ≡ pos 1)) × (is_one n ≡ h)) ↔ IsTrue (int_eq n (of_bool h))
unfolding is_one of_bool
truth_told n h = (
  λ both. forth h both.0 both.1,
  λ on. back h ((Decides-int_eq n (of_bool h)).0 on),
)
  where
    forth : (h : Bool) → (n ≡ pos 0) ⊎ (n ≡ pos 1) → int_eq n (pos 1) ≡ h → IsTrue (int_eq n (of_bool h))
    forth true either one = one
    forth false either other = elim either as (λ _. IsTrue (int_eq n (pos 0))) [
      | inl zero_is ↦ (Decides-int_eq n (pos 0)).1 zero_is
      | inr one_is ↦ bad (sym ((Decides-int_eq n (pos 1)).1 one_is) ∙ other)
    ]

    back : (h : Bool) → n ≡ of_bool h → ((n ≡ pos 0) ⊎ (n ≡ pos 1)) × (int_eq n (pos 1) ≡ h)
    back true is = (inr is, (Decides-int_eq n (pos 1)).1 is)
    back false is = (inl is, ap (λ m. int_eq m (pos 1)) is)

-- the two atoms of a truth value
pub truth_atoms : (values : List ℤ) (t : ℕ) → IsTrue (clause_holds values (record { var = t; test = Test.Is; value = pos 0 } ∷ record { var = t; test = Test.Is; value = pos 1 } ∷ [])) ↔ IsTruth values t
unfolding clause_holds atom_holds test_holds
truth_atoms values t =
    let n : ℤ = number_at values t in
    let either = or_either (int_eq n (pos 0)) (int_eq n (pos 1) || false) in (
      λ h. elim (either.0 h) as (λ _. IsTruth values t) [
        | inl zero_is ↦ inl ((Decides-int_eq n (pos 0)).0 zero_is)
        | inr one_is ↦ inr ((Decides-int_eq n (pos 1)).0 (sym (or-false (int_eq n (pos 1))) ∙ one_is))
      ],
      λ is. either.1 (elim is as (λ _. IsTrue (int_eq n (pos 0)) ⊎ IsTrue (int_eq n (pos 1) || false)) [
        | inl zero_is ↦ inl ((Decides-int_eq n (pos 0)).1 zero_is)
        | inr one_is ↦ inr (or-false (int_eq n (pos 1)) ∙ (Decides-int_eq n (pos 1)).1 one_is)
      ]),
    )

pub two_atoms : (a b c d : Atom) → a ≡ c → b ≡ d → a ∷ b ∷ [] ≡ c ∷ d ∷ []
two_atoms a b c d e h = ap (λ x. x ∷ b ∷ []) e ∙ ap (λ x. c ∷ x ∷ []) h

pub adds_truth : (L : List VariableLiterals) (f g : Cnf) (atoms : List Atom) (t : ℕ) → IsLayoutOf L f → atoms ≡ record { var = t; test = Test.Is; value = pos 0 } ∷ record { var = t; test = Test.Is; value = pos 1 } ∷ []
    → Adds L f L g (λ values. IsTrue (clause_holds values atoms)) → Adds L f L g (λ values. IsTruth values t)
adds_truth L f g atoms t is_layout is adds =
    let two : List Atom = record { var = t; test = Test.Is; value = pos 0 } ∷ record { var = t; test = Test.Is; value = pos 1 } ∷ [] in
    adds_as L f g (λ values. IsTrue (clause_holds values two)) (λ values. IsTruth values t) is_layout (λ values. truth_atoms values t)
    (subst (λ xs. Adds L f L g (λ values. IsTrue (clause_holds values xs))) is adds)

pub adds_one : (L : List VariableLiterals) (f g : Cnf) (a : Bool × ℕ) (parts : List (Bool × ℕ)) → IsLayoutOf L f → parts ≡ a ∷ [] → Adds L f L g (λ values. IsTrue (any_part values parts)) → Adds L f L g (λ values. IsTrue (part_holds values a))
adds_one L f g a parts is_layout is adds =
    adds_as L f g (λ values. IsTrue (any_part values (a ∷ []))) (λ values. IsTrue (part_holds values a)) is_layout (λ values. one_part values a)
    (subst (λ xs. Adds L f L g (λ values. IsTrue (any_part values xs))) is adds)

pub adds_pair : (L : List VariableLiterals) (f g : Cnf) (a b : Bool × ℕ) (parts : List (Bool × ℕ)) → IsLayoutOf L f → parts ≡ a ∷ b ∷ [] → Adds L f L g (λ values. IsTrue (any_part values parts))
    → Adds L f L g (λ values. IsTrue (part_holds values a) ⊎ IsTrue (part_holds values b))
adds_pair L f g a b parts is_layout is adds =
    adds_as L f g (λ values. IsTrue (any_part values (a ∷ b ∷ []))) (λ values. IsTrue (part_holds values a) ⊎ IsTrue (part_holds values b)) is_layout (λ values. two_parts values a b)
    (subst (λ xs. Adds L f L g (λ values. IsTrue (any_part values xs))) is adds)

pub adds_triple : (L : List VariableLiterals) (f g : Cnf) (a b c : Bool × ℕ) (parts : List (Bool × ℕ)) → IsLayoutOf L f → parts ≡ a ∷ b ∷ c ∷ [] → Adds L f L g (λ values. IsTrue (any_part values parts))
    → Adds L f L g (λ values. IsTrue (part_holds values a) ⊎ (IsTrue (part_holds values b) ⊎ IsTrue (part_holds values c)))
adds_triple L f g a b c parts is_layout is adds =
    adds_as L f g (λ values. IsTrue (any_part values (a ∷ b ∷ c ∷ []))) (λ values. IsTrue (part_holds values a) ⊎ (IsTrue (part_holds values b) ⊎ IsTrue (part_holds values c))) is_layout (λ values. three_parts values a b c)
    (subst (λ xs. Adds L f L g (λ values. IsTrue (any_part values xs))) is adds)

pub adds_equal : (L : List VariableLiterals) (f f1 g : Cnf) (said : Bool × ℕ) (parts more : List (Bool × ℕ)) → IsLayoutOf L f → more ≡ parts ++ other_part said ∷ []
    → Adds L f L f1 (λ values. All (λ p. IsTrue (part_holds values said) ⊎ IsTrue (part_holds values (other_part p))) parts) → Adds L f1 L g (λ values. IsTrue (any_part values more))
    → Adds L f L g (λ values. part_holds values said ≡ any_part values parts)
adds_equal L f f1 g said parts more is_layout is one two =
    let First : List ℤ → Type 0 = λ values. All (λ p. IsTrue (part_holds values said) ⊎ IsTrue (part_holds values (other_part p))) parts in
    let Second : List ℤ → Type 0 = λ values. IsTrue (any_part values (parts ++ other_part said ∷ [])) in
    adds_as L f g (λ values. First values × Second values) (λ values. part_holds values said ≡ any_part values parts) is_layout (λ values. equal_parts values said parts)
    (adds_both L f f1 L g First Second is_layout one (subst (λ xs. Adds L f1 L g (λ values. IsTrue (any_part values xs))) is two))

-- names of a list with the variable that tells, and of the list alone
pub names_rest : (P : ℕ → Type 0) (truth : Option ℕ) (xs : List ℕ) → All P (option_to_list truth ++ xs) → All P xs
names_rest P None xs all = all
names_rest P (Some t) xs all = All-tail P t xs all

pub name_told : (P : ℕ → Type 0) (truth : Option ℕ) (t : ℕ) (xs : List ℕ) → truth ≡ Some t → All P (option_to_list truth ++ xs) → P t
name_told P truth t xs is all = All-head P t xs (subst (λ o. All P (option_to_list o ++ xs)) is all)

pub names_of_parts : (P : ℕ → Type 0) (parts : List (Bool × ℕ)) → All P (map (λ p. p.1) parts) → All (λ p. P p.1) parts
names_of_parts P [] all = λ k d low. absurd (omega (arith, low))
names_of_parts P (p ∷ parts) all = All-cons (λ q. P q.1) p parts (All-head P p.1 (map (λ q. q.1) parts) all) (names_of_parts P parts (All-tail P p.1 (map (λ q. q.1) parts) all))

pub names_of_atoms : (P : ℕ → Type 0) (parts : List (Bool × ℕ)) (atoms : List Atom) → atoms ≡ map part_atom parts → All (λ p. P p.1) parts → All (λ atom. P atom.var) atoms
names_of_atoms P parts atoms is all = subst (All (λ (atom : Atom). P atom.var)) (sym is) (All-map (λ (atom : Atom). P atom.var) part_atom parts all)

pub names_of_untrue : (P : ℕ → Type 0) (xs : List ℕ) (parts : List (Bool × ℕ)) → parts ≡ map (λ x. (false, x)) xs → All P xs → All (λ p. P p.1) parts
names_of_untrue P xs parts is all = subst (All (λ (p : Bool × ℕ). P p.1)) (sym is) (All-map (λ (p : Bool × ℕ). P p.1) (λ x. (false, x)) xs all)

part_one : (values : List ℤ) (x : ℕ) → part_holds values (true, x) ≡ is_one (number_at values x)
unfolding part_holds
part_one values x = same_true (is_one (number_at values x))

part_not : (values : List ℤ) (x : ℕ) → part_holds values (false, x) ≡ not (is_one (number_at values x))
unfolding part_holds
part_not values x = same_false (is_one (number_at values x))

-- what a constraint says with its variable
as_told : (values : List ℤ) (truth : Option ℕ) (t : ℕ) (h : Bool) → truth ≡ Some t → (IsTruth values t × (is_one (number_at values t) ≡ h)) ↔ IsTrue (is_as_said values truth h)
unfolding is_as_said
as_told values truth t h is =
    let told = truth_told (number_at values t) h in
    (λ both. subst (λ o. IsTrue (is_as_said values o h)) (sym is) (told.0 both), λ on. told.1 (subst (λ o. IsTrue (is_as_said values o h)) is on))

as_untold : (values : List ℤ) (truth : Option ℕ) (h : Bool) → truth ≡ None → IsTrue h ↔ IsTrue (is_as_said values truth h)
unfolding is_as_said
as_untold values truth h is = (λ on. subst (λ o. IsTrue (is_as_said values o h)) (sym is) on, λ on. subst (λ o. IsTrue (is_as_said values o h)) is on)

clause_is : (values : List ℤ) (parts : List (Bool × ℕ)) → any_part values parts ≡ kind_holds values (clause parts)
unfolding any_part part_holds kind_holds
clause_is values parts = refl

-- a clause
pub clause_untold : (L : List VariableLiterals) (f g : Cnf) (truth : Option ℕ) (parts : List (Bool × ℕ)) → IsLayoutOf L f → truth ≡ None → Adds L f L g (λ values. IsTrue (any_part values parts))
    → Adds L f L g (λ values. IsTrue (is_as_said values truth (kind_holds values (clause parts))))
clause_untold L f g truth parts is_layout is adds =
    adds_as L f g (λ values. IsTrue (any_part values parts)) (λ values. IsTrue (is_as_said values truth (kind_holds values (clause parts)))) is_layout
    (λ values. subst (λ b. IsTrue (any_part values parts) ↔ IsTrue (is_as_said values truth b)) (clause_is values parts) (as_untold values truth (any_part values parts) is)) adds

pub clause_told : (L : List VariableLiterals) (f f1 g : Cnf) (truth : Option ℕ) (t : ℕ) (parts : List (Bool × ℕ)) → IsLayoutOf L f → truth ≡ Some t → Adds L f L f1 (λ values. IsTruth values t)
    → Adds L f1 L g (λ values. part_holds values (true, t) ≡ any_part values parts) → Adds L f L g (λ values. IsTrue (is_as_said values truth (kind_holds values (clause parts))))
clause_told L f f1 g truth t parts is_layout is one two =
    let First : List ℤ → Type 0 = λ values. IsTruth values t in
    let Second : List ℤ → Type 0 = λ values. part_holds values (true, t) ≡ any_part values parts in
    adds_as L f g (λ values. First values × Second values) (λ values. IsTrue (is_as_said values truth (kind_holds values (clause parts)))) is_layout
    (λ values.
    let told = as_told values truth t (kind_holds values (clause parts)) is in (
      λ both. told.0 (both.0, sym (part_one values t) ∙ both.1 ∙ clause_is values parts),
      λ on. let both = told.1 on in (both.0, part_one values t ∙ both.1 ∙ sym (clause_is values parts)),
    ))
    (adds_both L f f1 L g First Second is_layout one two)

-- all of some variables
each_is : (values : List ℤ) (xs : List ℕ) → All (λ x. IsTrue (part_holds values (true, x))) xs ↔ IsTrue (list_all (λ x. is_one (number_at values x)) xs)
each_is values [] = (λ all. refl, λ on k d low. absurd (omega (arith, low)))
each_is values (x ∷ xs) =
    let One : ℕ → Type 0 = λ y. IsTrue (part_holds values (true, y)) in (
      λ all. joined (is_one (number_at values x)) (list_all (λ y. is_one (number_at values y)) xs) (sym (part_one values x) ∙ All-head One x xs all) ((each_is values xs).0 (All-tail One x xs all)),
      λ on. let parts = and_parts (is_one (number_at values x)) (list_all (λ y. is_one (number_at values y)) xs) on in
          All-cons One x xs (part_one values x ∙ parts.0) ((each_is values xs).1 parts.1),
    )
  where
    joined : (a b : Bool) → a ≡ true → b ≡ true → (a && b) ≡ true
    joined true b e g = g
    joined false b e g = bad (sym e)

untrue_is : (values : List ℤ) (xs : List ℕ) → any_part values (map (λ x. (false, x)) xs) ≡ not (list_all (λ x. is_one (number_at values x)) xs)
unfolding any_part
untrue_is values [] = refl
untrue_is values (x ∷ xs) =
    ap (λ b. b || list_any (part_holds values) (map (λ y. (false, y)) xs)) (part_not values x) ∙ ap (λ b. not (is_one (number_at values x)) || b) (untrue_is values xs)
    ∙ turned (is_one (number_at values x)) (list_all (λ y. is_one (number_at values y)) xs)
  where
    turned : (a b : Bool) → (not a || not b) ≡ not (a && b)
    turned true b = refl
    turned false b = refl

all_is : (values : List ℤ) (xs : List ℕ) → list_all (λ x. is_one (number_at values x)) xs ≡ kind_holds values (all_of xs)
unfolding kind_holds
all_is values xs = refl

pub all_untold : (L : List VariableLiterals) (f g : Cnf) (truth : Option ℕ) (xs : List ℕ) → IsLayoutOf L f → truth ≡ None → Adds L f L g (λ values. All (λ x. IsTrue (part_holds values (true, x))) xs)
    → Adds L f L g (λ values. IsTrue (is_as_said values truth (kind_holds values (all_of xs))))
all_untold L f g truth xs is_layout is adds =
    adds_as L f g (λ values. All (λ x. IsTrue (part_holds values (true, x))) xs) (λ values. IsTrue (is_as_said values truth (kind_holds values (all_of xs)))) is_layout
    (λ values.
    let untold = as_untold values truth (kind_holds values (all_of xs)) is in
    (λ all. untold.0 (sym (all_is values xs) ∙ (each_is values xs).0 all), λ on. (each_is values xs).1 (all_is values xs ∙ untold.1 on))) adds

pub all_told : (L : List VariableLiterals) (f f1 g : Cnf) (truth : Option ℕ) (t : ℕ) (xs : List ℕ) (parts : List (Bool × ℕ)) → IsLayoutOf L f → truth ≡ Some t → parts ≡ map (λ x. (false, x)) xs → Adds L f L f1 (λ values. IsTruth values t)
    → Adds L f1 L g (λ values. part_holds values (false, t) ≡ any_part values parts) → Adds L f L g (λ values. IsTrue (is_as_said values truth (kind_holds values (all_of xs))))
all_told L f f1 g truth t xs parts is_layout is untrue one two =
    let First : List ℤ → Type 0 = λ values. IsTruth values t in
    let Second : List ℤ → Type 0 = λ values. part_holds values (false, t) ≡ any_part values parts in
    adds_as L f g (λ values. First values × Second values) (λ values. IsTrue (is_as_said values truth (kind_holds values (all_of xs)))) is_layout
    (λ values.
    let told = as_told values truth t (kind_holds values (all_of xs)) is in
    let others : any_part values parts ≡ not (kind_holds values (all_of xs)) = ap (any_part values) untrue ∙ untrue_is values xs ∙ ap not (all_is values xs) in (
      λ both. told.0 (both.0, not_same (is_one (number_at values t)) (kind_holds values (all_of xs)) (sym (part_not values t) ∙ both.1 ∙ others)),
      λ on. let both = told.1 on in (both.0, part_not values t ∙ ap not both.1 ∙ sym others),
    ))
    (adds_both L f f1 L g First Second is_layout one two)
  where
    twice : (a : Bool) → not (not a) ≡ a
    twice true = refl
    twice false = refl

    not_same : (a b : Bool) → not a ≡ not b → a ≡ b
    not_same a b h = sym (twice a) ∙ ap not h ∙ twice b

-- both or neither of two variables
same_is : (values : List ℤ) (x y : ℕ) → same_bool (is_one (number_at values x)) (is_one (number_at values y)) ≡ kind_holds values (same_truth x y)
unfolding kind_holds
same_is values x y = refl

by_two : (a b : Bool) → ((IsTrue (not a) ⊎ IsTrue b) × (IsTrue a ⊎ IsTrue (not b))) ↔ IsTrue (same_bool a b)
unfolding same_bool
by_two true true = (λ h. refl, λ on. (inr refl, inl refl))
by_two true false = (λ h. elim h.0 as (λ _. IsTrue false) [ inl never ↦ never | inr never ↦ never ], λ on. bad (sym on))
by_two false true = (λ h. elim h.1 as (λ _. IsTrue false) [ inl never ↦ never | inr never ↦ never ], λ on. bad (sym on))
by_two false false = (λ h. refl, λ on. (inl refl, inr refl))

pub same_untold : (L : List VariableLiterals) (f f1 g : Cnf) (truth : Option ℕ) (x y : ℕ) → IsLayoutOf L f → truth ≡ None → Adds L f L f1 (λ values. IsTrue (part_holds values (false, x)) ⊎ IsTrue (part_holds values (true, y)))
    → Adds L f1 L g (λ values. IsTrue (part_holds values (true, x)) ⊎ IsTrue (part_holds values (false, y))) → Adds L f L g (λ values. IsTrue (is_as_said values truth (kind_holds values (same_truth x y))))
same_untold L f f1 g truth x y is_layout is one two =
    let First : List ℤ → Type 0 = λ values. IsTrue (part_holds values (false, x)) ⊎ IsTrue (part_holds values (true, y)) in
    let Second : List ℤ → Type 0 = λ values. IsTrue (part_holds values (true, x)) ⊎ IsTrue (part_holds values (false, y)) in
    adds_as L f g (λ values. First values × Second values) (λ values. IsTrue (is_as_said values truth (kind_holds values (same_truth x y)))) is_layout
    (λ values.
    let a : Bool = is_one (number_at values x) in
    let b : Bool = is_one (number_at values y) in
    let untold = as_untold values truth (kind_holds values (same_truth x y)) is in
    let two_say = by_two a b in
    let like : (First values × Second values) ↔ ((IsTrue (not a) ⊎ IsTrue b) × (IsTrue a ⊎ IsTrue (not b))) =
    alike (part_holds values (false, x)) (part_holds values (true, x)) (part_holds values (false, y)) (part_holds values (true, y)) a b (part_not values x) (part_one values x) (part_not values y) (part_one values y) in
    (λ both. untold.0 (sym (same_is values x y) ∙ two_say.0 (like.0 both)), λ on. like.1 (two_say.1 (same_is values x y ∙ untold.1 on))))
    (adds_both L f f1 L g First Second is_layout one two)
  where
    alike : (p q r s a b : Bool) → p ≡ not a → q ≡ a → r ≡ not b → s ≡ b → ((IsTrue p ⊎ IsTrue s) × (IsTrue q ⊎ IsTrue r)) ↔ ((IsTrue (not a) ⊎ IsTrue b) × (IsTrue a ⊎ IsTrue (not b)))
    alike p q r s a b hp hq hr hs =
        let To : Bool → Bool → Bool → Bool → Type 0 = λ p q r s. (IsTrue p ⊎ IsTrue s) × (IsTrue q ⊎ IsTrue r) in (
          λ h. subst (λ z. To (not a) a (not b) z) hs (subst (λ z. To (not a) a z s) hr (subst (λ z. To (not a) z r s) hq (subst (λ z. To z q r s) hp h))),
          λ h. subst (λ z. To z q r s) (sym hp) (subst (λ z. To (not a) z r s) (sym hq) (subst (λ z. To (not a) a z s) (sym hr) (subst (λ z. To (not a) a (not b) z) (sym hs) h))),
        )

three_false : {X : Type 0} → IsTrue false ⊎ (IsTrue false ⊎ IsTrue false) → X
three_false {X} h = elim h as (λ _. X) [ inl never ↦ bad (sym never) | inr later ↦ elim later as (λ _. X) [ inl never ↦ bad (sym never) | inr never ↦ bad (sym never) ] ]

by_four : (t a b : Bool) → ((IsTrue (not t) ⊎ (IsTrue (not a) ⊎ IsTrue b)) × (IsTrue (not t) ⊎ (IsTrue a ⊎ IsTrue (not b))) × (IsTrue t ⊎ (IsTrue a ⊎ IsTrue b)) × (IsTrue t ⊎ (IsTrue (not a) ⊎ IsTrue (not b)))) ↔ (t ≡ same_bool a b)
unfolding same_bool
by_four true true true = (λ h. refl, λ e. (inr (inr refl), inr (inl refl), inl refl, inl refl))
by_four true true false = (λ h. absurd (three_false h.0), λ e. bad e)
by_four true false true = (λ h. absurd (three_false h.1), λ e. bad e)
by_four true false false = (λ h. refl, λ e. (inr (inl refl), inr (inr refl), inl refl, inl refl))
by_four false true true = (λ h. absurd (three_false h.3), λ e. bad (sym e))
by_four false true false = (λ h. refl, λ e. (inl refl, inl refl, inr (inl refl), inr (inr refl)))
by_four false false true = (λ h. refl, λ e. (inl refl, inl refl, inr (inr refl), inr (inl refl)))
by_four false false false = (λ h. absurd (three_false h.2), λ e. bad (sym e))

abbrev Says : List ℤ → Bool → ℕ → Type 0
Says values b z = IsTrue (part_holds values (b, z))

same_meant : (values : List ℤ) (t x y : ℕ)
    → ((((Says values false t ⊎ (Says values false x ⊎ Says values true y)) × (Says values false t ⊎ (Says values true x ⊎ Says values false y))) × (Says values true t ⊎ (Says values true x ⊎ Says values true y)))
    × (Says values true t ⊎ (Says values false x ⊎ Says values false y)))
    ↔ (is_one (number_at values t) ≡ kind_holds values (same_truth x y))
same_meant values t x y =
    let n : ℕ → Bool = λ z. is_one (number_at values z) in
    let four = by_four (n t) (n x) (n y) in (
      λ h. four.0 (moved (part_holds values (false, t)) (not (n t)) (part_holds values (true, t)) (n t) (part_holds values (false, x)) (not (n x)) (part_holds values (true, x)) (n x) (part_holds values (false, y)) (not (n y)) (part_holds values (true, y)) (n y)
          (part_not values t) (part_one values t) (part_not values x) (part_one values x) (part_not values y) (part_one values y) (h.0.0.0, h.0.0.1, h.0.1, h.1)) ∙ same_is values x y,
      λ e.
          let h = moved (not (n t)) (part_holds values (false, t)) (n t) (part_holds values (true, t)) (not (n x)) (part_holds values (false, x)) (n x) (part_holds values (true, x)) (not (n y)) (part_holds values (false, y)) (n y) (part_holds values (true, y))
          (sym (part_not values t)) (sym (part_one values t)) (sym (part_not values x)) (sym (part_one values x)) (sym (part_not values y)) (sym (part_one values y)) (four.1 (e ∙ sym (same_is values x y))) in
          (((h.0, h.1), h.2), h.3),
    )
  where
    Four : (nt pt na pa nb pb : Bool) → Type 0
    Four nt pt na pa nb pb = (IsTrue nt ⊎ (IsTrue na ⊎ IsTrue pb)) × (IsTrue nt ⊎ (IsTrue pa ⊎ IsTrue nb)) × (IsTrue pt ⊎ (IsTrue pa ⊎ IsTrue pb)) × (IsTrue pt ⊎ (IsTrue na ⊎ IsTrue nb))

    moved : (nt nt' pt pt' na na' pa pa' nb nb' pb pb' : Bool) → nt ≡ nt' → pt ≡ pt' → na ≡ na' → pa ≡ pa' → nb ≡ nb' → pb ≡ pb' → Four nt pt na pa nb pb → Four nt' pt' na' pa' nb' pb'
    moved nt nt' pt pt' na na' pa pa' nb nb' pb pb' h1 h2 h3 h4 h5 h6 h =
        subst (Four nt' pt' na' pa' nb') h6 (subst (λ z. Four nt' pt' na' pa' z pb) h5 (subst (λ z. Four nt' pt' na' z nb pb) h4 (subst (λ z. Four nt' pt' z pa nb pb) h3 (subst (λ z. Four nt' z na pa nb pb) h2 (subst (λ z. Four z pt na pa nb pb) h1 h)))))

pub adds_same : (L : List VariableLiterals) (f f1 f2 f3 g : Cnf) (t x y : ℕ) → IsLayoutOf L f
    → Adds L f L f1 (λ values. IsTrue (part_holds values (false, t)) ⊎ (IsTrue (part_holds values (false, x)) ⊎ IsTrue (part_holds values (true, y))))
    → Adds L f1 L f2 (λ values. IsTrue (part_holds values (false, t)) ⊎ (IsTrue (part_holds values (true, x)) ⊎ IsTrue (part_holds values (false, y))))
    → Adds L f2 L f3 (λ values. IsTrue (part_holds values (true, t)) ⊎ (IsTrue (part_holds values (true, x)) ⊎ IsTrue (part_holds values (true, y))))
    → Adds L f3 L g (λ values. IsTrue (part_holds values (true, t)) ⊎ (IsTrue (part_holds values (false, x)) ⊎ IsTrue (part_holds values (false, y))))
    → Adds L f L g (λ values. is_one (number_at values t) ≡ kind_holds values (same_truth x y))
adds_same L f f1 f2 f3 g t x y is_layout one two three four =
    let A : List ℤ → Type 0 = λ values. Says values false t ⊎ (Says values false x ⊎ Says values true y) in
    let B : List ℤ → Type 0 = λ values. Says values false t ⊎ (Says values true x ⊎ Says values false y) in
    let C : List ℤ → Type 0 = λ values. Says values true t ⊎ (Says values true x ⊎ Says values true y) in
    let D : List ℤ → Type 0 = λ values. Says values true t ⊎ (Says values false x ⊎ Says values false y) in
    let ab = adds_both L f f1 L f2 A B is_layout one two in
    let abc = adds_both L f f2 L f3 (λ values. A values × B values) C is_layout ab three in
    let abcd = adds_both L f f3 L g (λ values. (A values × B values) × C values) D is_layout abc four in
    adds_as L f g (λ values. ((A values × B values) × C values) × D values) (λ values. is_one (number_at values t) ≡ kind_holds values (same_truth x y)) is_layout (λ values. same_meant values t x y) abcd

pub same_told : (L : List VariableLiterals) (f f1 g : Cnf) (truth : Option ℕ) (t x y : ℕ) → IsLayoutOf L f → truth ≡ Some t → Adds L f L f1 (λ values. IsTruth values t)
    → Adds L f1 L g (λ values. is_one (number_at values t) ≡ kind_holds values (same_truth x y)) → Adds L f L g (λ values. IsTrue (is_as_said values truth (kind_holds values (same_truth x y))))
same_told L f f1 g truth t x y is_layout is one two =
    let First : List ℤ → Type 0 = λ values. IsTruth values t in
    let Second : List ℤ → Type 0 = λ values. is_one (number_at values t) ≡ kind_holds values (same_truth x y) in
    adds_as L f g (λ values. First values × Second values) (λ values. IsTrue (is_as_said values truth (kind_holds values (same_truth x y)))) is_layout
    (λ values. as_told values truth t (kind_holds values (same_truth x y)) is) (adds_both L f f1 L g First Second is_layout one two)
