-- The constraints of this crate, and what adding one says.
use Rattle.std.proofs.Common.{◌≡◌, ◌↔◌, ℕ, ◌<◌, ℤ, IsTrue, List, [], ◌∷◌, map, refl, sym, subst}
use Rattle.std.specs.List.{All}
use Rattle.std.specs.Prelude.{Err, MatchOption, None, Ok, OnOk, Option, Result, Some}
use Rattle.std.proofs.lemmas.List.Elements.{All-cons, All-head, All-nil, All-tail}
use Rattle.cnf_core.specs.Formula.{Cnf, Keeps}
use Rattle.ep_base.specs.Numbers.{compare_holds, has_number}
use Rattle.ep_base.specs.Reads.{weighted_sum}
use Rattle.ep_base.specs.declared.operators.CompareOp.{CompareOp}
use Rattle.ep_flat.specs.Cons.{FlatCon, FlatKind, con_holds, con_variables, is_as_said, kind_holds, kind_variables, linear, member, number_at}
use Rattle.ep_flat.specs.Flats.{NamesBelow}
use Rattle.enc_atoms.proofs.Adding.{adds_like}
use Rattle.enc_atoms.specs.Atoms.{Adds}
use Rattle.enc_var.specs.Decoding.{VariableLiterals}
use Rattle.enc_var.specs.Layouts.{GoesOn, HoldsUnder, IsLayoutOf}

-- what was added is what the constraint says
pub goes_on : {T E : Type 0} (r : Result T E) (L : List VariableLiterals) (f : Cnf) (L1 : List VariableLiterals) (g : Cnf) (R : List ℤ → Type 0) → OnOk r (Adds L f L1 g R) → OnOk r (GoesOn L f L1 g)
goes_on (Ok x) L f L1 g R added = added.goes_on
goes_on (Err e) L f L1 g R added = tt

pub keeps : {T E : Type 0} (r : Result T E) (L : List VariableLiterals) (f : Cnf) (L1 : List VariableLiterals) (g : Cnf) (R : List ℤ → Type 0) (con : FlatCon) → IsLayoutOf L f
    → ((values : List ℤ) → R values ↔ IsTrue (con_holds values con)) → OnOk r (Adds L f L1 g R) → OnOk r (Keeps f g (HoldsUnder L con))
keeps (Ok x) L f L1 g R con is_layout same added = (adds_like L f L1 g R (λ values. IsTrue (con_holds values con)) is_layout added (λ values among. same values)).keeps
keeps (Err e) L f L1 g R con is_layout same added = tt

-- the variable of a truth is of the layout, and so are those of the kind
pub truth_named : (n : ℕ) (truth : Option ℕ) (kind : FlatKind) → NamesBelow n (record { truth = truth; kind = kind }) → MatchOption truth (n ≡ n) (λ t. t < n)
unfolding con_variables
truth_named n None kind names = refl
truth_named n (Some t) kind names = All-head (λ x. x < n) t (kind_variables kind) names

pub kind_named : (n : ℕ) (truth : Option ℕ) (kind : FlatKind) → NamesBelow n (record { truth = truth; kind = kind }) → All (λ x. x < n) (kind_variables kind)
unfolding con_variables
kind_named n None kind names = names
kind_named n (Some t) kind names = All-tail (λ x. x < n) t (kind_variables kind) names

pub member_named : (n : ℕ) (truth : Option ℕ) (kind : FlatKind) (x : ℕ) (ns : List ℤ) → kind ≡ member x ns → NamesBelow n (record { truth = truth; kind = kind }) → x < n
unfolding kind_variables
member_named n truth kind x ns is names = All-head (λ y. y < n) x [] (subst (λ (k : FlatKind). All (λ y. y < n) (kind_variables k)) is (kind_named n truth kind names))

pub member_said : (truth : Option ℕ) (kind : FlatKind) (x : ℕ) (ns : List ℤ) (values : List ℤ) → kind ≡ member x ns
    → IsTrue (is_as_said values truth (has_number ns (number_at values x))) ↔ IsTrue (con_holds values (record { truth = truth; kind = kind }))
unfolding con_holds kind_holds
member_said truth kind x ns values is =
    subst (λ (k : FlatKind). IsTrue (is_as_said values truth (has_number ns (number_at values x))) ↔ IsTrue (con_holds values (record { truth = truth; kind = k }))) (sym is) (λ h. h, λ h. h)

all_from_map : {A : Type 0} (g : A → ℕ) (P : ℕ → Type 0) (xs : List A) → All P (map g xs) → All (λ x. P (g x)) xs
all_from_map g P [] h = All-nil (λ x. P (g x))
all_from_map g P (x ∷ xs) h = All-cons (λ y. P (g y)) x xs (All-head P (g x) (map g xs) h) (all_from_map g P xs (All-tail P (g x) (map g xs) h))

pub linear_named : (n : ℕ) (truth : Option ℕ) (kind : FlatKind) (parts : List (ℤ × ℕ)) (op : CompareOp) (number : ℤ) → kind ≡ linear parts op number → NamesBelow n (record { truth = truth; kind = kind }) → All (λ part. part.1 < n) parts
unfolding kind_variables
linear_named n truth kind parts op number is names = all_from_map (λ part. part.1) (λ y. y < n) parts (subst (λ (k : FlatKind). All (λ y. y < n) (kind_variables k)) is (kind_named n truth kind names))

pub linear_said : (truth : Option ℕ) (kind : FlatKind) (parts : List (ℤ × ℕ)) (op : CompareOp) (number : ℤ) (values : List ℤ) → kind ≡ linear parts op number
    → IsTrue (is_as_said values truth (compare_holds op (weighted_sum (map (λ part. (part.0, number_at values part.1)) parts)) number)) ↔ IsTrue (con_holds values (record { truth = truth; kind = kind }))
unfolding con_holds kind_holds
linear_said truth kind parts op number values is =
    subst
    (λ (k : FlatKind). IsTrue (is_as_said values truth (compare_holds op (weighted_sum (map (λ part. (part.0, number_at values part.1)) parts)) number)) ↔ IsTrue (con_holds values (record { truth = truth; kind = k })))
    (sym is) (λ h. h, λ h. h)

pub linear_keeps : {T E : Type 0} (r : Result T E) (L : List VariableLiterals) (f : Cnf) (L1 : List VariableLiterals) (g : Cnf) (truth : Option ℕ) (kind : FlatKind) (ps parts : List (ℤ × ℕ)) (op : CompareOp) (m number : ℤ) → IsLayoutOf L f
    → OnOk r (Adds L f L1 g (λ values. IsTrue (is_as_said values truth (compare_holds op (weighted_sum (map (λ part. (part.0, number_at values part.1)) ps)) m)))) → ps ≡ parts → m ≡ number → kind ≡ linear parts op number
    → OnOk r (Keeps f g (HoldsUnder L (record { truth = truth; kind = kind })))
linear_keeps r L f L1 g truth kind ps parts op m number is_layout added same_parts same_number is =
    let here : OnOk r (Adds L f L1 g (λ values. IsTrue (is_as_said values truth (compare_holds op (weighted_sum (map (λ part. (part.0, number_at values part.1)) parts)) number)))) =
    subst (λ (k : ℤ). OnOk r (Adds L f L1 g (λ values. IsTrue (is_as_said values truth (compare_holds op (weighted_sum (map (λ part. (part.0, number_at values part.1)) parts)) k))))) same_number
    (subst (λ (qs : List (ℤ × ℕ)). OnOk r (Adds L f L1 g (λ values. IsTrue (is_as_said values truth (compare_holds op (weighted_sum (map (λ part. (part.0, number_at values part.1)) qs)) m))))) same_parts added) in
    keeps r L f L1 g (λ values. IsTrue (is_as_said values truth (compare_holds op (weighted_sum (map (λ part. (part.0, number_at values part.1)) parts)) number))) (record { truth = truth; kind = kind }) is_layout
    (λ values. linear_said truth kind parts op number values is) here
