-- What is known of a constraint that can be encoded, and what its clauses say of it.
use Rattle.std.proofs.Common.{◌≡◌, ℕ, ◌<◌, ℤ, Bool, IsTrue, List, [], ◌∷◌, ◌++◌, length, refl, sym, ap, subst, ◌∙◌}
use Rattle.std.specs.Prelude.{Option, Some, None, MatchOption, option_to_list}
use Rattle.std.specs.List.{All, Contains}
use Rattle.std.proofs.lemmas.List.Elements.{All-contains, All-head, Contains-append_left, Contains-append_right}
use Rattle.cnf_core.proofs.Members.{All-from_contains, Contains-here, Contains-there}
use Rattle.cnf_core.specs.Formula.{Cnf}
use Rattle.ep_base.specs.Reads.{IsWithinNumbers}
use Rattle.ep_base.specs.declared.keys.Key.{Key}
use Rattle.std.proofs.Common.{Vec}
use Rattle.std.specs.Global.{Global}
use Rattle.ep_flat.specs.FlatViews.{plain_kind}
use Rattle.ep_flat.specs.declared.flats.ConKind.{ConKind}
use Rattle.ep_flat.specs.declared.flats.ConKind.TheVariants as code
use Rattle.ep_flat.specs.Cons.{family_of, of_counts, of_functions, of_rows, of_sums, of_truths, FlatCon, FlatKind, con_holds, con_variables, is_as_said, kind_holds, kind_variables}
use Rattle.enc_atoms.proofs.Adding.{adds_like}
use Rattle.enc_atoms.specs.Atoms.{Adds, clause_holds}
use Rattle.enc_var.specs.Decoding.{VariableLiterals}
use Rattle.enc_var.specs.Layouts.{CanTake, IsLayoutOf, literals_at}
use Rattle.enc_arith.proofs.Cases.{same_test}
use Rattle.enc_arith.specs.Saying.{IsReady, IsTarget, says}

-- a constraint's variables are there
pub record Taken (L : List VariableLiterals) (f : Cnf) (truth : Option ℕ) (kind : FlatKind) : Type 0 where
  pub ready : IsReady L f
  pub target : (r : ℕ) → Contains (kind_variables kind) r → IsTarget L truth r
  pub there : (x : ℕ) → Contains (kind_variables kind) x → x < length L

truth_there : (count : ℕ) (truth : Option ℕ) (xs : List ℕ) → All (λ x. x < count) (option_to_list truth ++ xs) → MatchOption truth (Unit {0}) (λ t. t < count)
truth_there count None xs h = tt
truth_there count (Some t) xs h = All-head (λ x. x < count) t xs h

pub taken : (L : List VariableLiterals) (f : Cnf) (con : FlatCon) → CanTake L f con → Taken L f con.truth con.kind
unfolding con_variables
taken L f con can = record {
  ready = record { from_new = can.from_new; is_layout = can.is_layout };
  target = λ r found.
      let whole = Contains-append_right (option_to_list con.truth) (kind_variables con.kind) r found in record {
        truth_there = truth_there (length L) con.truth (kind_variables con.kind) can.names;
        there = All-contains (λ x. x < length L) (con_variables con) r can.names whole;
        numbers = All-contains (λ x. All IsWithinNumbers (literals_at L x).domain) (con_variables con) r can.numbers whole;
      };
  there = λ x found. All-contains (λ y. y < length L) (con_variables con) x can.names (Contains-append_right (option_to_list con.truth) (kind_variables con.kind) x found);
}

pub two_taken : (L : List VariableLiterals) (f : Cnf) (truth : Option ℕ) (kind : FlatKind) (r x : ℕ) → Taken L f truth kind → kind_variables kind ≡ r ∷ x ∷ [] → IsTarget L truth r × (x < length L)
two_taken L f truth kind r x t is = (
  t.target r (subst (λ xs. Contains xs r) (sym is) (Contains-here r (x ∷ []))),
  t.there x (subst (λ xs. Contains xs x) (sym is) (Contains-there r (x ∷ []) x (Contains-here x []))),
)

pub three_taken : (L : List VariableLiterals) (f : Cnf) (truth : Option ℕ) (kind : FlatKind) (r x y : ℕ) → Taken L f truth kind → kind_variables kind ≡ r ∷ x ∷ y ∷ []
    → IsTarget L truth r × (x < length L) × (y < length L)
three_taken L f truth kind r x y t is = (
  t.target r (subst (λ xs. Contains xs r) (sym is) (Contains-here r (x ∷ y ∷ []))),
  t.there x (subst (λ xs. Contains xs x) (sym is) (Contains-there r (x ∷ y ∷ []) x (Contains-here x (y ∷ [])))),
  t.there y (subst (λ xs. Contains xs y) (sym is) (Contains-there r (x ∷ y ∷ []) y (Contains-there x (y ∷ []) y (Contains-here y [])))),
)

pub many_taken : (L : List VariableLiterals) (f : Cnf) (truth : Option ℕ) (kind : FlatKind) (r : ℕ) (xs ys : List ℕ) → Taken L f truth kind → kind_variables kind ≡ (r ∷ xs) ++ ys
    → IsTarget L truth r × All (λ x. x < length L) xs × All (λ x. x < length L) ys
many_taken L f truth kind r xs ys t is = (
  t.target r (subst (λ zs. Contains zs r) (sym is) (Contains-append_left (r ∷ xs) ys r (Contains-here r xs))),
  All-from_contains (λ x. x < length L) xs (λ x found. t.there x (subst (λ zs. Contains zs x) (sym is) (Contains-append_left (r ∷ xs) ys x (Contains-there r xs x found)))),
  All-from_contains (λ x. x < length L) ys (λ x found. t.there x (subst (λ zs. Contains zs x) (sym is) (Contains-append_right (r ∷ xs) ys x found))),
)

said_alone : (values : List ℤ) (truth : Option ℕ) (b : Bool) → says values [] truth b ≡ is_as_said values truth b
unfolding says clause_holds
said_alone values truth b = refl

con_is : (values : List ℤ) (con : FlatCon) (truth : Option ℕ) (b : Bool) → truth ≡ con.truth → b ≡ kind_holds values con.kind → is_as_said values truth b ≡ con_holds values con
unfolding con_holds
con_is values con truth b same is = ap (λ t. is_as_said values t b) same ∙ ap (is_as_said values con.truth) is

pub adds_con : (L : List VariableLiterals) (f g : Cnf) (con : FlatCon) (truth : Option ℕ) (b : List ℤ → Bool) → IsLayoutOf L f → truth ≡ con.truth → ((values : List ℤ) → b values ≡ kind_holds values con.kind)
    → Adds L f L g (λ values. IsTrue (says values [] truth (b values))) → Adds L f L g (λ values. IsTrue (con_holds values con))
adds_con L f g con truth b is_layout same is adds =
    adds_like L f L g (λ values. IsTrue (says values [] truth (b values))) (λ values. IsTrue (con_holds values con)) is_layout adds
    (λ values among. same_test _ _ (said_alone values truth (b values) ∙ con_is values con truth (b values) same (is values)))

-- no other kind is a function
pub other_kind : (k : ConKind) → family_of (plain_kind k) ≡ of_functions
    → ((x y z : ℕ) → k ≡ code.Product x y z → ⊥) → ((x y z : ℕ) → k ≡ code.Quotient x y z → ⊥) → ((x y z : ℕ) → k ≡ code.Remainder x y z → ⊥) → ((x y z : ℕ) → k ≡ code.Power x y z → ⊥)
    → ((x y : ℕ) → k ≡ code.Absolute x y → ⊥) → ((x : ℕ) (xs : Vec ℕ Global) → k ≡ code.Least x xs → ⊥) → ((x : ℕ) (xs : Vec ℕ Global) → k ≡ code.Greatest x xs → ⊥)
    → ((x : ℕ) (xs : Vec ℕ Global) (ks : Vec Key Global) (ys : Vec ℕ Global) → k ≡ code.Element x xs ks ys → ⊥) → ⊥
unfolding family_of
other_kind (code.Clause parts) h p1 p2 p3 p4 p5 p6 p7 p8 = let e : of_truths ≡ of_functions = h in cc
other_kind (code.All xs) h p1 p2 p3 p4 p5 p6 p7 p8 = let e : of_truths ≡ of_functions = h in cc
other_kind (code.Same x y) h p1 p2 p3 p4 p5 p6 p7 p8 = let e : of_truths ≡ of_functions = h in cc
other_kind (code.Linear parts op n) h p1 p2 p3 p4 p5 p6 p7 p8 = let e : of_sums ≡ of_functions = h in cc
other_kind (code.Member x ns) h p1 p2 p3 p4 p5 p6 p7 p8 = let e : of_sums ≡ of_functions = h in cc
other_kind (code.Product x y z) h p1 p2 p3 p4 p5 p6 p7 p8 = p1 x y z refl
other_kind (code.Quotient x y z) h p1 p2 p3 p4 p5 p6 p7 p8 = p2 x y z refl
other_kind (code.Remainder x y z) h p1 p2 p3 p4 p5 p6 p7 p8 = p3 x y z refl
other_kind (code.Power x y z) h p1 p2 p3 p4 p5 p6 p7 p8 = p4 x y z refl
other_kind (code.Absolute x y) h p1 p2 p3 p4 p5 p6 p7 p8 = p5 x y refl
other_kind (code.Least x xs) h p1 p2 p3 p4 p5 p6 p7 p8 = p6 x xs refl
other_kind (code.Greatest x xs) h p1 p2 p3 p4 p5 p6 p7 p8 = p7 x xs refl
other_kind (code.Element x xs ks ys) h p1 p2 p3 p4 p5 p6 p7 p8 = p8 x xs ks ys refl
other_kind (code.AllDiff xs) h p1 p2 p3 p4 p5 p6 p7 p8 = let e : of_counts ≡ of_functions = h in cc
other_kind (code.Gcc xs ns cs) h p1 p2 p3 p4 p5 p6 p7 p8 = let e : of_counts ≡ of_functions = h in cc
other_kind (code.AtLeast xs cs ns) h p1 p2 p3 p4 p5 p6 p7 p8 = let e : of_counts ≡ of_functions = h in cc
other_kind (code.AtMost xs cs ns) h p1 p2 p3 p4 p5 p6 p7 p8 = let e : of_counts ≡ of_functions = h in cc
other_kind (code.Table xs rows) h p1 p2 p3 p4 p5 p6 p7 p8 = let e : of_rows ≡ of_functions = h in cc
other_kind (code.Lex op xs ys) h p1 p2 p3 p4 p5 p6 p7 p8 = let e : of_rows ≡ of_functions = h in cc
