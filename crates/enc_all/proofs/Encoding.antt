-- The encoding of a whole flat problem: first its variables, then one constraint after another.
use Rattle.std.proofs.Common.{◌≡◌, ◌↔◌, ℕ, zero, suc, ◌+◌, ◌<◌, ◌≤◌, ℤ, Bool, false, true, IsTrue, List, [], ◌∷◌, ◌++◌, length, map, take, refl, sym, ap, subst, ◌∙◌, arith}
use Rattle.std.specs.List.{All, AllZip, Contains}
use Rattle.std.specs.Prelude.{slice_index_or}
use Rattle.std.proofs.lemmas.List.{get_or-map, get_or-take, length-map, map_push, take-map, take_all, take_more, length-append}
use Rattle.std.proofs.lemmas.List.Elements.{All-append, All-contains, All-get_or, All-more, All-weaker}
use Rattle.cnf_core.proofs.Members.{All-from_contains}
use Rattle.cnf_core.specs.Clauses.{AgreeUpTo, Satisfies, SatisfiesClause}
use Rattle.cnf_core.specs.Formula.{Cnf, Extends, Keeps}
use Rattle.cnf_core.specs.Steps.{IsConsistent}
use Rattle.enc_all.proofs.Fronts.{con_front}
use Rattle.enc_all.specs.Whole.{AreChosen, HasVariables}
use Rattle.enc_atoms.proofs.Adding.{adds_all, adds_none, adds_one_more_later, satisfied_before}
use Rattle.enc_atoms.proofs.Decoded.{length_among, values_along, values_among, values_front, values_push}
use Rattle.enc_atoms.specs.Atoms.{Adds, AreOfDomains}
use Rattle.enc_var.specs.Decoding.{HasLiteralsUpTo, Means, VariableLiterals, decoded}
use Rattle.enc_var.specs.Layouts.{CanTake, GoesOn, HasFreeChoice, IsDecoded, IsEncoding, IsLayoutOf, decoded_values, literals_at}
use Rattle.ep_base.specs.Reads.{IsWithinNumbers}
use Rattle.ep_flat.specs.Cons.{FlatCon, con_holds, con_variables}
use Rattle.ep_flat.specs.FlatViews.{plain_con}
use Rattle.ep_flat.specs.declared.flats.Con.{Con}
use Rattle.ep_flat.specs.Flats.{FlatState, HasSmallCoefficients, HaveSmallNumbers, IsSoundFlat, Meets, NamesBelow}

-- no variable yet
pub variables_none : (L : List VariableLiterals) (f : Cnf) → L ≡ [] → f ≡ record { vars = 0; clauses = []; from_new = true } → HasVariables [] L f
unfolding decoded_values
variables_none L f none new =
    let empty : Cnf = record { vars = 0; clauses = []; from_new = true } in
    subst (λ es. HasVariables [] es f) (sym none) (subst (HasVariables [] []) (sym new) (record {
      from_new = refl;
      is_layout = record { literals = λ k d low. absurd (omega (arith, low)); meaning = λ s met k d low. absurd (omega (arith, low)) };
      domains_are = refl;
      consistent = λ k d low. absurd (omega (arith, low));
      complete = λ values among. record { assignment = λ v. false; satisfies = λ k d low. absurd (omega (arith, low)); values_are = nothing values among };
    }))
  where
    nothing : (values : List ℤ) → AreOfDomains [] values → [] ≡ values
    nothing [] among = refl
    nothing (v ∷ values) among = absurd among

-- numbers of domains, cut before the last
record Cut (L : List VariableLiterals) (e : VariableLiterals) (values : List ℤ) : Type 0 where
  front : List ℤ
  last : ℤ
  is : front ++ last ∷ [] ≡ values
  among : AreOfDomains L front
  found : Contains e.domain last

cut : (L : List VariableLiterals) (e : VariableLiterals) (values : List ℤ) → AreOfDomains (L ++ e ∷ []) values → Cut L e values
cut [] e [] among = absurd among
cut [] e (v ∷ []) among = record { front = []; last = v; is = refl; among = tt; found = among.0 }
cut [] e (v ∷ w ∷ values) among = absurd among.1
cut (d ∷ L) e [] among = absurd among
cut (d ∷ L) e (v ∷ values) among =
    let rest = cut L e values among.1 in
    record { front = v ∷ rest.front; last = rest.last; is = ap (λ vs. v ∷ vs) rest.is; among = (among.0, rest.among); found = rest.found }

-- one more variable
pub variables_more : (domains : List (List ℤ)) (k : ℕ) (d : List ℤ) (L : List VariableLiterals) (f : Cnf) (first : ℕ) (L1 : List VariableLiterals) (g : Cnf) → k < length domains → d ≡ slice_index_or domains k d
    → HasVariables (take k domains) L f → L1 ≡ L ++ record { domain = d; first = first } ∷ [] → GoesOn L f L1 g → HasFreeChoice f (record { domain = d; first = first }) g
    → HasVariables (take (k + 1) domains) L1 g
variables_more domains k d L f first L1 g low is has pushed goes free =
    let e : VariableLiterals = record { domain = d; first = first } in
    record {
      from_new = goes.from_new;
      is_layout = goes.is_layout;
      domains_are = ap (map (λ (v : VariableLiterals). v.domain)) pushed ∙ map_push (λ (v : VariableLiterals). v.domain) L e ∙ ap (λ ds. ds ++ d ∷ []) has.domains_are
          ∙ ap (λ x. take k domains ++ x ∷ []) is ∙ sym (take_more domains k d low);
      consistent = subst (All IsConsistent) (sym goes.clauses) (All-append IsConsistent f.clauses goes.added has.consistent goes.consistent);
      complete = λ values among. chosen e pushed free values (cut L e values (subst (λ es. AreOfDomains es values) pushed among));
    }
  where
    chosen : (e : VariableLiterals) → L1 ≡ L ++ e ∷ [] → HasFreeChoice f e g → (values : List ℤ) → Cut L e values → AreChosen L1 g values
    chosen e pushed free values c =
        let before = has.complete c.front c.among in
        let far = free.choice before.assignment c.last before.satisfies c.found in
        let t = far.0.values in
        record {
          assignment = t;
          satisfies = far.0.satisfies;
          values_are = ap (λ es. decoded_values es t) pushed ∙ values_push L e t ∙ ap (λ v. decoded_values L t ++ v ∷ []) far.1
              ∙ ap (λ vs. vs ++ c.last ∷ []) (sym (values_along f.vars before.assignment t L far.0.agrees has.is_layout.literals) ∙ before.values_are) ∙ c.is;
        }

pub variables_all : (domains : List (List ℤ)) (k : ℕ) (L : List VariableLiterals) (f : Cnf) → length domains ≤ k → HasVariables (take k domains) L f → HasVariables domains L f
variables_all domains k L f long has = subst (λ ds. HasVariables ds L f) (take_all k domains long) has

short : {X : Type 0} (n : ℕ) (xs ys : List X) → take (length ys) xs ≡ ys → length ys ≤ length xs
short n xs ys is = subst (λ m. m ≤ length xs) (ap length is) (shorter (length ys) xs)
  where
    shorter : {X : Type 0} (n : ℕ) (xs : List X) → length (take n xs) ≤ length xs
    shorter zero xs = omega arith
    shorter (suc n) [] = omega arith
    shorter (suc n) (x ∷ xs) = let h = shorter n xs in omega (arith, h)

-- what a layout can take, one that goes on from it can
pub take_later : (L : List VariableLiterals) (f : Cnf) (L1 : List VariableLiterals) (f1 : Cnf) (con : FlatCon) → CanTake L f con → GoesOn L f L1 f1 → CanTake L1 f1 con
take_later L f L1 f1 con can goes =
    let long = short 0 L1 L goes.earlier in
    record {
      from_new = goes.from_new;
      is_layout = goes.is_layout;
      names = All-weaker (λ x. x < length L) (λ x. x < length L1) (λ x h. omega (arith, h, long)) (con_variables con) can.names;
      numbers = All-from_contains (λ x. All IsWithinNumbers (literals_at L1 x).domain) (con_variables con)
          (λ x found. subst (λ (e : VariableLiterals). All IsWithinNumbers e.domain) (same x (All-contains (λ y. y < length L) (con_variables con) x can.names found))
          (All-contains (λ y. All IsWithinNumbers (literals_at L y).domain) (con_variables con) x can.numbers found));
      coefficients = can.coefficients;
    }
  where
    none : VariableLiterals
    none = record { domain = []; first = 0 }

    same : (x : ℕ) → x < length L → literals_at L x ≡ literals_at L1 x
    same x low = ap (λ es. slice_index_or es x none) (sym goes.earlier) ∙ get_or-take (length L) L1 x none low

-- one more constraint
pub constraints_more : (L : List VariableLiterals) (f : Cnf) (L1 : List VariableLiterals) (f1 : Cnf) (L2 : List VariableLiterals) (f2 : Cnf) (cons : List FlatCon) (k : ℕ) (con : FlatCon) → IsLayoutOf L f → k < length cons
    → slice_index_or cons k con ≡ con → NamesBelow (length L) con
    → Adds L f L1 f1 (λ values. All (λ con. IsTrue (con_holds values con)) (take k cons)) → Adds L1 f1 L2 f2 (λ values. IsTrue (con_holds values con))
    → Adds L f L2 f2 (λ values. All (λ con. IsTrue (con_holds values con)) (take (k + 1) cons))
constraints_more L f L1 f1 L2 f2 cons k con is_layout low is names one two =
    adds_one_more_later L f L1 f1 L2 f2 (λ values. IsTrue (con_holds values con)) (λ values con. IsTrue (con_holds values con)) cons k con is_layout low one two
    (λ values among.
    let same : con_holds values con ≡ con_holds (take (length L) values) (slice_index_or cons k con) = con_front values (length L) con names ∙ ap (con_holds (take (length L) values)) (sym is) in
    (λ h. subst IsTrue same h, λ h. subst IsTrue (sym same) h))

-- a constraint that was read, in plain lists
pub read_plain : (cons : List Con) (k : ℕ) (con : Con) → k < length cons → con ≡ slice_index_or cons k con → slice_index_or (map plain_con cons) k (plain_con con) ≡ plain_con con
read_plain cons k con low is = get_or-map plain_con cons k con (plain_con con) low ∙ ap plain_con (sym is)

pub below_plain : (cons : List Con) (k : ℕ) → k < length cons → k < length (map plain_con cons)
below_plain cons k low = subst (λ n. k < n) (sym (length-map cons plain_con)) low

-- what is known of each constraint is known of the one that was read
pub taken : (L : List VariableLiterals) (f : Cnf) (cons : List Con) (k : ℕ) (con : Con) → All (CanTake L f) (map plain_con cons) → k < length cons → con ≡ slice_index_or cons k con → CanTake L f (plain_con con)
taken L f cons k con can low is = subst (CanTake L f) (read_plain cons k con low is) (can k (plain_con con) (below_plain cons k low))

domains_zip : (L : List VariableLiterals) (values : List ℤ) → AreOfDomains L values ↔ AllZip Contains (map (λ e. e.domain) L) values
domains_zip [] [] = (λ h. tt, λ h. tt)
domains_zip [] (v ∷ values) = (λ h. h, λ h. h)
domains_zip (e ∷ L) [] = (λ h. h, λ h. h)
domains_zip (e ∷ L) (v ∷ values) = let rest = domains_zip L values in (λ h. (h.0, rest.0 h.1), λ h. (h.0, rest.1 h.1))

-- the variables, and then the constraints, are the encoding
pub encodes : (flat : FlatState) (L : List VariableLiterals) (f : Cnf) (L1 : List VariableLiterals) (g : Cnf) → HasVariables flat.vars L f
    → Adds L f L1 g (λ values. All (λ con. IsTrue (con_holds values con)) flat.cons) → IsEncoding flat L1 g
encodes flat L f L1 g has adds = record {
  from_new = adds.goes_on.from_new;
  is_layout = adds.goes_on.is_layout;
  domains = ap (λ n. take n (map (λ (e : VariableLiterals). e.domain) L1)) count ∙ take-map (λ (e : VariableLiterals). e.domain) (length L) L1 ∙ ap (map (λ (e : VariableLiterals). e.domain)) adds.goes_on.earlier ∙ has.domains_are;
  consistent = subst (All IsConsistent) (sym adds.goes_on.clauses) (All-append IsConsistent f.clauses adds.goes_on.added has.consistent adds.goes_on.consistent);
  sound = λ s met.
      let on_first = adds.keeps.restriction s met in
      let here : Extends f.vars s g = record { values = s; agrees = λ v low high. refl; satisfies = met } in
      subst (Meets flat) (sym (front s)) (record {
        domains = subst (λ ds. AllZip Contains ds (decoded_values L s)) has.domains_are ((domains_zip L (decoded_values L s)).0 (values_among L s (has.is_layout.meaning s on_first)));
        cons = (adds.keeps.extension s on_first).0 here;
      });
  complete = λ values meets.
      let among = (domains_zip L values).1 (subst (λ ds. AllZip Contains ds values) (sym has.domains_are) meets.domains) in
      let chosen = has.complete values among in
      let s = chosen.assignment in
      let far = (adds.keeps.extension s chosen.satisfies).1 (subst (λ vs. All (λ con. IsTrue (con_holds vs con)) flat.cons) (sym chosen.values_are) meets.cons) in
      record {
        assignment = far.values;
        satisfies = far.satisfies;
        values_are = front far.values ∙ sym (values_along f.vars s far.values L far.agrees has.is_layout.literals) ∙ chosen.values_are;
      };
}
  where
    count : length flat.vars ≡ length L
    count = sym (ap length has.domains_are) ∙ length-map L (λ (e : VariableLiterals). e.domain)

    front : (s : ℕ → Bool) → take (length flat.vars) (decoded_values L1 s) ≡ decoded_values L s
    front s = ap (λ n. take n (decoded_values L1 s)) count ∙ values_front L L1 s adds.goes_on.earlier

-- what a sound flat problem's constraints ask of the layout of its variables
pub can_take : (flat : FlatState) (L : List VariableLiterals) (f : Cnf) → IsSoundFlat flat → HasVariables flat.vars L f → All (CanTake L f) flat.cons
can_take flat L f sound has = All-from_contains (CanTake L f) flat.cons (λ con found. one con found)
  where
    count : length flat.vars ≡ length L
    count = sym (ap length has.domains_are) ∙ length-map L (λ (e : VariableLiterals). e.domain)

    domain_at : (x : ℕ) → x < length L → slice_index_or flat.vars x [] ≡ (literals_at L x).domain
    domain_at x low = ap (λ ds. slice_index_or ds x []) (sym has.domains_are) ∙ get_or-map (λ (e : VariableLiterals). e.domain) L x (record { domain = []; first = 0 }) [] low

    one : (con : FlatCon) → Contains flat.cons con → CanTake L f con
    one con found =
        let names = subst (λ n. NamesBelow n con) count (All-contains (NamesBelow (length flat.vars)) flat.cons con sound.names found) in
        record {
          from_new = has.from_new;
          is_layout = has.is_layout;
          names = names;
          numbers = All-from_contains (λ x. All IsWithinNumbers (literals_at L x).domain) (con_variables con)
              (λ x there.
              let low = All-contains (λ y. y < length L) (con_variables con) x names there in
              subst (All IsWithinNumbers) (domain_at x low) (sound.numbers x [] (subst (λ n. x < n) (sym count) low)));
          coefficients = All-contains HasSmallCoefficients flat.cons con sound.coefficients found;
        }
