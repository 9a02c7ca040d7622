-- The constraint that follows from a flat problem, and the flat problem with it.
use Rattle.std.proofs.Common.{◌≡◌, ℕ, zero, suc, ◌+◌, ◌<◌, ◌≤◌, ℤ, pos, ◌+ℤ◌, ◌*ℤ◌, ◌≤ℤ◌, Bool, true, IsTrue, List, [], ◌∷◌, ◌++◌, length, map, take, get_or, Option, Some, None, Ok, Err, Result, OnErr, refl, sym, ap, subst, ◌∙◌, arith}
use Rattle.std.specs.List.{All, AllZip, Contains}
use Rattle.std.proofs.lemmas.Int.{ints}
use Rattle.std.specs.Prelude.{IfSome}
use Rattle.std.proofs.lemmas.List.{get_or-map, length-map, take_all}
use Rattle.std.proofs.lemmas.List.Elements.{All-cons, All-contains, All-contains_itself, All-map, All-nil, All-push}
use Rattle.ep_base.specs.Reads.{IsWithinNumbers}
use Rattle.ep_base.specs.declared.operators.CompareOp.TheVariants as op
use Rattle.ep_flat.specs.Cons.{FlatCon, con_holds, con_variables, kind_coefficients, kind_variables, linear, number_at}
use Rattle.ep_base.proofs.RunSteps.{in_numbers}
use Rattle.ep_base.specs.Runs.{numbers}
use Rattle.ep_base.specs.declared.run_lists.Run.{Run}
use Rattle.ep_flat.specs.FlatViews.{plain_con}
use Rattle.ep_flat.specs.declared.flats.Con.{Con}
use Rattle.ep_flat.specs.Flats.{FlatState, HasSmallCoefficients, IsSoundFlat, Meets, NamesBelow}
use Rattle.ep_implied.specs.Follows.{FollowsFrom, MeansTheSame}
use Rattle.ep_implied.specs.Sums.{IsRounded, TakesIn, parts_sum, weighed}
use Rattle.ep_implied.proofs.Products.{spread}
use Rattle.ep_implied.proofs.SumSteps.{compares, parts_none, weighed_more}

-- ---- the numbers of domains

zip_at : (vars : List (List ℤ)) (values : List ℤ) (k : ℕ) (d : List ℤ) → AllZip Contains vars values → k < length vars → Contains (get_or vars k d) (number_at values k)
unfolding number_at
zip_at [] values k d zip low = absurd (omega (arith, low))
zip_at (domain ∷ vars) [] k d zip low = absurd zip
zip_at (domain ∷ vars) (v ∷ values) zero d zip low = zip.0
zip_at (domain ∷ vars) (v ∷ values) (suc k) d zip low = zip_at vars values k d zip.1 (omega (arith, low))

-- ---- variable by variable

-- parts stand for the first so many of the coefficients, each taken so many times
pub record StandForFirst (vars : List (List ℤ)) (coefficients : List ℤ) (unit : ℤ) (count : ℕ) (parts : List (ℤ × ℕ)) : Type 0 where
  pub below : (values : List ℤ) → AllZip Contains vars values → (unit *ℤ parts_sum parts values) ≤ℤ weighed 0 (take count coefficients) values
  pub names : All (λ p. p.1 < length vars) parts
  pub small : All (λ p. IsWithinNumbers p.0) parts

pub none_stand : (vars : List (List ℤ)) (coefficients : List ℤ) (unit : ℤ) → StandForFirst vars coefficients unit 0 []
none_stand vars coefficients unit = record {
  below = λ values zip.
      let none = parts_none values in
      let z : (unit *ℤ pos 0) ≡ pos 0 = omega (arith, ints) in
      let same : (unit *ℤ parts_sum [] values) ≡ (unit *ℤ pos 0) = ap (λ (n : ℤ). unit *ℤ n) none in
      omega (arith, ints, z, same);
  names = All-nil (λ (p : ℤ × ℕ). p.1 < length vars);
  small = All-nil (λ (p : ℤ × ℕ). IsWithinNumbers p.0);
}

pub one_more_stands : (vars : List (List ℤ)) (coefficients : List ℤ) (unit : ℤ) (count : ℕ) (d : List ℤ) (e : ℤ) (natural : Bool) (coefficient : ℤ) (old new : List (ℤ × ℕ)) → count < length vars → count < length coefficients
    → (natural ≡ true → All (λ number. pos 0 ≤ℤ number) (get_or vars count d)) → IsRounded (get_or coefficients count e) unit natural coefficient → TakesIn (coefficient, count) old new
    → StandForFirst vars coefficients unit count old → StandForFirst vars coefficients unit (count + 1) new
one_more_stands vars coefficients unit count d e natural coefficient old new low there up rounded takes stand = record {
  below = λ values zip.
      let number : ℤ = number_at values count in
      let found = zip_at vars values count d zip low in
      let own = rounded.below number (λ is. All-contains (λ (n : ℤ). pos 0 ≤ℤ n) (get_or vars count d) number (up is) found) in
      let before = stand.below values zip in
      let more = weighed_more coefficients count e values there in
      let sum : (unit *ℤ parts_sum new values) ≡ ((unit *ℤ parts_sum old values) +ℤ (unit *ℤ (coefficient *ℤ number))) =
      ap (λ (n : ℤ). unit *ℤ n) (takes.sum values) ∙ spread unit (parts_sum old values) (coefficient *ℤ number) in
      omega (arith, ints, own, before, more, sum);
  names = takes.names (length vars) stand.names low;
  small = takes.small stand.small rounded.near;
}

-- ---- the constraint

names_mapped : (count : ℕ) (parts : List (ℤ × ℕ)) → All (λ (p : ℤ × ℕ). p.1 < count) parts → All (λ x. x < count) (map (λ (p : ℤ × ℕ). p.1) parts)
names_mapped count parts named = All-map (λ (x : ℕ). x < count) (λ (p : ℤ × ℕ). p.1) parts named

pub follows : (flat : FlatState) (coefficients : List ℤ) (unit most : ℤ) (count : ℕ) (parts : List (ℤ × ℕ)) (number : ℤ) → length coefficients ≤ count → StandForFirst flat.vars coefficients unit count parts
    → ((values : List ℤ) → Meets flat values → weighed 0 coefficients values ≤ℤ most) → ((sum : ℤ) → (unit *ℤ sum) ≤ℤ most → sum ≤ℤ number)
    → FollowsFrom flat (record { truth = None; kind = linear parts op.AtMost number })
unfolding con_variables kind_variables kind_coefficients
follows flat coefficients unit most count parts number all stand within near = record {
  holds = λ values meets.
      let below = stand.below values meets.domains in
      let whole : weighed 0 (take count coefficients) values ≡ weighed 0 coefficients values = ap (λ (cs : List ℤ). weighed 0 cs values) (take_all count coefficients all) in
      let low = within values meets in
      compares values parts number (near (parts_sum parts values) (omega (arith, ints, below, whole, low)));
  names = names_mapped (length flat.vars) parts stand.names;
  small = All-map IsWithinNumbers (λ (p : ℤ × ℕ). p.0) parts stand.small;
}

-- ---- the flat problem with it

all_front : {A : Type 0} (P : A → Type 0) (xs : List A) (x : A) → All P (xs ++ x ∷ []) → All P xs
all_front {A} P [] x all = All-nil P
all_front {A} P (y ∷ xs) x all = All-cons P y xs (all 0 y (omega arith)) (all_front P xs x (λ k d low. all (suc k) d (omega (arith, low))))

pub same_with : (flat : FlatState) (con : FlatCon) → FollowsFrom flat con → MeansTheSame flat (record { vars = flat.vars; cons = flat.cons ++ con ∷ [] })
same_with flat con from = record {
  vars = refl;
  meets = λ values. (
    λ meets. record { domains = meets.domains; cons = All-push (λ (c : FlatCon). IsTrue (con_holds values c)) flat.cons con meets.cons (from.holds values meets) },
    λ meets. record { domains = meets.domains; cons = all_front (λ (c : FlatCon). IsTrue (con_holds values c)) flat.cons con meets.cons },
  );
}

pub sound_with : (flat : FlatState) (con : FlatCon) → FollowsFrom flat con → IsSoundFlat flat → IsSoundFlat (record { vars = flat.vars; cons = flat.cons ++ con ∷ [] })
sound_with flat con from sound = record {
  names = All-push (NamesBelow (length flat.vars)) flat.cons con sound.names from.names;
  numbers = sound.numbers;
  coefficients = All-push HasSmallCoefficients flat.cons con sound.coefficients from.small;
}

pub itself : (flat : FlatState) → MeansTheSame flat flat
itself flat = record { vars = refl; meets = λ values. (λ meets. meets, λ meets. meets) }

-- ---- what is read off the code

pub on_err : {A E : Type 0} (r : Result A E) (P : Type 0) → P → OnErr r P
on_err (Ok x) P p = tt
on_err (Err e) P p = p

abbrev pub with_cons : List (List ℤ) → List FlatCon → FlatState
with_cons vars cons = record { vars = vars; cons = cons }

pub if_some : {A : Type 0} (P : A → Type 0) (o : Option A) (a : A) → o ≡ Some a → IfSome o P → P a
if_some P o a e h = subst (λ x. IfSome x P) e h

-- a constraint among those that hold
pub con_at : (cons : List Con) (k : ℕ) (con : Con) (values : List ℤ) → All (λ c. IsTrue (con_holds values c)) (map plain_con cons) → k < length cons → con ≡ get_or cons k con → IsTrue (con_holds values (plain_con con))
con_at cons k con values all low is =
    let long : length (map plain_con cons) ≡ length cons = length-map cons plain_con in
    let there : get_or (map plain_con cons) k (plain_con con) ≡ plain_con con = get_or-map plain_con cons k con (plain_con con) low ∙ ap plain_con (sym is) in
    subst (λ (c : FlatCon). IsTrue (con_holds values c)) there (all k (plain_con con) (omega (arith, long, low)))

-- no number of runs that begin at no number below 0 is negative
pub natural_numbers : (runs : List Run) (domain : List ℤ) → numbers runs ≡ domain → All (λ run. pos 0 ≤ℤ run.lo) runs → All (λ number. pos 0 ≤ℤ number) domain
natural_numbers runs domain same all =
    subst (All (λ (n : ℤ). pos 0 ≤ℤ n)) same
    (λ k d low.
    let a = (in_numbers runs (get_or (numbers runs) k d)).0 (All-contains_itself (numbers runs) k d low) in
    let first : pos 0 ≤ℤ a.1.lo = subst (λ (run : Run). pos 0 ≤ℤ run.lo) a.3 (all a.0 a.1 a.2) in
    omega (arith, ints, first, a.4.0))
