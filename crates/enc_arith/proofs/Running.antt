-- Runs of the numbers of a variable, and what the clauses of each add.
use Rattle.std.proofs.Common.{◌≡◌, inl, inr, ◌↔◌, ℕ, zero, suc, ◌+◌, ◌-◌, ◌<◌, ◌≤◌, ℤ, pos, ◌≤ℤ◌, ◌<ℤ◌, Bool, true, false, IsTrue, List, length, get_or, refl, sym, ap, subst, ◌∙◌, arith}
use Rattle.std.specs.Prelude.{Option, Some, None}
use Rattle.std.specs.List.{All, Contains}
use Rattle.std.specs.Ordering.{int_eq}
use Rattle.std.proofs.lemmas.Bool.{false≢true}
use Rattle.std.proofs.lemmas.Bool.Decides.{Decides-int_eq}
use Rattle.std.proofs.lemmas.Int.{ints}
use Rattle.std.proofs.lemmas.List.{get_or_default}
use Rattle.std.proofs.lemmas.List.Elements.{All-contains, All-push}
use Rattle.cnf_core.specs.Formula.{Cnf}
use Rattle.ep_base.specs.Reads.{IsWithinNumbers}
use Rattle.ep_base.specs.Runs.{IsAscending}
use Rattle.ep_flat.specs.Cons.{is_value, number_at}
use Rattle.enc_atoms.proofs.Adding.{adds_both, adds_like, adds_nothing}
use Rattle.enc_atoms.proofs.Decoded.{number_among}
use Rattle.enc_atoms.specs.Atoms.{Adds}
use Rattle.enc_atoms.specs.declared.atoms.Atom.{Atom}
use Rattle.enc_var.specs.Decoding.{VariableLiterals}
use Rattle.enc_var.specs.Layouts.{literals_at}
use Rattle.enc_arith.proofs.Cases.{where_is, where_is_not}
use Rattle.enc_arith.proofs.Reading.{by_places, outside_there, run_told}
use Rattle.enc_arith.specs.Elements.{IsInRun}
use Rattle.enc_arith.specs.Finding.{Finds, FindsIn}
use Rattle.enc_arith.specs.Running.{AreOutside, StandsFrom, number_before}
use Rattle.enc_arith.specs.Saying.{IsReady, or_is_not, says}

-- ---- what a variable can have

-- what is found of all numbers that are near is found of those of a variable
pub found_there : (domain : List ℤ) (found : Option ℤ) (number : ℤ) → All IsWithinNumbers domain → Finds found number → FindsIn domain found number
found_there domain found number near finds = record { same = λ n among. finds.same n (All-contains IsWithinNumbers domain n near among) }

-- a number that the variable hasn't is none of its numbers
pub not_there : (domain : List ℤ) (found : Option ℤ) (value number : ℤ) → All IsWithinNumbers domain → Finds found number → found ≡ Some value → (Contains domain value → ⊥) → FindsIn domain None number
unfolding is_value
not_there domain found value number near finds some lacking = record {
  same = λ n among. by n among (int_eq n value) refl (sym (ap (λ o. is_value o n) some) ∙ finds.same n (All-contains IsWithinNumbers domain n near among));
}
  where
    by : (n : ℤ) → Contains domain n → (b : Bool) → int_eq n value ≡ b → int_eq n value ≡ int_eq n number → false ≡ int_eq n number
    by n among true e same = absurd (lacking (subst (Contains domain) ((Decides-int_eq n value).0 e) among))
    by n among false e same = sym e ∙ same

pub none_there : (domain : List ℤ) (found : Option ℤ) (number : ℤ) → All IsWithinNumbers domain → Finds found number → found ≡ None → FindsIn domain None number
none_there domain found number near finds none = subst (λ o. FindsIn domain o number) none (found_there domain found number near finds)

-- ---- places of ascending numbers

order : (ns : List ℤ) (i j : ℕ) → IsAscending ns → i < j → j < length ns → get_or ns i (pos 0) <ℤ get_or ns j (pos 0)
order ns i j ascending less low = ascending i j (pos 0) less low

no_more : (ns : List ℤ) (i j : ℕ) → IsAscending ns → i ≤ j → j < length ns → get_or ns i (pos 0) ≤ℤ get_or ns j (pos 0)
no_more ns i j ascending most low = by_places i j
    (λ less. let o = order ns i j ascending less low in omega (arith, ints, o))
    (λ same. let e = ap (λ m. get_or ns m (pos 0)) same in omega (arith, ints, e))
    (λ more. absurd (omega (arith, most, more)))

-- a number at most the last one of a run stands before the run's end
ends_before : (ns : List ℤ) (end k : ℕ) (v : ℤ) → IsAscending ns → 0 < end → end ≤ length ns → k < length ns → v ≡ get_or ns k (pos 0) → v ≤ℤ get_or ns (end - 1) (pos 0) → k < end
ends_before ns end k v ascending some within here is most = by_places k end
    (λ less. less)
    (λ same. let o = order ns (end - 1) k ascending (omega (arith, same, some)) here in absurd (omega (arith, ints, o, is, most)))
    (λ more. let o = order ns (end - 1) k ascending (omega (arith, more, some)) here in absurd (omega (arith, ints, o, is, most)))

-- one of the numbers stands from a place to another exactly where it is in the run
in_run : (ns : List ℤ) (start end k : ℕ) (v : ℤ) → IsAscending ns → start < end → end ≤ length ns → k < length ns → v ≡ get_or ns k (pos 0)
    → StandsFrom ns start end v ↔ IsInRun (number_before ns start) (Some (get_or ns (end - 1) (pos 0))) v
unfolding number_before
in_run ns zero end k v ascending some within here is = (
  λ s. record {
    beyond = λ h. h;
    up_to = let o = no_more ns s.place (end - 1) ascending (omega (arith, s.before_end)) (omega (arith, within, some)) in let e = s.is in omega (arith, ints, o, e);
  },
  λ r. record { place = k; from_start = omega arith; before_end = ends_before ns end k v ascending (omega (arith, some)) within here is r.up_to; is = is },
)
in_run ns (suc j) end k v ascending some within here is = (
  λ s. record {
    beyond = λ h.
        let o = order ns j s.place ascending (omega (arith, s.from_start)) (omega (arith, s.before_end, within)) in
        let e = s.is in
        let low : v ≤ℤ get_or ns j (pos 0) = h in
        omega (arith, ints, o, e, low);
    up_to = let o = no_more ns s.place (end - 1) ascending (omega (arith, s.before_end)) (omega (arith, within, some)) in let e = s.is in omega (arith, ints, o, e);
  },
  λ r. record {
    place = k;
    from_start = by_places j k (λ less. omega (arith, less))
        (λ same. let e = ap (λ m. get_or ns m (pos 0)) same in absurd (r.beyond (omega (arith, ints, e, is))))
        (λ more. let o = order ns k j ascending more (omega (arith, some, within)) in absurd (r.beyond (omega (arith, ints, o, is))));
    before_end = ends_before ns end k v ascending (omega (arith, some)) within here is r.up_to;
    is = is;
  },
)

-- ---- the clauses of a run

-- the one number of a run
one_there : (ns : List ℤ) (start end : ℕ) (v : ℤ) → end ≡ start + 1 → StandsFrom ns start end v ↔ (v ≡ get_or ns start (pos 0))
one_there ns start end v one = (
  λ s. s.is ∙ ap (λ m. get_or ns m (pos 0)) (same s.place s.from_start s.before_end),
  λ e. record { place = start; from_start = omega arith; before_end = omega (arith, one); is = e },
)
  where
    same : (p : ℕ) → start ≤ p → p < end → p ≡ start
    same p low high = omega (arith, low, high, one)

-- behind atoms which say that a variable isn't a number
other_told : (values : List ℤ) (when : List Atom) (x : ℕ) (n : ℤ) (truth : Option ℕ) (h : Bool) → IsTrue (says values (or_is_not when x n) truth h) ↔ (number_at values x ≡ n → IsTrue (says values when truth h))
other_told values when x n truth h = by (int_eq (number_at values x) n) refl
  where
    by : (b : Bool) → int_eq (number_at values x) n ≡ b → IsTrue (says values (or_is_not when x n) truth h) ↔ (number_at values x ≡ n → IsTrue (says values when truth h))
    by true e = (λ s same. subst IsTrue (where_is values when x n truth h e) s, λ k. subst IsTrue (sym (where_is values when x n truth h e)) (k ((Decides-int_eq (number_at values x) n).0 e)))
    by false e = (λ s same. absurd (false≢true (sym e ∙ (Decides-int_eq (number_at values x) n).1 same)), λ k. where_is_not values when x n truth h e)

-- where a variable has one of its numbers, atoms which say that it isn't one of a run say exactly that
pub outside_told : (values : List ℤ) (when atoms : List Atom) (x : ℕ) (ns : List ℤ) (start end : ℕ) (truth : Option ℕ) (h : Bool) → IsAscending ns → start < end → end ≤ length ns → Contains ns (number_at values x) → AreOutside when x ns start end atoms
    → IsTrue (says values atoms truth h) ↔ (StandsFrom ns start end (number_at values x) → IsTrue (says values when truth h))
outside_told values when atoms x ns start end truth h ascending some within among (inl one) =
    let t = other_told values when x (get_or ns start (pos 0)) truth h in
    let p = one_there ns start end (number_at values x) one.0 in (
      λ s stands. t.0 (subst (λ xs. IsTrue (says values xs truth h)) one.1 s) (p.0 stands),
      λ k. subst (λ xs. IsTrue (says values xs truth h)) (sym one.1) (t.1 (λ same. k (p.1 same))),
    )
outside_told values when atoms x ns start end truth h ascending some within among (inr wide) =
    let t = run_told values when x (number_before ns start) (get_or ns (end - 1) (pos 0)) truth h in
    let p = in_run ns start end among.0 (number_at values x) ascending some within among.1 (at_place among.0 among.1 among.2) in (
      λ s stands. t.0 (subst (λ xs. IsTrue (says values xs truth h)) wide s) (p.0 stands),
      λ k. subst (λ xs. IsTrue (says values xs truth h)) (sym wide) (t.1 (λ run. k (p.1 run))),
    )
  where
    at_place : (k : ℕ) → k < length ns → get_or ns k (number_at values x) ≡ number_at values x → number_at values x ≡ get_or ns k (pos 0)
    at_place k low is = sym is ∙ get_or_default ns k (number_at values x) (pos 0) low

-- a run is added
pub adds_run_of : (L : List VariableLiterals) (f g : Cnf) (when atoms : List Atom) (x : ℕ) (ns : List ℤ) (start end : ℕ) (truth : Option ℕ) (P : List ℤ → Bool) → IsReady L f → x < length L → ns ≡ (literals_at L x).domain → IsAscending ns → start < end → end ≤ length ns → AreOutside when x ns start end atoms
    → Adds L f L g (λ values. IsTrue (says values atoms truth (P values)))
    → Adds L f L g (λ values. StandsFrom ns start end (number_at values x) → IsTrue (says values when truth (P values)))
adds_run_of L f g when atoms x ns start end truth P ready low is ascending some within outside adds =
    adds_like L f L g (λ values. IsTrue (says values atoms truth (P values))) (λ values. StandsFrom ns start end (number_at values x) → IsTrue (says values when truth (P values))) ready.is_layout adds
    (λ values among. outside_told values when atoms x ns start end truth (P values) ascending some within (subst (λ ms. Contains ms (number_at values x)) (sym is) (number_among L values x among low)) outside)

-- names of such atoms
pub outside_named : (count : ℕ) (when atoms : List Atom) (x : ℕ) (ns : List ℤ) (start end : ℕ) → AreOutside when x ns start end atoms → All (λ (a : Atom). a.var < count) when → x < count → All (λ (a : Atom). a.var < count) atoms
outside_named count when atoms x ns start end (inl one) names low = subst (All (λ (a : Atom). a.var < count)) (sym one.1) (All-push (λ (a : Atom). a.var < count) when _ names low)
outside_named count when atoms x ns start end (inr wide) names low = outside_there count when atoms x (number_before ns start) (get_or ns (end - 1) (pos 0)) wide names low

-- ---- all numbers, run by run

-- where a variable has one of its first numbers, the result is the function's value
abbrev pub SaysTo : List Atom → ℕ → Option ℕ → ℕ → (ℤ → ℤ) → List ℤ → ℕ → List ℤ → Type 0
SaysTo when x truth r value ns k values =
    (i : ℕ) → i < k → i < length ns → number_at values x ≡ get_or ns i (pos 0) → IsTrue (says values when truth (int_eq (number_at values r) (value (get_or ns i (pos 0)))))

pub says_none : (L : List VariableLiterals) (f : Cnf) (when : List Atom) (x : ℕ) (truth : Option ℕ) (r : ℕ) (value : ℤ → ℤ) (ns : List ℤ) → IsReady L f → Adds L f L f (SaysTo when x truth r value ns 0)
says_none L f when x truth r value ns ready =
    adds_like L f L f (λ values. Unit {0}) (SaysTo when x truth r value ns 0) ready.is_layout (adds_nothing L f ready.is_layout ready.from_new)
    (λ values among. (λ u i low there at. absurd (omega (arith, low)), λ h. tt))

pub says_run : (L : List VariableLiterals) (f f1 g : Cnf) (when : List Atom) (x : ℕ) (truth : Option ℕ) (r : ℕ) (value : ℤ → ℤ) (ns : List ℤ) (start end : ℕ) (found : Option ℤ) → IsReady L f → r < length L → start < end → end ≤ length ns
    → ((k : ℕ) → start ≤ k → k < end → FindsIn (literals_at L r).domain found (value (get_or ns k (pos 0))))
    → Adds L f L f1 (SaysTo when x truth r value ns start) → Adds L f1 L g (λ values. StandsFrom ns start end (number_at values x) → IsTrue (says values when truth (is_value found (number_at values r))))
    → Adds L f L g (SaysTo when x truth r value ns end)
says_run L f f1 g when x truth r value ns start end found ready there some within finds one two =
    let Run : List ℤ → Type 0 = λ values. StandsFrom ns start end (number_at values x) → IsTrue (says values when truth (is_value found (number_at values r))) in
    adds_like L f L g (λ values. SaysTo when x truth r value ns start values × Run values) (SaysTo when x truth r value ns end) ready.is_layout
    (adds_both L f f1 L g (SaysTo when x truth r value ns start) Run ready.is_layout one two)
    (λ values among.
    let same : (k : ℕ) → start ≤ k → k < end → is_value found (number_at values r) ≡ int_eq (number_at values r) (value (get_or ns k (pos 0))) = λ k low high. (finds k low high).same (number_at values r) (number_among L values r among there) in (
      λ h i low here at. by_places i start
          (λ less. h.0 i less here at)
          (λ equal. subst (λ b. IsTrue (says values when truth b)) (same i (omega (arith, equal)) low) (h.1 (record { place = i; from_start = omega (arith, equal); before_end = low; is = at })))
          (λ more. subst (λ b. IsTrue (says values when truth b)) (same i (omega (arith, more)) low) (h.1 (record { place = i; from_start = omega (arith, more); before_end = low; is = at }))),
      λ h. (
        λ i low here at. h i (omega (arith, low, some)) here at,
        λ stands. subst (λ b. IsTrue (says values when truth b)) (sym (same stands.place stands.from_start stands.before_end)) (h stands.place stands.before_end (omega (arith, stands.before_end, within)) stands.is),
      ),
    ))

pub says_all : (L : List VariableLiterals) (f g : Cnf) (when : List Atom) (x : ℕ) (truth : Option ℕ) (r : ℕ) (value : ℤ → ℤ) (ns : List ℤ) (k : ℕ) → IsReady L f → x < length L → ns ≡ (literals_at L x).domain → length ns ≤ k
    → Adds L f L g (SaysTo when x truth r value ns k) → Adds L f L g (λ values. IsTrue (says values when truth (int_eq (number_at values r) (value (number_at values x)))))
says_all L f g when x truth r value ns k ready low is long adds =
    adds_like L f L g (SaysTo when x truth r value ns k) (λ values. IsTrue (says values when truth (int_eq (number_at values r) (value (number_at values x))))) ready.is_layout adds
    (λ values among.
    let found : Contains ns (number_at values x) = subst (λ ms. Contains ms (number_at values x)) (sym is) (number_among L values x among low) in
    let at : number_at values x ≡ get_or ns found.0 (pos 0) = sym found.2 ∙ get_or_default ns found.0 (number_at values x) (pos 0) found.1 in (
      λ h. subst (λ n. IsTrue (says values when truth (int_eq (number_at values r) (value n)))) (sym at) (h found.0 (omega (arith, found.1, long)) found.1 at),
      λ h i less here same. subst (λ n. IsTrue (says values when truth (int_eq (number_at values r) (value n)))) same h,
    ))

-- for the numbers from one place to another the same is found
pub record IsRunTo (domain : List ℤ) (found : Option ℤ) (value : ℤ → ℤ) (ns : List ℤ) (start end : ℕ) : Type 0 where
  pub some : start < end
  pub within : end ≤ length ns
  pub same : (k : ℕ) → start ≤ k → k < end → FindsIn domain found (value (get_or ns k (pos 0)))

pub run_of_one : (domain : List ℤ) (found : Option ℤ) (value : ℤ → ℤ) (ns : List ℤ) (start : ℕ) → start < length ns → FindsIn domain found (value (get_or ns start (pos 0))) → IsRunTo domain found value ns start (start + 1)
run_of_one domain found value ns start low finds = record {
  some = omega arith;
  within = omega (arith, low);
  same = λ k least most. subst (λ j. FindsIn domain found (value (get_or ns j (pos 0)))) (equal k least most) finds;
}
  where
    equal : (k : ℕ) → start ≤ k → k < start + 1 → start ≡ k
    equal k least most = omega (arith, least, most)

pub run_of_more : (domain : List ℤ) (found other : Option ℤ) (value : ℤ → ℤ) (ns : List ℤ) (start end : ℕ) (n : ℤ) → IsRunTo domain found value ns start end → end < length ns → n ≡ get_or ns end (pos 0) → FindsIn domain other (value n) → other ≡ found → IsRunTo domain found value ns start (end + 1)
run_of_more domain found other value ns start end n run low at finds is = record {
  some = omega (arith, run.some);
  within = omega (arith, low);
  same = λ k least most. by_places k end (λ less. run.same k least less)
      (λ equal. subst (λ j. FindsIn domain found (value (get_or ns j (pos 0)))) (sym equal) (subst (λ o. FindsIn domain o (value (get_or ns end (pos 0)))) is (subst (λ m. FindsIn domain other (value m)) at finds)))
      (λ more. absurd (omega (arith, most, more)));
}

-- the number before a place
pub before_first : (ns : List ℤ) (k : ℕ) → k ≡ 0 → None ≡ number_before ns k
unfolding number_before
before_first ns zero e = refl
before_first ns (suc k) e = absurd (omega (arith, e))

pub before_other : (ns : List ℤ) (k : ℕ) (n : ℤ) → (k ≡ 0 → ⊥) → n ≡ get_or ns (k - 1) (pos 0) → Some n ≡ number_before ns k
unfolding number_before
before_other ns zero n some at = absurd (some refl)
before_other ns (suc k) n some at = ap (λ m. Some m) (at ∙ ap (λ i. get_or ns i (pos 0)) (less k))
  where
    less : (i : ℕ) → suc i - 1 ≡ i
    less i = omega arith
