-- Steps in order: which of them lie before another.
use Rattle.std.proofs.Common.{◌≡◌, ◌≢◌, ◌⊎◌, inl, inr, ◌↔◌, ℕ, zero, suc, ◌+◌, ◌<◌, ◌≤◌, ℤ, pos, ◌-ℤ◌, ◌<ℤ◌, ◌≤ℤ◌, Bool, true, false, IsTrue, List, [], ◌∷◌, length, map, cond, int_le, int_lt, refl, sym, ap, subst, ◌∙◌, arith, slice_index_or}
use Rattle.std.specs.Prelude.{Err, IfOk, MatchOption, None, Ok, Option, Result, Some, SomeIff}
use Rattle.std.specs.List.{All, AllPairs, AllWithin, Contains}
use Rattle.std.specs.List.Sorted.{IsPartitionedBy}
use Rattle.std.specs.Ordering.{int_eq}
use Rattle.std.proofs.lemmas.Bool.Decides.{Decides-int_eq}
use Rattle.std.proofs.lemmas.Int.{ints}
use Rattle.std.proofs.lemmas.List.Elements.{All-contains}
use Rattle.cnf_core.proofs.Members.{All-from_contains}
use Rattle.enc_atoms.specs.Atoms.{atom_holds}
use Rattle.enc_atoms.specs.declared.atoms.Atom.{Atom}
use Rattle.cnf_core.specs.Formula.{Cnf}
use Rattle.enc_linear.specs.declared.sources.Source.{Source}
use Rattle.enc_linear.specs.declared.terms.Step.{Step}
use Rattle.enc_linear.specs.declared.terms.Term.{Term}
use Rattle.enc_linear.proofs.Reading.{said_at_most}
use Rattle.enc_linear.specs.Sources.{SaysAbove, SaysAtMost, source_number}
use Rattle.enc_linear.specs.Terms.{AreInOrder, Arise, HasOrderedSteps, IsTermOf, SaysOfSteps, SaysOfTerm, worth_at, worth_of}
use Rattle.enc_var.proofs.Counts.{is_at_most, is_below}
use Rattle.enc_var.specs.Decoding.{VariableLiterals}

pub by_places : {P : Type 0} (i j : ℕ) → (i < j → P) → (i ≡ j → P) → (j < i → P) → P
by_places {P} i j less same more = elim (split i j) as (λ _. P) [ inl lt ↦ less lt | inr r ↦ elim r as (λ _. P) [ inl e ↦ same e | inr gt ↦ more gt ] ]
  where
    step : (i j : ℕ) → (i < j) ⊎ ((i ≡ j) ⊎ (j < i)) → (suc i < suc j) ⊎ ((suc i ≡ suc j) ⊎ (suc j < suc i))
    step i j (inl lt) = inl (omega (arith, lt))
    step i j (inr (inl e)) = inr (inl (ap suc e))
    step i j (inr (inr gt)) = inr (inr (omega (arith, gt)))

    split : (i j : ℕ) → (i < j) ⊎ ((i ≡ j) ⊎ (j < i))
    split zero zero = inr (inl refl)
    split zero (suc j) = inl (omega arith)
    split (suc i) zero = inr (inr (omega arith))
    split (suc i) (suc j) = step i j (split i j)

-- of two steps one stands before the other, or they are one
related : {P : Type 0} (R : Step → Step → Type 0) (xs : List Step) (a b : Step) → AllPairs R xs → Contains xs a → Contains xs b → (R a b → P) → (a ≡ b → P) → (R b a → P) → P
related R xs a b pairs here there before same behind =
    by_places here.0 there.0
    (λ lt. before (subst (λ (y : Step). R a y) there.2 (subst (λ (x : Step). R x (slice_index_or xs there.0 b)) here.2 (at here.0 there.0 lt there.1))))
    (λ e. same (sym here.2 ∙ read xs here.0 a b here.1 ∙ ap (λ k. slice_index_or xs k b) e ∙ there.2))
    (λ gt. behind (subst (λ (y : Step). R b y) here.2 (subst (λ (x : Step). R x (slice_index_or xs here.0 a)) there.2 (flip there.0 here.0 gt here.1))))
  where
    read : (ys : List Step) (k : ℕ) (d e : Step) → k < length ys → slice_index_or ys k d ≡ slice_index_or ys k e
    read [] k d e low = absurd (omega (arith, low))
    read (y ∷ ys) zero d e low = refl
    read (y ∷ ys) (suc k) d e low = read ys k d e (omega (arith, low))

    at : (i j : ℕ) → i < j → j < length xs → R (slice_index_or xs i a) (slice_index_or xs j b)
    at i j lt low = subst (λ (y : Step). R (slice_index_or xs i a) y) (read xs j a b low) (pairs i j a lt low)

    flip : (i j : ℕ) → i < j → j < length xs → R (slice_index_or xs i b) (slice_index_or xs j a)
    flip i j lt low = subst (λ (y : Step). R (slice_index_or xs i b) y) (read xs j b a low) (pairs i j b lt low)

-- where numbers and worths rise, one worth is below another exactly where its number is
pub rises : (xs : List Step) (a b : Step) → AllPairs (AreInOrder true) xs → Contains xs a → Contains xs b → (a.value <ℤ b.value) ↔ (a.worth <ℤ b.worth)
rises xs a b pairs here there =
    related (AreInOrder true) xs a b pairs here there
    (λ h. (λ low. h.1, λ low. h.0))
    (λ e.
    let v : a.value ≡ b.value = ap (λ (x : Step). x.value) e in
    let w : a.worth ≡ b.worth = ap (λ (x : Step). x.worth) e in
    (λ low. absurd (omega (arith, ints, low, v)), λ low. absurd (omega (arith, ints, low, w))))
    (λ h. (λ low. absurd (omega (arith, ints, low, h.0)), λ low. absurd (omega (arith, ints, low, h.1))))

-- where worths fall, one is below another exactly where its number is above
pub falls : (xs : List Step) (a b : Step) → AllPairs (AreInOrder false) xs → Contains xs a → Contains xs b → (b.value <ℤ a.value) ↔ (a.worth <ℤ b.worth)
falls xs a b pairs here there =
    related (AreInOrder false) xs a b pairs here there
    (λ h. (λ low. absurd (omega (arith, ints, low, h.0)), λ low. absurd (omega (arith, ints, low, h.1))))
    (λ e.
    let v : a.value ≡ b.value = ap (λ (x : Step). x.value) e in
    let w : a.worth ≡ b.worth = ap (λ (x : Step). x.worth) e in
    (λ low. absurd (omega (arith, ints, low, v)), λ low. absurd (omega (arith, ints, low, w))))
    (λ h. (λ low. h.1, λ low. h.0))

-- what a checked difference gives
pub gives : {A : Type 0} (r : Option A) (P : Type 0) (v b : A) → SomeIff r P v → r ≡ Some b → b ≡ v
gives r P v b h e = (subst (λ o. SomeIff o P v) e h).1

-- "less than at this step", where worths rise
pub less_rising : (term : Term) (step : Step) (atom : Atom) (below : ℤ) → term.rising ≡ true → HasOrderedSteps term → Contains term.steps.items step
    → SaysAtMost term.source below atom → below ≡ step.value -ℤ pos 1 → SaysOfTerm term atom (λ worth. worth <ℤ step.worth)
less_rising term step atom below rising ordered there says is =
    let pairs : AllPairs (AreInOrder true) term.steps.items = subst (λ (b : Bool). AllPairs (AreInOrder b) term.steps.items) rising ordered in
    record {
      names = says.names;
      tells = λ values n low whole. All-from_contains (λ (other : Step). source_number values term.source ≡ other.value → (IsTrue (atom_holds values atom) ↔ (other.worth <ℤ step.worth))) term.steps.items
          (λ other here at. let r = rises term.steps.items other step pairs here there in
          let t = said_at_most term.source below atom values n says low whole in (
            λ h. let small : source_number values term.source ≤ℤ below = t.0 h in r.0 (omega (arith, ints, small, at, is)),
            λ w. let small : other.value <ℤ step.value = r.1 w in t.1 (omega (arith, ints, small, at, is)),
          ));
    }

-- "less than at this step", where worths fall
pub less_falling : (term : Term) (step : Step) (atom : Atom) (at : ℤ) → term.rising ≡ false → HasOrderedSteps term → Contains term.steps.items step
    → SaysAbove term.source at atom → at ≡ step.value → SaysOfTerm term atom (λ worth. worth <ℤ step.worth)
less_falling term step atom at falling ordered there says is =
    let pairs : AllPairs (AreInOrder false) term.steps.items = subst (λ (b : Bool). AllPairs (AreInOrder b) term.steps.items) falling ordered in
    record {
      names = says.names;
      tells = λ values n low whole. All-from_contains (λ (other : Step). source_number values term.source ≡ other.value → (IsTrue (atom_holds values atom) ↔ (other.worth <ℤ step.worth))) term.steps.items
          (λ other here number. let r = falls term.steps.items other step pairs here there in
          let t = says.tells values n low whole in (
            λ h. let above : at <ℤ source_number values term.source = t.0 h in r.0 (omega (arith, ints, above, number, is)),
            λ w. let above : step.value <ℤ other.value = r.1 w in t.1 (omega (arith, ints, above, number, is)),
          ));
    }

pub less_rising_ok : {E : Type 0} (r : Result Atom E) (term : Term) (step : Step) (below : ℤ) → term.rising ≡ true → HasOrderedSteps term → Contains term.steps.items step
    → IfOk r (λ atom. SaysAtMost term.source below atom) → below ≡ step.value -ℤ pos 1 → IfOk r (λ atom. SaysOfTerm term atom (λ worth. worth <ℤ step.worth))
less_rising_ok (Ok atom) term step below rising ordered there says is = less_rising term step atom below rising ordered there says is
less_rising_ok (Err e) term step below rising ordered there says is = tt

pub less_falling_ok : {E : Type 0} (r : Result Atom E) (term : Term) (step : Step) (at : ℤ) → term.rising ≡ false → HasOrderedSteps term → Contains term.steps.items step
    → IfOk r (λ atom. SaysAbove term.source at atom) → at ≡ step.value → IfOk r (λ atom. SaysOfTerm term atom (λ worth. worth <ℤ step.worth))
less_falling_ok (Ok atom) term step at falling ordered there says is = less_falling term step atom at falling ordered there says is
less_falling_ok (Err e) term step at falling ordered there says is = tt

read_any : (ys : List Step) (k : ℕ) (d e : Step) → k < length ys → slice_index_or ys k d ≡ slice_index_or ys k e
read_any [] k d e low = absurd (omega (arith, low))
read_any (y ∷ ys) zero d e low = refl
read_any (y ∷ ys) (suc k) d e low = read_any ys k d e (omega (arith, low))

-- bounds on worths, with the number in other words
pub within_same : (xs : List Step) (m most : ℤ) (i n : ℕ) → AllWithin (λ (step : Step). step.worth ≤ℤ m) xs i n → m ≡ most → AllWithin (λ (step : Step). step.worth ≤ℤ most) xs i n
within_same xs m most i n h e = subst (λ (b : ℤ). AllWithin (λ (step : Step). step.worth ≤ℤ b) xs i n) e h

pub above_same : (xs : List Step) (m most : ℤ) (i n : ℕ) → AllWithin (λ (step : Step). m <ℤ step.worth) xs i n → m ≡ most → AllWithin (λ (step : Step). most <ℤ step.worth) xs i n
above_same xs m most i n h e = subst (λ (b : ℤ). AllWithin (λ (step : Step). b <ℤ step.worth) xs i n) e h

-- "at most so much", where worths rise
pub up_rising : (xs : List Step) (count n : ℕ) (most v : ℤ) (from : Source) (first : Step) (atom : Atom) → AllPairs (AreInOrder true) xs → count ≤ length xs → n + 1 ≡ count
    → AllWithin (λ step. step.worth ≤ℤ most) xs 0 count → AllWithin (λ step. most <ℤ step.worth) xs count (length xs) → SaysAtMost from v atom → v ≡ (slice_index_or xs n first).value
    → SaysOfSteps from xs atom (λ worth. worth ≤ℤ most)
up_rising xs count n most v from first atom pairs within next before behind says is = record {
  names = says.names;
  tells = λ values m low whole k d there number. each values k d there (said_at_most from v atom values m says low whole) number;
}
  where
    each : (values : List ℤ) (k : ℕ) (d : Step) → k < length xs → IsTrue (atom_holds values atom) ↔ (source_number values from ≤ℤ v) → source_number values from ≡ (slice_index_or xs k d).value
        → IsTrue (atom_holds values atom) ↔ ((slice_index_or xs k d).worth ≤ℤ most)
    each values k d low t number =
        let here : Step = slice_index_or xs k d in
        let value : v ≡ (slice_index_or xs n d).value = is ∙ ap (λ (x : Step). x.value) (read_any xs n first d (omega arith)) in
        by_places k n
        (λ lt.
        let order = (pairs k n d lt (omega arith)).0 in
        let worth = before k d (omega arith) (omega arith) in
        (λ h. worth, λ h. t.1 (omega (arith, ints, order, value, number))))
        (λ e.
        let worth = before k d (omega arith) (omega arith) in
        let there : here.value ≡ (slice_index_or xs n d).value = ap (λ j. (slice_index_or xs j d).value) e in
        (λ h. worth, λ h. t.1 (omega (arith, ints, there, value, number))))
        (λ gt.
        let order = (pairs n k d gt low).0 in
        let worth = behind k d (omega arith) low in
        (λ h. let below : source_number values from ≤ℤ v = t.0 h in absurd (omega (arith, ints, below, order, value, number)), λ h. absurd (omega (arith, ints, h, worth))))

-- "at most so much", where worths fall
pub up_falling : (xs : List Step) (count : ℕ) (most v : ℤ) (from : Source) (first : Step) (atom : Atom) → AllPairs (AreInOrder false) xs → count < length xs
    → AllWithin (λ step. most <ℤ step.worth) xs 0 count → AllWithin (λ step. step.worth ≤ℤ most) xs count (length xs) → SaysAbove from v atom → v ≡ (slice_index_or xs count first).value -ℤ pos 1
    → SaysOfSteps from xs atom (λ worth. worth ≤ℤ most)
up_falling xs count most v from first atom pairs within before behind says is = record {
  names = says.names;
  tells = λ values m low whole k d there number. each values k d there (says.tells values m low whole) number;
}
  where
    each : (values : List ℤ) (k : ℕ) (d : Step) → k < length xs → IsTrue (atom_holds values atom) ↔ (v <ℤ source_number values from) → source_number values from ≡ (slice_index_or xs k d).value
        → IsTrue (atom_holds values atom) ↔ ((slice_index_or xs k d).worth ≤ℤ most)
    each values k d low t number =
        let here : Step = slice_index_or xs k d in
        let same : (slice_index_or xs count first).value ≡ (slice_index_or xs count d).value = ap (λ (x : Step). x.value) (read_any xs count first d within) in
        by_places k count
        (λ lt.
        let order = (pairs k count d lt within).0 in
        let worth = before k d (omega arith) lt in
        (λ h. let above : v <ℤ source_number values from = t.0 h in absurd (omega (arith, ints, above, order, same, is, number)), λ h. absurd (omega (arith, ints, h, worth))))
        (λ e.
        let worth = behind k d (omega arith) low in
        let there : here.value ≡ (slice_index_or xs count d).value = ap (λ j. (slice_index_or xs j d).value) e in
        (λ h. worth, λ h. t.1 (omega (arith, ints, there, same, is, number))))
        (λ gt.
        let order = (pairs count k d gt low).0 in
        let worth = behind k d (omega arith) low in
        (λ h. worth, λ h. t.1 (omega (arith, ints, order, same, is, number))))

-- the first steps pass a test of worths that rise
pub parted_rising : (xs : List Step) (most : ℤ) → AllPairs (AreInOrder true) xs → IsPartitionedBy (λ (step : Step). int_le step.worth most) xs
parted_rising xs most pairs i j d le low holds =
    by_places i j
    (λ lt. let order = (pairs i j d lt low).1 in is_at_most (slice_index_or xs i d).worth most (omega (arith, ints, order, holds)))
    (λ e. subst (λ k. int_le (slice_index_or xs k d).worth most ≡ true) (sym e) holds)
    (λ gt. absurd (omega arith))

-- the first steps pass a test of worths that fall
pub parted_falling : (xs : List Step) (most : ℤ) → AllPairs (AreInOrder false) xs → IsPartitionedBy (λ (step : Step). int_lt most step.worth) xs
parted_falling xs most pairs i j d le low holds =
    by_places i j
    (λ lt. let order = (pairs i j d lt low).1 in is_below most (slice_index_or xs i d).worth (omega (arith, ints, order, holds)))
    (λ e. subst (λ k. int_lt most (slice_index_or xs k d).worth ≡ true) (sym e) holds)
    (λ gt. absurd (omega arith))

-- the tests' answers as orders
pub within_at_most : (xs : List Step) (most : ℤ) (i n : ℕ) → AllWithin (λ (step : Step). int_le step.worth most ≡ true) xs i n → AllWithin (λ (step : Step). step.worth ≤ℤ most) xs i n
within_at_most xs most i n h k d low high = let e = h k d low high in omega (arith, ints, e)

pub within_above : (xs : List Step) (most : ℤ) (i n : ℕ) → AllWithin (λ (step : Step). int_le step.worth most ≡ false) xs i n → AllWithin (λ (step : Step). most <ℤ step.worth) xs i n
within_above xs most i n h k d low high = let e = h k d low high in omega (arith, ints, e)

pub within_more : (xs : List Step) (most : ℤ) (i n : ℕ) → AllWithin (λ (step : Step). int_lt most step.worth ≡ true) xs i n → AllWithin (λ (step : Step). most <ℤ step.worth) xs i n
within_more xs most i n h k d low high = let e = h k d low high in omega (arith, ints, e)

pub within_up_to : (xs : List Step) (most : ℤ) (i n : ℕ) → AllWithin (λ (step : Step). int_lt most step.worth ≡ false) xs i n → AllWithin (λ (step : Step). step.worth ≤ℤ most) xs i n
within_up_to xs most i n h k d low high = let e = h k d low high in omega (arith, ints, e)

-- a step of the number that a variable has, with what it is worth
pub record Stands (steps : List Step) (x : ℤ) : Type 0 where
  pub step : Step
  pub there : Contains steps step
  pub value : step.value ≡ x
  pub worth : worth_at steps x ≡ step.worth

later : (xs : List Step) (y x : Step) → Contains xs x → Contains (y ∷ xs) x
later xs y x (k, low, at) = (suc k, omega (arith, low), at)

pub stands : (steps : List Step) (x : ℤ) → Contains (map (λ (step : Step). step.value) steps) x → Stands steps x
unfolding worth_at
stands [] x (k, low, at) = absurd (omega (arith, low))
stands (s ∷ steps) x (k, low, at) = by (λ rest. stands steps x rest) (int_eq s.value x) refl
  where
    front : int_eq s.value x ≡ false → (k : ℕ) → k < suc (length (map (λ (step : Step). step.value) steps)) → slice_index_or (s.value ∷ map (λ (step : Step). step.value) steps) k x ≡ x
        → Contains (map (λ (step : Step). step.value) steps) x
    front e zero low at = absurd (let t = (Decides-int_eq s.value x).1 at in cc)
    front e (suc k) low at = (k, omega (arith, low), at)

    by : (Contains (map (λ (step : Step). step.value) steps) x → Stands steps x) → (b : Bool) → int_eq s.value x ≡ b → Stands (s ∷ steps) x
    by again true e = record {
      step = s;
      there = (0, omega arith, refl);
      value = (Decides-int_eq s.value x).0 e;
      worth = ap (λ b. cond b s.worth (worth_at steps x)) e;
    }
    by again false e =
        let rest = again (front e k low at) in
        record {
          step = rest.step;
          there = later steps s rest.step rest.there;
          value = rest.value;
          worth = ap (λ b. cond b s.worth (worth_at steps x)) e ∙ rest.worth;
        }

-- the step of a term of a layout at the number of its source
pub stands_of : (L : List VariableLiterals) (f : Cnf) (term : Term) (values : List ℤ) → IsTermOf L f term → Arise L f values → Stands term.steps.items (source_number values term.source)
stands_of L f term values of_layout arise = stands term.steps.items (source_number values term.source) (of_layout.values values arise)

-- an atom that says something of a term's worth holds exactly where that is so
pub so_said : (L : List VariableLiterals) (f : Cnf) (term : Term) (atom : Atom) (holds : ℤ → Type 0) (values : List ℤ) → IsTermOf L f term → SaysOfTerm term atom holds → Arise L f values → IsTrue (atom_holds values atom) ↔ holds (worth_of values term)
unfolding worth_of
so_said L f term atom holds values of_layout says arise =
    let s = stands_of L f term values of_layout arise in
    let t = All-contains (λ (step : Step). source_number values term.source ≡ step.value → (IsTrue (atom_holds values atom) ↔ holds step.worth)) term.steps.items s.step
    (says.tells values (length L) of_layout.names (of_layout.whole values arise)) s.there (sym s.value) in
    (λ h. subst holds (sym s.worth) (t.0 h), λ h. t.1 (subst holds s.worth h))

-- what the two searches find, as what an atom says of a term
found_says : (from : Source) (xs ys : List Step) (most m : ℤ) (r : Option Atom) → xs ≡ ys → m ≡ most
    → MatchOption r (All (λ (step : Step). m <ℤ step.worth) xs) (λ atom. SaysOfSteps from xs atom (λ worth. worth ≤ℤ m)) → MatchOption r (All (λ (step : Step). most <ℤ step.worth) ys) (λ atom. SaysOfSteps from ys atom (λ worth. worth ≤ℤ most))
found_says from xs ys most m r e same h =
    subst (λ (zs : List Step). MatchOption r (All (λ (step : Step). most <ℤ step.worth) zs) (λ atom. SaysOfSteps from zs atom (λ worth. worth ≤ℤ most))) e
    (subst (λ (n : ℤ). MatchOption r (All (λ (step : Step). n <ℤ step.worth) xs) (λ atom. SaysOfSteps from xs atom (λ worth. worth ≤ℤ n))) same h)

pub found_says_ok : {E : Type 0} (from : Source) (xs ys : List Step) (most m : ℤ) (r : Result (Option Atom) E) → xs ≡ ys → m ≡ most
    → IfOk r (λ found. MatchOption found (All (λ (step : Step). m <ℤ step.worth) xs) (λ atom. SaysOfSteps from xs atom (λ worth. worth ≤ℤ m)))
    → IfOk r (λ found. MatchOption found (All (λ (step : Step). most <ℤ step.worth) ys) (λ atom. SaysOfSteps from ys atom (λ worth. worth ≤ℤ most)))
found_says_ok from xs ys most m (Ok found) e same h = found_says from xs ys most m found e same h
found_says_ok from xs ys most m (Err e') e same h = tt

-- what a search found, with its number in other words
pub never : (term : Term) (most m : ℤ) (r : Option Atom) → r ≡ None → MatchOption r (All (λ (step : Step). m <ℤ step.worth) term.steps.items) (λ atom. SaysOfTerm term atom (λ worth. worth ≤ℤ m)) → m ≡ most
    → All (λ (step : Step). most <ℤ step.worth) term.steps.items
never term most m r e h same =
    subst (λ (n : ℤ). All (λ (step : Step). n <ℤ step.worth) term.steps.items) same
    (subst (λ (o : Option Atom). MatchOption o (All (λ (step : Step). m <ℤ step.worth) term.steps.items) (λ atom. SaysOfTerm term atom (λ worth. worth ≤ℤ m))) e h)

pub says_found : (term : Term) (most m : ℤ) (r : Option Atom) (atom : Atom) → r ≡ Some atom → MatchOption r (All (λ (step : Step). m <ℤ step.worth) term.steps.items) (λ atom. SaysOfTerm term atom (λ worth. worth ≤ℤ m)) → m ≡ most
    → SaysOfTerm term atom (λ worth. worth ≤ℤ most)
says_found term most m r atom e h same =
    subst (λ (n : ℤ). SaysOfTerm term atom (λ worth. worth ≤ℤ n)) same
    (subst (λ (o : Option Atom). MatchOption o (All (λ (step : Step). m <ℤ step.worth) term.steps.items) (λ atom. SaysOfTerm term atom (λ worth. worth ≤ℤ m))) e h)

-- where worths rise: the last step that is worth at most so much is worth less, or there is none
pub none_rising : (xs : List Step) (count n : ℕ) (worth : ℤ) (first : Step) → AllPairs (AreInOrder true) xs → count ≤ length xs
    → AllWithin (λ step. step.worth ≤ℤ worth) xs 0 count → AllWithin (λ step. worth <ℤ step.worth) xs count (length xs) → (count ≡ 0) ⊎ ((n + 1 ≡ count) × ((slice_index_or xs n first).worth <ℤ worth))
    → All (λ step. step.worth ≢ worth) xs
none_rising xs count n worth first pairs within before behind last k d low e =
    by_places k count (λ lt. early lt) (λ is. late (omega (arith, is))) (λ gt. late (omega (arith, gt)))
  where
    late : count ≤ k → ⊥
    late le = let more = behind k d le low in omega (arith, ints, more, e)

    early : k < count → ⊥
    early lt = elim last as (λ _. ⊥) [
      | inl none ↦ omega (arith, lt, none)
      | inr p ↦ by_places k n
          (λ less. let order = (pairs k n d less (omega (arith, within, p.0))).1 in let is = ap (λ (x : Step). x.worth) (read_any xs n first d (omega (arith, within, p.0))) in let small = p.1 in omega (arith, ints, order, is, small, e))
          (λ same. let is = ap (λ (x : Step). x.worth) (read_any xs n first d (omega (arith, within, p.0))) in
          let there = ap (λ j. (slice_index_or xs j d).worth) same in let small = p.1 in omega (arith, ints, there, is, small, e))
          (λ more. let last_is = p.0 in omega (arith, lt, more, last_is))
    ]

-- where worths fall: the first step that is worth at most so much is worth less, or there is none
pub none_falling : (xs : List Step) (count : ℕ) (worth : ℤ) (first : Step) → AllPairs (AreInOrder false) xs
    → AllWithin (λ step. worth <ℤ step.worth) xs 0 count → (length xs ≤ count) ⊎ ((count < length xs) × ((slice_index_or xs count first).worth <ℤ worth))
    → All (λ step. step.worth ≢ worth) xs
none_falling xs count worth first pairs before next k d low e =
    by_places k count (λ lt. let more = before k d (omega arith) lt in omega (arith, ints, more, e)) (λ is. late (inl is)) (λ gt. late (inr gt))
  where
    late : (k ≡ count) ⊎ (count < k) → ⊥
    late far = elim next as (λ _. ⊥) [
      | inl none ↦ elim far as (λ _. ⊥) [ inl is ↦ omega (arith, low, none, is) | inr gt ↦ omega (arith, low, none, gt) ]
      | inr p ↦
          let is = ap (λ (x : Step). x.worth) (read_any xs count first d p.0) in
          let small = p.1 in
          elim far as (λ _. ⊥) [
            | inl same ↦ let there = ap (λ j. (slice_index_or xs j d).worth) same in omega (arith, ints, there, is, small, e)
            | inr gt ↦ let order = (pairs count k d gt low).1 in omega (arith, ints, order, is, small, e)
          ]
    ]

-- a step that is there
pub found_there : (xs : List Step) (k : ℕ) (first step : Step) → k < length xs → slice_index_or xs k first ≡ step → Contains xs step
found_there xs k first step low is = (k, low, read_any xs k step first low ∙ is)

-- what a search for a step found, with its list and its number in other words
pub found_worth : (xs ys : List Step) (m worth : ℤ) (r : Option Step) → xs ≡ ys → m ≡ worth → MatchOption r (All (λ (step : Step). step.worth ≢ m) xs) (λ step. Contains xs step × (step.worth ≡ m))
    → MatchOption r (All (λ (step : Step). step.worth ≢ worth) ys) (λ step. Contains ys step × (step.worth ≡ worth))
found_worth xs ys m worth r e same h =
    subst (λ (zs : List Step). MatchOption r (All (λ (step : Step). step.worth ≢ worth) zs) (λ step. Contains zs step × (step.worth ≡ worth))) e
    (subst (λ (n : ℤ). MatchOption r (All (λ (step : Step). step.worth ≢ n) xs) (λ step. Contains xs step × (step.worth ≡ n))) same h)

-- no step is worth so much
pub none_there : (xs : List Step) (m : ℤ) (r : Option Step) → r ≡ None → MatchOption r (All (λ (step : Step). step.worth ≢ m) xs) (λ step. Contains xs step × (step.worth ≡ m)) → All (λ (step : Step). step.worth ≢ m) xs
none_there xs m r e h = subst (λ (o : Option Step). MatchOption o (All (λ (step : Step). step.worth ≢ m) xs) (λ step. Contains xs step × (step.worth ≡ m))) e h
