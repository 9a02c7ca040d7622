-- How far an index's numbers were read, and runs of those with which no key begins.
use Rattle.std.proofs.Common.{◌≡◌, ◌⊎◌, inl, inr, ◌↔◌, ℕ, zero, suc, ◌+◌, ◌<◌, ◌≤◌, ℤ, pos, ◌≤ℤ◌, ◌<ℤ◌, Bool, true, false, IsTrue, ◌||◌, List, [], ◌∷◌, ◌++◌, length, get_or, slice_index_or, refl, sym, ap, subst, ◌∙◌, arith}
use Rattle.std.specs.Prelude.{Option, Some, None}
use Rattle.std.specs.List.{All, Contains}
use Rattle.std.specs.Ordering.{int_eq}
use Rattle.std.proofs.lemmas.Bool.Decides.{Decides-int_eq}
use Rattle.std.proofs.lemmas.Int.{by_lt_z, ints}
use Rattle.std.proofs.lemmas.List.Elements.{All-push}
use Rattle.cnf_core.specs.Formula.{Cnf}
use Rattle.ep_base.specs.Runs.{IsAscending}
use Rattle.ep_flat.specs.Cons.{is_as_said, number_at}
use Rattle.enc_atoms.proofs.Adding.{adds_both, adds_like, adds_nothing}
use Rattle.enc_atoms.proofs.Decoded.{number_among}
use Rattle.enc_atoms.specs.Atoms.{Adds, AreOfDomains, atom_holds, clause_holds, test_holds}
use Rattle.enc_atoms.specs.declared.atoms.Atom.{Atom}
use Rattle.enc_atoms.specs.declared.atoms.Test.{Test}
use Rattle.enc_var.proofs.Counts.{is_at_most, is_below}
use Rattle.enc_var.specs.Decoding.{VariableLiterals}
use Rattle.enc_var.specs.Layouts.{literals_at}
use Rattle.enc_arith.proofs.Cases.{one_pushed, where_is, where_is_not}
use Rattle.enc_arith.specs.Elements.{IsInRun, IsUpTo, or_outside, or_up_to, rests_after}
use Rattle.enc_arith.specs.Saying.{IsReady, or_is_not, says}

-- ---- what a clause behind further atoms says

-- behind one atom more
unless_atom : (values : List ℤ) (when : List Atom) (a : Atom) (truth : Option ℕ) (h : Bool) → IsTrue (says values (when ++ a ∷ []) truth h) ↔ ((IsTrue (atom_holds values a) → ⊥) → IsTrue (says values when truth h))
unfolding says
unless_atom values when a truth h =
    let e = ap (λ b. b || is_as_said values truth h) (one_pushed values when a) in
    let cases = by (clause_holds values when) (atom_holds values a) (is_as_said values truth h) in
    (λ s. cases.0 (subst IsTrue e s), λ k. subst IsTrue (sym e) (cases.1 k))
  where
    by : (c a s : Bool) → IsTrue ((c || a) || s) ↔ ((IsTrue a → ⊥) → IsTrue (c || s))
    by true a s = (λ k none. refl, λ k. refl)
    by false true s = (λ k none. absurd (none refl), λ k. refl)
    by false false s = (λ k none. k, λ k. k (λ e. cc))

at_most_told : (values : List ℤ) (x : ℕ) (m : ℤ) → IsTrue (atom_holds values (record { var = x; test = Test.AtMost; value = m })) ↔ (number_at values x ≤ℤ m)
unfolding atom_holds test_holds
at_most_told values x m = (λ h. omega (arith, ints, h), λ h. is_at_most (number_at values x) m h)

above_told : (values : List ℤ) (x : ℕ) (m : ℤ) → IsTrue (atom_holds values (record { var = x; test = Test.Above; value = m })) ↔ (m <ℤ number_at values x)
unfolding atom_holds test_holds
above_told values x m = (λ h. omega (arith, ints, h), λ h. is_below m (number_at values x) h)

up_to_told : (values : List ℤ) (when : List Atom) (x : ℕ) (above : Option ℤ) (truth : Option ℕ) (h : Bool)
    → IsTrue (says values (or_up_to when x above) truth h) ↔ ((IsUpTo above (number_at values x) → ⊥) → IsTrue (says values when truth h))
unfolding or_up_to
up_to_told values when x None truth h = (λ s none. s, λ k. k (λ none. none))
up_to_told values when x (Some m) truth h =
    let a = at_most_told values x m in
    let u = unless_atom values when (record { var = x; test = Test.AtMost; value = m }) truth h in
    (λ s none. u.0 s (λ holds. none (a.0 holds)), λ k. u.1 (λ none. k (λ low. none (a.1 low))))

-- clauses behind atoms which say that a variable isn't in a run
pub run_told : (values : List ℤ) (when : List Atom) (x : ℕ) (above : Option ℤ) (last : ℤ) (truth : Option ℕ) (h : Bool)
    → IsTrue (says values (or_outside when x above last) truth h) ↔ (IsInRun above (Some last) (number_at values x) → IsTrue (says values when truth h))
unfolding or_outside
run_told values when x above last truth h =
    let a = above_told values x last in
    let u = unless_atom values (or_up_to when x above) (record { var = x; test = Test.Above; value = last }) truth h in
    let t = up_to_told values when x above truth h in (
      λ s run. t.0 (u.0 s (λ holds. let high = a.0 holds in let low : number_at values x ≤ℤ last = run.up_to in omega (arith, ints, high, low))) run.beyond,
      λ k. u.1 (λ inside. t.1 (λ not_up_to. k (record { beyond = not_up_to; up_to = by_lt_z {P = number_at values x ≤ℤ last} last (number_at values x) (λ high. absurd (inside (a.1 high))) (λ low. low) }))),
    )

-- atoms of variables of a layout, and that one of its variables isn't in a run
pub outside_there : (count : ℕ) (when atoms : List Atom) (x : ℕ) (above : Option ℤ) (last : ℤ) → atoms ≡ or_outside when x above last → All (λ (a : Atom). a.var < count) when → x < count → All (λ (a : Atom). a.var < count) atoms
unfolding or_outside or_up_to
outside_there count when atoms x above last is names low = subst (All (λ (a : Atom). a.var < count)) (sym is) (all_there above)
  where
    one : Test → ℤ → Atom
    one test n = record { var = x; test = test; value = n }

    all_there : (above : Option ℤ) → All (λ (a : Atom). a.var < count) (or_outside when x above last)
    all_there None = All-push (λ (a : Atom). a.var < count) when (one Test.Above last) names low
    all_there (Some n) = All-push (λ (a : Atom). a.var < count) (when ++ one Test.AtMost n ∷ []) (one Test.Above last) (All-push (λ (a : Atom). a.var < count) when (one Test.AtMost n) names low) low

-- where there is no last number there is no run
pub adds_no_run : (L : List VariableLiterals) (f : Cnf) (above last : Option ℤ) (x : ℕ) (S : List ℤ → Type 0) → IsReady L f → last ≡ None → Adds L f L f (λ values. IsInRun above last (number_at values x) → S values)
adds_no_run L f above last x S ready none =
    adds_like L f L f (λ values. Unit {0}) (λ values. IsInRun above last (number_at values x) → S values) ready.is_layout (adds_nothing L f ready.is_layout ready.from_new)
    (λ values among. (λ u run. absurd (subst (λ (o : Option ℤ). IsUpTo o (number_at values x)) none run.up_to), λ h. tt))

-- the clauses of a run
pub adds_run : (L : List VariableLiterals) (f g : Cnf) (when atoms : List Atom) (x : ℕ) (above last : Option ℤ) (n m : ℤ) (truth : Option ℕ) (O : List ℤ → Bool) → IsReady L f → last ≡ Some n → m ≡ n → atoms ≡ or_outside when x above m
    → Adds L f L g (λ values. IsTrue (says values atoms truth (O values)))
    → Adds L f L g (λ values. IsInRun above last (number_at values x) → IsTrue (says values when truth (O values)))
adds_run L f g when atoms x above last n m truth O ready some same is adds =
    subst (λ (o : Option ℤ). Adds L f L g (λ values. IsInRun above o (number_at values x) → IsTrue (says values when truth (O values)))) (sym some)
    (adds_like L f L g (λ values. IsTrue (says values atoms truth (O values))) (λ values. IsInRun above (Some n) (number_at values x) → IsTrue (says values when truth (O values))) ready.is_layout adds
    (λ values among. subst (λ (ys : List Atom). IsTrue (says values ys truth (O values)) ↔ (IsInRun above (Some n) (number_at values x) → IsTrue (says values when truth (O values)))) (sym (is ∙ ap (or_outside when x above) same))
    (run_told values when x above n truth (O values))))

-- ---- how far numbers were read

-- The numbers before a place are up to the one number, or up to the other where no key begins with them, and those from the
-- place on are up to neither.
pub record HasRead (entries : List (List ℤ × ℕ)) (ns : List ℤ) (k : ℕ) (above last : Option ℤ) : Type 0 where
  pub before : (i : ℕ) → i < k → i < length ns → IsUpTo above (get_or ns i (pos 0)) ⊎ (IsUpTo last (get_or ns i (pos 0)) × (rests_after (get_or ns i (pos 0)) entries ≡ []))
  pub behind : (i : ℕ) → k ≤ i → i < length ns → (IsUpTo above (get_or ns i (pos 0)) → ⊥) × (IsUpTo last (get_or ns i (pos 0)) → ⊥)

pub by_places : {P : Type 0} (i j : ℕ) → (i < j → P) → (i ≡ j → P) → (j < i → P) → P
by_places {P} i j less same more = elim (split i j) as (λ _. P) [ inl lt ↦ less lt | inr r ↦ elim r as (λ _. P) [ inl e ↦ same e | inr gt ↦ more gt ] ]
  where
    step : (i j : ℕ) → (i < j) ⊎ ((i ≡ j) ⊎ (j < i)) → (suc i < suc j) ⊎ ((suc i ≡ suc j) ⊎ (suc j < suc i))
    step i j (inl lt) = inl (omega (arith, lt))
    step i j (inr (inl e)) = inr (inl (ap suc e))
    step i j (inr (inr gt)) = inr (inr (omega (arith, gt)))

    split : (i j : ℕ) → (i < j) ⊎ ((i ≡ j) ⊎ (j < i))
    split zero zero = inr (inl refl)
    split zero (suc j) = inl (omega arith)
    split (suc i) zero = inr (inr (omega arith))
    split (suc i) (suc j) = step i j (split i j)

-- none was read
pub read_none : (entries : List (List ℤ × ℕ)) (ns : List ℤ) → HasRead entries ns 0 None None
read_none entries ns = record {
  before = λ i low there. absurd (omega (arith, low));
  behind = λ i far there. (λ h. h, λ h. h);
}

-- one more was read with which no key begins
pub read_run : (entries : List (List ℤ × ℕ)) (ns : List ℤ) (k : ℕ) (above last : Option ℤ) (n : ℤ) → IsAscending ns → k < length ns → n ≡ get_or ns k (pos 0) → rests_after n entries ≡ []
    → HasRead entries ns k above last → HasRead entries ns (k + 1) above (Some n)
read_run entries ns k above last n ascending here at none read = record {
  before = λ i low there. by_places i k
      (λ lt. elim (read.before i lt there) as (λ _. IsUpTo above (get_or ns i (pos 0)) ⊎ ((get_or ns i (pos 0) ≤ℤ n) × (rests_after (get_or ns i (pos 0)) entries ≡ []))) [
        | inl a ↦ inl a
        | inr p ↦ let order = ascending i k (pos 0) lt here in inr (omega (arith, ints, order, at), p.1)
      ])
      (λ e.
      let same : n ≡ get_or ns i (pos 0) = at ∙ ap (λ j. get_or ns j (pos 0)) (sym e) in
      inr (omega (arith, ints, same), subst (λ m. rests_after m entries ≡ []) same none))
      (λ gt. absurd (omega (arith, low, gt)));
  behind = λ i far there. (
    (read.behind i (omega (arith, far)) there).0,
    λ low. let order = ascending k i (pos 0) (omega (arith, far)) there in omega (arith, ints, low, order, at),
  );
}

-- one more was read with which a key begins
pub read_key : (entries : List (List ℤ × ℕ)) (ns : List ℤ) (k : ℕ) (n : ℤ) → IsAscending ns → k < length ns → n ≡ get_or ns k (pos 0) → HasRead entries ns (k + 1) (Some n) None
read_key entries ns k n ascending here at = record {
  before = λ i low there. by_places i k
      (λ lt. let order = ascending i k (pos 0) lt here in inl (omega (arith, ints, order, at)))
      (λ e. let same : n ≡ get_or ns i (pos 0) = at ∙ ap (λ j. get_or ns j (pos 0)) (sym e) in inl (omega (arith, ints, same)))
      (λ gt. absurd (omega (arith, low, gt)));
  behind = λ i far there. (
    λ low. let order = ascending k i (pos 0) (omega (arith, far)) there in omega (arith, ints, low, order, at),
    λ h. h,
  );
}

-- where a number stands
record StandsAt (ns : List ℤ) (v : ℤ) : Type 0 where
  place : ℕ
  there : place < length ns
  is : get_or ns place (pos 0) ≡ v

stands_at : (ns : List ℤ) (v : ℤ) → Contains ns v → StandsAt ns v
stands_at ns v (k, low, at) = record { place = k; there = low; is = read_any ns k (pos 0) v low ∙ at }
  where
    read_any : (ys : List ℤ) (k : ℕ) (d e : ℤ) → k < length ys → slice_index_or ys k d ≡ slice_index_or ys k e
    read_any [] k d e low = absurd (omega (arith, low))
    read_any (y ∷ ys) zero d e low = refl
    read_any (y ∷ ys) (suc k) d e low = read_any ys k d e (omega (arith, low))

-- a number is up to another, or it isn't
either_way : (most : Option ℤ) (n : ℤ) → IsUpTo most n ⊎ (IsUpTo most n → ⊥)
either_way None n = inr (λ h. h)
either_way (Some m) n = by_lt_z m n (λ high. inr (λ low. omega (arith, ints, high, low))) (λ low. inl low)

-- what was said up to the one number, and what is said in the run, is all that was to be said of the numbers before
before_told : (entries : List (List ℤ × ℕ)) (ns : List ℤ) (k : ℕ) (above last : Option ℤ) (v : ℤ) (S : Bool → Type 0) (O P : Bool) → HasRead entries ns k above last → (i : ℕ) → i < k → i < length ns → get_or ns i (pos 0) ≡ v
    → (rests_after v entries ≡ [] → O ≡ P) → (IsUpTo above v → S P) → (IsInRun above last v → S O) → S P
before_told entries ns k above last v S O P read i low there is same up_to in_run =
    let b = subst (λ n. IsUpTo above n ⊎ (IsUpTo last n × (rests_after n entries ≡ []))) is (read.before i low there) in
    elim (either_way above v) as (λ _. S P) [
      | inl a ↦ up_to a
      | inr none ↦ elim b as (λ _. S P) [ inl a ↦ up_to a | inr p ↦ subst S (same p.1) (in_run (record { beyond = none; up_to = p.0 })) ]
    ]

-- where all that was to be said of a number is said, the run says no more
in_run_told : (entries : List (List ℤ × ℕ)) (ns : List ℤ) (k : ℕ) (above last : Option ℤ) (v : ℤ) (S : Bool → Type 0) (O P : Bool) → HasRead entries ns k above last → StandsAt ns v
    → (rests_after v entries ≡ [] → O ≡ P) → S P → IsInRun above last v → S O
in_run_told entries ns k above last v S O P read stands same said run =
    by_places stands.place k
    (λ lt. elim (subst (λ n. IsUpTo above n ⊎ (IsUpTo last n × (rests_after n entries ≡ []))) stands.is (read.before stands.place lt stands.there)) as (λ _. S O) [
      | inl a ↦ absurd (run.beyond a)
      | inr p ↦ subst S (sym (same p.1)) said
    ])
    (λ e. absurd ((read.behind stands.place (omega (arith, e)) stands.there).1 (subst (λ n. IsUpTo last n) (sym stands.is) run.up_to)))
    (λ gt. absurd ((read.behind stands.place (omega (arith, gt)) stands.there).1 (subst (λ n. IsUpTo last n) (sym stands.is) run.up_to)))

-- what is read before a number lies below it
below_there : (entries : List (List ℤ × ℕ)) (ns : List ℤ) (k : ℕ) (above last : Option ℤ) (n v : ℤ) → IsAscending ns → k < length ns → n ≡ get_or ns k (pos 0) → HasRead entries ns k above last → StandsAt ns v
    → IsUpTo above v ⊎ IsUpTo last v → v ≤ℤ n
below_there entries ns k above last n v ascending here at read stands up_to =
    by_places {P = v ≤ℤ n} stands.place k
    (λ lt. let order = ascending stands.place k (pos 0) lt here in let is = stands.is in omega (arith, ints, order, at, is))
    (λ e. absurd (far (omega (arith, e))))
    (λ gt. absurd (far (omega (arith, gt))))
  where
    far : k ≤ stands.place → ⊥
    far le =
        let b = read.behind stands.place le stands.there in
        elim up_to as (λ _. ⊥) [ inl a ↦ b.0 (subst (λ m. IsUpTo above m) (sym stands.is) a) | inr l ↦ b.1 (subst (λ m. IsUpTo last m) (sym stands.is) l) ]

-- no number was read
pub adds_unread : (L : List VariableLiterals) (f : Cnf) (x : ℕ) (S : List ℤ → Type 0) → IsReady L f → Adds L f L f (λ values. IsUpTo None (number_at values x) → S values)
adds_unread L f x S ready =
    adds_like L f L f (λ values. Unit {0}) (λ values. IsUpTo None (number_at values x) → S values) ready.is_layout (adds_nothing L f ready.is_layout ready.from_new)
    (λ values among. (λ u none. absurd none, λ h. tt))

-- one more number was read with which a key begins
pub adds_key : (L : List VariableLiterals) (f f1 f2 g : Cnf) (when : List Atom) (x : ℕ) (truth : Option ℕ) (O : List ℤ → Bool) (P : List ℤ → ℤ → Bool) (entries : List (List ℤ × ℕ)) (ns : List ℤ) (k : ℕ) (above last : Option ℤ) (n : ℤ)
    → IsReady L f → x < length L → ns ≡ (literals_at L x).domain → IsAscending ns → k < length ns → n ≡ get_or ns k (pos 0) → HasRead entries ns k above last
    → ((values : List ℤ) (m : ℤ) → rests_after m entries ≡ [] → O values ≡ P values m)
    → Adds L f L f1 (λ values. IsUpTo above (number_at values x) → IsTrue (says values when truth (P values (number_at values x))))
    → Adds L f1 L f2 (λ values. IsInRun above last (number_at values x) → IsTrue (says values when truth (O values)))
    → Adds L f2 L g (λ values. IsTrue (says values (or_is_not when x n) truth (P values n)))
    → Adds L f L g (λ values. IsUpTo (Some n) (number_at values x) → IsTrue (says values when truth (P values (number_at values x))))
adds_key L f f1 f2 g when x truth O P entries ns k above last n ready there domain ascending here at read keyless one two three =
    let A : List ℤ → Type 0 = λ values. IsUpTo above (number_at values x) → IsTrue (says values when truth (P values (number_at values x))) in
    let B : List ℤ → Type 0 = λ values. IsInRun above last (number_at values x) → IsTrue (says values when truth (O values)) in
    let C : List ℤ → Type 0 = λ values. IsTrue (says values (or_is_not when x n) truth (P values n)) in
    adds_like L f L g (λ values. (A values × B values) × C values) (λ values. IsUpTo (Some n) (number_at values x) → IsTrue (says values when truth (P values (number_at values x)))) ready.is_layout
    (adds_both L f f2 L g (λ values. A values × B values) C ready.is_layout (adds_both L f f1 L f2 A B ready.is_layout one two) three)
    (λ values among. (forth values among, back values among))
  where
    stands : (values : List ℤ) → AreOfDomains L values → StandsAt ns (number_at values x)
    stands values among = stands_at ns (number_at values x) (subst (λ ms. Contains ms (number_at values x)) (sym domain) (number_among L values x among there))

    said : (values : List ℤ) → Bool → Type 0
    said values b = IsTrue (says values when truth b)

    at_number : (values : List ℤ) → number_at values x ≡ n → IsTrue (says values (or_is_not when x n) truth (P values n)) ↔ said values (P values (number_at values x))
    at_number values e =
        let told : says values (or_is_not when x n) truth (P values n) ≡ says values when truth (P values (number_at values x)) =
        where_is values when x n truth (P values n) ((Decides-int_eq (number_at values x) n).1 e) ∙ ap (λ m. says values when truth (P values m)) (sym e) in
        (λ h. subst IsTrue told h, λ h. subst IsTrue (sym told) h)

    forth : (values : List ℤ) → AreOfDomains L values
        → ((IsUpTo above (number_at values x) → said values (P values (number_at values x))) × (IsInRun above last (number_at values x) → said values (O values))) × IsTrue (says values (or_is_not when x n) truth (P values n))
        → number_at values x ≤ℤ n → said values (P values (number_at values x))
    forth values among h low =
        let s = stands values among in
        by_places {P = said values (P values (number_at values x))} s.place k
        (λ lt. before_told entries ns k above last (number_at values x) (said values) (O values) (P values (number_at values x)) read s.place lt s.there s.is (keyless values (number_at values x)) h.0.0 h.0.1)
        (λ e. (at_number values (sym s.is ∙ ap (λ j. get_or ns j (pos 0)) e ∙ sym at)).0 h.1)
        (λ gt. absurd (let order = ascending k s.place (pos 0) gt s.there in let is = s.is in omega (arith, ints, order, is, at, low)))

    by_number : (values : List ℤ) → (number_at values x ≤ℤ n → said values (P values (number_at values x))) → (b : Bool) → int_eq (number_at values x) n ≡ b → IsTrue (says values (or_is_not when x n) truth (P values n))
    by_number values h true e = let same : number_at values x ≡ n = (Decides-int_eq (number_at values x) n).0 e in (at_number values same).1 (h (omega (arith, ints, same)))
    by_number values h false e = where_is_not values when x n truth (P values n) e

    back : (values : List ℤ) → AreOfDomains L values → (number_at values x ≤ℤ n → said values (P values (number_at values x)))
        → ((IsUpTo above (number_at values x) → said values (P values (number_at values x))) × (IsInRun above last (number_at values x) → said values (O values))) × IsTrue (says values (or_is_not when x n) truth (P values n))
    back values among h =
        let s = stands values among in (
          (
            λ a. h (below_there entries ns k above last n (number_at values x) ascending here at read s (inl a)),
            λ run. in_run_told entries ns k above last (number_at values x) (said values) (O values) (P values (number_at values x)) read s (keyless values (number_at values x))
                (h (below_there entries ns k above last n (number_at values x) ascending here at read s (inr run.up_to))) run,
          ),
          by_number values h (int_eq (number_at values x) n) refl,
        )

-- all numbers were read
pub adds_read : (L : List VariableLiterals) (f f1 g : Cnf) (when : List Atom) (x : ℕ) (truth : Option ℕ) (O : List ℤ → Bool) (P : List ℤ → ℤ → Bool) (entries : List (List ℤ × ℕ)) (ns : List ℤ) (k : ℕ) (above last : Option ℤ)
    → IsReady L f → x < length L → ns ≡ (literals_at L x).domain → length ns ≤ k → HasRead entries ns k above last
    → ((values : List ℤ) (m : ℤ) → rests_after m entries ≡ [] → O values ≡ P values m)
    → Adds L f L f1 (λ values. IsUpTo above (number_at values x) → IsTrue (says values when truth (P values (number_at values x))))
    → Adds L f1 L g (λ values. IsInRun above last (number_at values x) → IsTrue (says values when truth (O values)))
    → Adds L f L g (λ values. IsTrue (says values when truth (P values (number_at values x))))
adds_read L f f1 g when x truth O P entries ns k above last ready there domain long read keyless one two =
    let A : List ℤ → Type 0 = λ values. IsUpTo above (number_at values x) → IsTrue (says values when truth (P values (number_at values x))) in
    let B : List ℤ → Type 0 = λ values. IsInRun above last (number_at values x) → IsTrue (says values when truth (O values)) in
    adds_like L f L g (λ values. A values × B values) (λ values. IsTrue (says values when truth (P values (number_at values x)))) ready.is_layout (adds_both L f f1 L g A B ready.is_layout one two)
    (λ values among.
    let s = stands_at ns (number_at values x) (subst (λ ms. Contains ms (number_at values x)) (sym domain) (number_among L values x among there)) in
    let S : Bool → Type 0 = λ b. IsTrue (says values when truth b) in (
      λ h. before_told entries ns k above last (number_at values x) S (O values) (P values (number_at values x)) read s.place (omega (arith, long, s.there)) s.there s.is (keyless values (number_at values x)) h.0 h.1,
      λ h. (λ a. h, λ run. in_run_told entries ns k above last (number_at values x) S (O values) (P values (number_at values x)) read s (keyless values (number_at values x)) h run),
    ))
