-- Terms that are made of a variable and a coefficient, and terms with each worth turned into its opposite.
use Rattle.std.proofs.Common.{◌≡◌, ◌≢◌, ◌⊎◌, inl, inr, ◌↔◌, ℕ, zero, suc, ◌+◌, ◌<◌, ◌≤◌, ℤ, pos, negsuc, neg_ℤ, ◌+ℤ◌, ◌*ℤ◌, ◌<ℤ◌, ◌≤ℤ◌, Bool, true, false, not, cond, List, [], ◌∷◌, ◌++◌, length, map, take, get_or, int_lt, int_le, if◌then◌else◌, slice_index_or, refl, sym, ap, subst, ◌∙◌, arith}
use Rattle.std.specs.List.{AllPairs, Contains}
use Rattle.std.specs.Ordering.{int_eq}
use Rattle.std.proofs.lemmas.Bool.Decides.{Decides-int_eq}
use Rattle.std.proofs.Math.Nat.{mul-lt-mul_of_pos_left}
use Rattle.std.proofs.lemmas.Int.{ints}
use Rattle.std.proofs.lemmas.List.{length-map, map-append, take_all, take_more}
use Rattle.std.proofs.lemmas.List.Elements.{All-contains, All-map}
use Rattle.enc_atoms.proofs.Decoded.{number_among}
use Rattle.enc_atoms.specs.Atoms.{AreOfDomains}
use Rattle.cnf_core.specs.Formula.{Cnf}
use Rattle.enc_linear.specs.declared.sources.Source.{Source}
use Rattle.enc_linear.specs.declared.sources.Source.TheVariants as source
use Rattle.enc_linear.specs.declared.terms.Step.{Step}
use Rattle.enc_linear.specs.declared.terms.Term.{Term}
use Rattle.enc_linear.specs.Bounds.{IsRaised, raised, raised_step}
use Rattle.enc_linear.specs.Sources.{IsSourceBelow, IsWhole, source_number}
use Rattle.enc_linear.specs.Terms.{AreInOrder, Arise, HoldsSteps, IsMirror, IsTermOf, mirrored_step, step_of, worth_at, worth_of}
use Rattle.enc_linear.proofs.Ladders.{stands}
use Rattle.enc_var.specs.Decoding.{VariableLiterals}
use Rattle.enc_var.specs.Layouts.{literals_at}
use Rattle.ep_base.specs.Runs.{IsAscending}
use Rattle.ep_flat.specs.Cons.{number_at}

pub product_rises : (a v w : ℤ) → pos 0 <ℤ a → v <ℤ w → (a *ℤ v) <ℤ (a *ℤ w)
product_rises (pos k) (pos x) (pos y) up low = let m = mul-lt-mul_of_pos_left {m = x} {n = y} {k = k} (omega (arith, ints, low)) (omega (arith, ints, up)) in omega (arith, ints, m)
product_rises (pos k) (negsuc x) (pos y) up low = let m = mul-lt-mul_of_pos_left {m = 0} {n = suc x} {k = k} (omega arith) (omega (arith, ints, up)) in omega (arith, ints, m)
product_rises (pos k) (pos x) (negsuc y) up low = absurd (omega (arith, ints, low))
product_rises (pos k) (negsuc x) (negsuc y) up low = let m = mul-lt-mul_of_pos_left {m = suc y} {n = suc x} {k = k} (omega (arith, ints, low)) (omega (arith, ints, up)) in omega (arith, ints, m)
product_rises (negsuc k) v w up low = absurd (omega (arith, ints, up))

pub product_falls : (a v w : ℤ) → a <ℤ pos 0 → v <ℤ w → (a *ℤ w) <ℤ (a *ℤ v)
product_falls (pos k) v w down low = absurd (omega (arith, ints, down))
product_falls (negsuc k) (pos x) (pos y) down low = let m = mul-lt-mul_of_pos_left {m = x} {n = y} {k = suc k} (omega (arith, ints, low)) (omega arith) in omega (arith, ints, m)
product_falls (negsuc k) (negsuc x) (pos y) down low = let m = mul-lt-mul_of_pos_left {m = 0} {n = suc x} {k = suc k} (omega arith) (omega arith) in omega (arith, ints, m)
product_falls (negsuc k) (pos x) (negsuc y) down low = absurd (omega (arith, ints, low))
product_falls (negsuc k) (negsuc x) (negsuc y) down low = let m = mul-lt-mul_of_pos_left {m = suc y} {n = suc x} {k = suc k} (omega (arith, ints, low)) (omega arith) in omega (arith, ints, m)

map_at : {A B : Type 0} (f : A → B) (xs : List A) (e : A) (i : ℕ) (d : B) → i < length (map f xs) → get_or (map f xs) i d ≡ f (get_or xs i e)
map_at f [] e i d low = absurd (omega (arith, low))
map_at f (x ∷ xs) e zero d low = refl
map_at f (x ∷ xs) e (suc i) d low = map_at f xs e i d (omega (arith, low))

-- pairs in a relation stay in one that it implies
pub pairs_map : {A B : Type 0} (f : A → B) (R : A → A → Type 0) (S : B → B → Type 0) (xs : List A) (e : A) → ((x y : A) → R x y → S (f x) (f y)) → AllPairs R xs → AllPairs S (map f xs)
pairs_map {A} {B} f R S xs e imply pairs i j d lt low =
    let there : j < length xs = omega (arith, low, length-map xs f) in
    subst (λ (y : B). S (get_or (map f xs) i d) y) (sym (map_at f xs e j d low))
    (subst (λ (x : B). S x (f (get_or xs j e))) (sym (map_at f xs e i d (omega (arith, lt, low)))) (imply (get_or xs i e) (get_or xs j e) (pairs i j e lt there)))

no_step : Step
no_step = record { value = pos 0; worth = pos 0 }

-- the steps of a variable with a coefficient
values_of : (a : ℤ) (xs : List ℤ) → map (λ (step : Step). step.value) (map (step_of a) xs) ≡ xs
unfolding step_of
values_of a [] = refl
values_of a (x ∷ xs) = ap (λ ys. x ∷ ys) (values_of a xs)

steps_order : (a x y : ℤ) (rising : Bool) → rising ≡ int_lt (pos 0) a → a ≢ pos 0 → x <ℤ y → AreInOrder rising (step_of a x) (step_of a y)
unfolding step_of
steps_order a x y true is other low = (low, product_rises a x y (omega (arith, ints, is)) low)
steps_order a x y false is other low = (low, product_falls a x y (omega (arith, ints, is, other)) low)

pub multiple_of : (L : List VariableLiterals) (a : ℤ) (xs : List ℤ) (x : ℕ) (term : Term) → term.source ≡ source.Variable x → x < length L → xs ≡ (literals_at L x).domain → IsAscending xs → a ≢ pos 0 → term.rising ≡ int_lt (pos 0) a
    → term.steps.items ≡ map (step_of a) xs → HoldsSteps term.bounds term.steps.items → (f : Cnf) → IsTermOf L f term
unfolding source_number
multiple_of L a xs x term at low is up other rising steps bounds f = record {
  names = subst (IsSourceBelow (length L)) (sym at) low;
  whole = λ values arise. subst (IsWhole values) (sym at) tt;
  values = λ values arise. subst (λ (from : Source). Contains (map (λ (step : Step). step.value) term.steps.items) (source_number values from)) (sym at)
      (subst (λ ys. Contains ys (number_at values x)) (sym is ∙ sym (ap (map (λ (step : Step). step.value)) steps ∙ values_of a xs)) (number_among L values x arise.among low));
  ordered = subst (AllPairs (AreInOrder term.rising)) (sym steps) (pairs_map (step_of a) ◌<ℤ◌ (AreInOrder term.rising) xs (pos 0) (λ x y h. steps_order a x y term.rising rising other h) up);
  bounds = bounds;
}

multiple_worth : (a : ℤ) (xs : List ℤ) (x : ℤ) → Contains xs x → worth_at (map (step_of a) xs) x ≡ a *ℤ x
unfolding step_of
multiple_worth a xs x found =
    let s = stands (map (step_of a) xs) x (subst (λ ys. Contains ys x) (sym (values_of a xs)) found) in
    s.worth ∙ All-contains (λ (step : Step). step.worth ≡ a *ℤ step.value) (map (step_of a) xs) s.step (All-map (λ (step : Step). step.worth ≡ a *ℤ step.value) (step_of a) xs (λ k d low. refl)) s.there
    ∙ ap (λ v. a *ℤ v) s.value

pub multiple_is : (L : List VariableLiterals) (a : ℤ) (xs : List ℤ) (x : ℕ) (term : Term) (values : List ℤ) → term.source ≡ source.Variable x → x < length L → xs ≡ (literals_at L x).domain → term.steps.items ≡ map (step_of a) xs → AreOfDomains L values
    → worth_of values term ≡ a *ℤ number_at values x
unfolding worth_of source_number
multiple_is L a xs x term values at low is steps among =
    ap (λ (ys : List Step). worth_at ys (source_number values term.source)) steps ∙ ap (λ (from : Source). worth_at (map (step_of a) xs) (source_number values from)) at
    ∙ multiple_worth a xs (number_at values x) (subst (λ ys. Contains ys (number_at values x)) (sym is) (number_among L values x among low))

-- a term and its mirror
mirrored_values : (xs : List Step) → map (λ (step : Step). step.value) (map mirrored_step xs) ≡ map (λ (step : Step). step.value) xs
unfolding mirrored_step
mirrored_values [] = refl
mirrored_values (x ∷ xs) = ap (λ ys. x.value ∷ ys) (mirrored_values xs)

mirrored_order : (x y : Step) (rising : Bool) → AreInOrder rising x y → AreInOrder (not rising) (mirrored_step x) (mirrored_step y)
unfolding mirrored_step
mirrored_order x y true h = (h.0, omega (arith, ints, h.1))
mirrored_order x y false h = (h.0, omega (arith, ints, h.1))

pub mirror_of : (L : List VariableLiterals) (f : Cnf) (term twin : Term) → IsTermOf L f term → IsMirror term twin → IsTermOf L f twin
mirror_of L f term twin of_layout mirror = record {
  names = subst (IsSourceBelow (length L)) (sym mirror.source) of_layout.names;
  whole = λ values arise. subst (IsWhole values) (sym mirror.source) (of_layout.whole values arise);
  values = λ values arise. subst (λ (from : Source). Contains (map (λ (step : Step). step.value) twin.steps.items) (source_number values from)) (sym mirror.source)
      (subst (λ ys. Contains ys (source_number values term.source)) (sym (ap (map (λ (step : Step). step.value)) mirror.steps ∙ mirrored_values term.steps.items)) (of_layout.values values arise));
  ordered = subst (λ (b : Bool). AllPairs (AreInOrder b) twin.steps.items) (sym mirror.rising)
      (subst (AllPairs (AreInOrder (not term.rising))) (sym mirror.steps)
      (pairs_map mirrored_step (AreInOrder term.rising) (AreInOrder (not term.rising)) term.steps.items no_step (λ x y h. mirrored_order x y term.rising h) of_layout.ordered));
  bounds = mirror.bounds;
}

mirrored_worth : (xs : List Step) (x : ℤ) → worth_at (map mirrored_step xs) x ≡ neg_ℤ (worth_at xs x)
unfolding worth_at mirrored_step
mirrored_worth [] x = refl
mirrored_worth (s ∷ xs) x = by (int_eq s.value x) (mirrored_worth xs x)
  where
    by : (b : Bool) → worth_at (map mirrored_step xs) x ≡ neg_ℤ (worth_at xs x) → cond b (neg_ℤ s.worth) (worth_at (map mirrored_step xs) x) ≡ neg_ℤ (cond b s.worth (worth_at xs x))
    by true h = refl
    by false h = h

pub mirror_worth : (values : List ℤ) (term twin : Term) → IsMirror term twin → worth_of values twin ≡ neg_ℤ (worth_of values term)
unfolding worth_of
mirror_worth values term twin mirror =
    ap (λ (xs : List Step). worth_at xs (source_number values twin.source)) mirror.steps ∙ mirrored_worth term.steps.items (source_number values twin.source)
    ∙ ap (λ (from : Source). neg_ℤ (worth_at term.steps.items (source_number values from))) mirror.source

-- one element more of a list that is made element by element
pub map_more : {A B : Type 0} (f : A → B) (xs : List A) (i : ℕ) (d : A) (old new : List B) (y : B) → i < length xs → old ≡ map f (take i xs) → new ≡ old ++ y ∷ [] → y ≡ f (get_or xs i d) → new ≡ map f (take (i + 1) xs)
map_more f xs i d old new y low before pushed is =
    pushed ∙ ap (λ ys. ys ++ y ∷ []) before ∙ ap (λ z. map f (take i xs) ++ z ∷ []) is ∙ sym (map-append f (take i xs) (get_or xs i d ∷ [])) ∙ ap (map f) (sym (take_more xs i d low))

-- all elements
pub map_all : {A B : Type 0} (f : A → B) (xs : List A) (i : ℕ) (made : List B) → length xs ≤ i → made ≡ map f (take i xs) → made ≡ map f xs
map_all f xs i made long is = is ∙ ap (map f) (take_all i xs long)

abbrev pub a_step : ℤ → ℤ → Step
a_step v w = record { value = v; worth = w }

pub made_step : (a v x y w v' w' : ℤ) → w ≡ x *ℤ y → x ≡ a → y ≡ v → v' ≡ v → w' ≡ w → a_step v' w' ≡ step_of a v
unfolding step_of
made_step a v x y w v' w' is first second same_value same_worth =
    ap (λ n. a_step n w') same_value ∙ ap (a_step v) (same_worth ∙ is ∙ ap (λ n. n *ℤ y) first ∙ ap (λ n. a *ℤ n) second)

pub made_opposite : (step : Step) (w v' w' : ℤ) → w ≡ neg_ℤ step.worth → v' ≡ step.value → w' ≡ w → a_step v' w' ≡ mirrored_step step
unfolding mirrored_step
made_opposite step w v' w' is same_value same_worth = ap (λ n. a_step n w') same_value ∙ ap (a_step step.value) (same_worth ∙ is)

pub step_same : (a b v w : ℤ) (step : Step) → step ≡ step_of a v → a ≡ b → v ≡ w → step ≡ step_of b w
step_same a b v w step is first second = is ∙ ap (λ n. step_of n v) first ∙ ap (step_of b) second

-- a term and what it is worth raised
raised_values : (from by : ℤ) (xs : List Step) → map (λ (step : Step). step.value) (map (raised_step from by) xs) ≡ map (λ (step : Step). step.value) xs
unfolding raised_step
raised_values from by [] = refl
raised_values from by (x ∷ xs) = ap (λ ys. x.value ∷ ys) (raised_values from by xs)

-- what is worth more is so when raised
pub raised_rises : (from by v w : ℤ) → pos 0 ≤ℤ by → v <ℤ w → raised from by v <ℤ raised from by w
unfolding raised
raised_rises from by v w natural low = at (int_le from v) (int_le from w) refl refl
  where
    at : (p q : Bool) → int_le from v ≡ p → int_le from w ≡ q → (if p then v +ℤ by else v) <ℤ (if q then w +ℤ by else w)
    at true true e h = omega (arith, ints, low)
    at true false e h = absurd (omega (arith, ints, e, h, low))
    at false true e h = omega (arith, ints, low, natural)
    at false false e h = low

raised_order : (from by : ℤ) (x y : Step) (rising : Bool) → pos 0 ≤ℤ by → AreInOrder rising x y → AreInOrder rising (raised_step from by x) (raised_step from by y)
unfolding raised_step
raised_order from by x y true natural h = (h.0, raised_rises from by x.worth y.worth natural h.1)
raised_order from by x y false natural h = (h.0, raised_rises from by y.worth x.worth natural h.1)

pub raised_of : (L : List VariableLiterals) (f : Cnf) (from by : ℤ) (term high : Term) → pos 0 ≤ℤ by → IsTermOf L f term → IsRaised from by term high → IsTermOf L f high
raised_of L f from by term high natural of_layout is = record {
  names = subst (IsSourceBelow (length L)) (sym is.source) of_layout.names;
  whole = λ values arise. subst (IsWhole values) (sym is.source) (of_layout.whole values arise);
  values = λ values arise. subst (λ (one : Source). Contains (map (λ (step : Step). step.value) high.steps.items) (source_number values one)) (sym is.source)
      (subst (λ ys. Contains ys (source_number values term.source)) (sym (ap (map (λ (step : Step). step.value)) is.steps ∙ raised_values from by term.steps.items)) (of_layout.values values arise));
  ordered = subst (λ (b : Bool). AllPairs (AreInOrder b) high.steps.items) (sym is.rising)
      (subst (AllPairs (AreInOrder term.rising)) (sym is.steps)
      (pairs_map (raised_step from by) (AreInOrder term.rising) (AreInOrder term.rising) term.steps.items no_step (λ x y h. raised_order from by x y term.rising natural h) of_layout.ordered));
  bounds = is.bounds;
}

raised_worth_at : (from by : ℤ) (xs : List Step) (x : ℤ) → Contains (map (λ (step : Step). step.value) xs) x → worth_at (map (raised_step from by) xs) x ≡ raised from by (worth_at xs x)
unfolding worth_at raised_step
raised_worth_at from by [] x (k, low, at) = absurd (omega (arith, low))
raised_worth_at from by (s ∷ xs) x (k, low, at) = cases (λ rest. raised_worth_at from by xs x rest) (int_eq s.value x) refl
  where
    front : int_eq s.value x ≡ false → (k : ℕ) → k < suc (length (map (λ (step : Step). step.value) xs)) → slice_index_or (s.value ∷ map (λ (step : Step). step.value) xs) k x ≡ x
        → Contains (map (λ (step : Step). step.value) xs) x
    front e zero low at = absurd (let t = (Decides-int_eq s.value x).1 at in cc)
    front e (suc k) low at = (k, omega (arith, low), at)

    cases : (Contains (map (λ (step : Step). step.value) xs) x → worth_at (map (raised_step from by) xs) x ≡ raised from by (worth_at xs x)) → (b : Bool) → int_eq s.value x ≡ b
        → cond b (raised from by s.worth) (worth_at (map (raised_step from by) xs) x) ≡ raised from by (cond b s.worth (worth_at xs x))
    cases again true e = refl
    cases again false e = again (front e k low at)

pub raised_worth : (L : List VariableLiterals) (f : Cnf) (from by : ℤ) (values : List ℤ) (term high : Term) → IsTermOf L f term → Arise L f values → IsRaised from by term high → worth_of values high ≡ raised from by (worth_of values term)
unfolding worth_of
raised_worth L f from by values term high of_layout arise is =
    ap (λ (xs : List Step). worth_at xs (source_number values high.source)) is.steps
    ∙ ap (λ (one : Source). worth_at (map (raised_step from by) term.steps.items) (source_number values one)) is.source
    ∙ raised_worth_at from by term.steps.items (source_number values term.source) (of_layout.values values arise)

-- a number is at most a raised one exactly where that is raised, or at least as great, if it is no more than what is raised is at least
pub at_most_raised : (from by n most w : ℤ) → n ≤ℤ most → most ≤ℤ (from +ℤ by) → pos 0 ≤ℤ by → (n ≤ℤ raised from by w) ↔ ((from ≤ℤ w) ⊎ (n ≤ℤ w))
unfolding raised
at_most_raised from by n most w within far natural = at (int_le from w) refl
  where
    at : (b : Bool) → int_le from w ≡ b → (n ≤ℤ (if b then w +ℤ by else w)) ↔ ((from ≤ℤ w) ⊎ (n ≤ℤ w))
    at true e = (λ h. inl (omega (arith, ints, e)), λ h. omega (arith, ints, e, within, far))
    at false e = (λ h. inr h, λ h. elim h as (λ _. n ≤ℤ w) [ inl g ↦ absurd (omega (arith, ints, e, g)) | inr g ↦ g ])

pub made_raised : (from by : ℤ) (step : Step) (w v' w' : ℤ) → from ≤ℤ step.worth → w ≡ step.worth +ℤ by → v' ≡ step.value → w' ≡ w → a_step v' w' ≡ raised_step from by step
unfolding raised_step raised
made_raised from by step w v' w' up is same_value same_worth = at (int_le from step.worth) refl
  where
    at : (b : Bool) → int_le from step.worth ≡ b → a_step v' w' ≡ a_step step.value (if b then step.worth +ℤ by else step.worth)
    at true e = ap (λ n. a_step n w') same_value ∙ ap (a_step step.value) (same_worth ∙ is)
    at false e = absurd (omega (arith, ints, e, up))

pub not_raised : (from by : ℤ) (step : Step) → step.worth <ℤ from → step ≡ raised_step from by step
unfolding raised_step raised
not_raised from by step low = at (int_le from step.worth) refl
  where
    at : (b : Bool) → int_le from step.worth ≡ b → step ≡ a_step step.value (if b then step.worth +ℤ by else step.worth)
    at true e = absurd (omega (arith, ints, e, low))
    at false e = refl
