-- New terms that can be worth any of some numbers: what follows from them, and how a variable and a ladder are ones.
use Rattle.std.proofs.Common.{◌≡◌, ◌↔◌, ℕ, zero, suc, ◌+◌, ◌<◌, ◌≤◌, ℤ, pos, ◌*ℤ◌, Bool, true, false, IsTrue, List, [], ◌∷◌, ◌++◌, length, map, take, get_or, if◌then◌else◌, refl, sym, ap, subst, ◌∙◌, arith}
use Rattle.std.specs.List.{All, AllPairs, Contains}
use Rattle.std.specs.Ordering.{int_eq}
use Rattle.std.proofs.lemmas.Bool.Decides.{Decides-int_eq}
use Rattle.std.proofs.lemmas.Int.{ints}
use Rattle.std.proofs.lemmas.List.{get_or-map, get_or_default, length-map, length-take-le, map-append, take_all, take_more}
use Rattle.std.proofs.lemmas.List.Elements.{All-cons, All-contains, All-head, All-nil, All-tail, Contains-append_right}
use Rattle.cnf_core.proofs.Keeping.{agree_below, agree_on}
use Rattle.cnf_core.proofs.Members.{All-from_contains}
use Rattle.cnf_core.specs.Clauses.{AgreeUpTo, Satisfies}
use Rattle.cnf_core.specs.Formula.{Cnf, Extends}
use Rattle.ep_base.specs.Runs.{IsAscending}
use Rattle.ep_flat.specs.Cons.{number_at, numbers_of_vars}
use Rattle.enc_atoms.proofs.Adding.{adds_both, goes_further, satisfied_before}
use Rattle.enc_atoms.proofs.Choosing.{truths_are}
use Rattle.enc_atoms.proofs.Decoded.{length_values, number_last, values_along, values_among, values_front, values_push}
use Rattle.enc_atoms.proofs.NewTruths.{length-numbers_from, length_later, numbers_from_at}
use Rattle.enc_atoms.specs.Atoms.{Adds, AreOfDomains, clause_holds}
use Rattle.enc_atoms.specs.Steps.{HasTruths, Implied, IsTruth, IsTruthDomain, Unless, numbers_from}
use Rattle.enc_linear.specs.declared.sources.Ladder.{Ladder}
use Rattle.enc_linear.specs.declared.sources.Source.{Source}
use Rattle.enc_linear.specs.declared.sources.Source.TheVariants as source
use Rattle.enc_linear.specs.declared.terms.Step.{Step}
use Rattle.enc_linear.specs.declared.terms.Term.{Term}
use Rattle.enc_linear.proofs.Arising.{adds_like}
use Rattle.enc_linear.proofs.Heights.{falls_up, from_none, height_low, height_up, length_rungs, length_up, none_more, one_later, truths_up, up_to_height}
use Rattle.enc_linear.proofs.Ladders.{by_places}
use Rattle.enc_linear.proofs.Turns.{nothing_new}
use Rattle.enc_linear.specs.Ladders.{HasTerm, IsLadderTerm, steps_from}
use Rattle.enc_linear.specs.Sources.{Falls, IsLadder, IsSourceBelow, IsWhole, ones_in_front, source_number, rungs_of}
use Rattle.enc_linear.specs.Terms.{AreInOrder, Arise, IsTermOf, worth_at, worth_of}
use Rattle.enc_var.specs.Decoding.{Means, VariableLiterals, decoded}
use Rattle.enc_var.specs.Layouts.{GoesOn, HasFreeChoice, IsLayoutOf, decoded_values}

-- the numbers of an assignment that satisfies a formula
pub arises : (L : List VariableLiterals) (f : Cnf) (s : ℕ → Bool) → IsLayoutOf L f → Satisfies s f.clauses → Arise L f (decoded_values L s)
arises L f s is_layout met = record { assignment = s; satisfies = met; given = refl; among = values_among L s (is_layout.meaning s met) }

-- A number for a new term with which something holds of whatever numbers arise with it.
pub record IsChosen (L1 : List VariableLiterals) (f1 : Cnf) (numbers : List ℤ) (term : Term) (count : ℕ) (values : List ℤ) (Q : List ℤ → Type 0) : Type 0 where
  pub number : ℤ
  pub among : Contains numbers number
  pub leads : (later : List ℤ) → Arise L1 f1 later → take count later ≡ values → worth_of later term ≡ number → Q later

-- A new term, and then what is said of it and of the earlier variables.
pub adds_term : (L : List VariableLiterals) (f : Cnf) (L1 : List VariableLiterals) (f1 : Cnf) (L2 : List VariableLiterals) (f2 : Cnf) (numbers : List ℤ) (term : Term) (Q R : List ℤ → Type 0) → IsLayoutOf L f
    → HasTerm L f L1 f1 numbers term → Adds L1 f1 L2 f2 Q
    → ((later : List ℤ) → Arise L1 f1 later → Q later → R (take (length L) later))
    → ((values : List ℤ) → Arise L f values → R values → IsChosen L1 f1 numbers term (length L) values Q)
    → Adds L f L2 f2 R
adds_term L f L1 f1 L2 f2 numbers term Q R is_layout new adds told chosen = record {
  goes_on = goes_further L f L1 f1 L2 f2 new.goes_on adds.goes_on;
  keeps = record {
    variables = omega (arith, new.goes_on.variables, adds.keeps.variables);
    extension = λ s met. (λ far. forth s met far, λ r. back s met r);
    restriction = λ s met. satisfied_before L f L1 f1 new.goes_on s (adds.keeps.restriction s met);
  };
}
  where
    same : (s t : ℕ → Bool) → AgreeUpTo f.vars s t → decoded_values L s ≡ take (length L) (decoded_values L1 t)
    same s t agree = values_along f.vars s t L agree is_layout.literals ∙ sym (values_front L L1 t new.goes_on.earlier)

    forth : (s : ℕ → Bool) → Satisfies s f.clauses → Extends f.vars s f2 → R (decoded_values L s)
    forth s met far =
        let t = far.values in
        let on_one = adds.keeps.restriction t far.satisfies in
        let here : Extends f1.vars t f2 = record { values = t; agrees = λ v low high. refl; satisfies = far.satisfies } in
        subst R (sym (same s t far.agrees)) (told (decoded_values L1 t) (arises L1 f1 t new.goes_on.is_layout on_one) ((adds.keeps.extension t on_one).0 here))

    back : (s : ℕ → Bool) → Satisfies s f.clauses → R (decoded_values L s) → Extends f.vars s f2
    back s met r =
        let c = chosen (decoded_values L s) (arises L f s is_layout met) r in
        let pick = new.choice s c.number met c.among in
        let t = pick.0.values in
        let q = c.leads (decoded_values L1 t) (arises L1 f1 t new.goes_on.is_layout pick.0.satisfies) (sym (same s t pick.0.agrees)) pick.1 in
        let far = (adds.keeps.extension t pick.0.satisfies).1 q in
        record {
          values = far.values;
          agrees = agree_on f.vars s t far.values pick.0.agrees (agree_below f.vars f1.vars t far.values new.goes_on.variables far.agrees);
          satisfies = far.satisfies;
        }

-- ---- of a variable

pub has_variable : (L : List VariableLiterals) (f : Cnf) (L1 : List VariableLiterals) (f1 : Cnf) (e : VariableLiterals) (x : ℕ) (a : ℤ) (term : Term) → L1 ≡ L ++ e ∷ [] → GoesOn L f L1 f1 → HasFreeChoice f e f1 → x ≡ length L
    → ((g : Cnf) → IsTermOf L1 g term) → ((values : List ℤ) → AreOfDomains L1 values → worth_of values term ≡ a *ℤ number_at values x) → a ≡ pos 1 → HasTerm L f L1 f1 e.domain term
has_variable L f L1 f1 e x a term pushed goes free at of_layout worth unit = record {
  goes_on = goes;
  of_layout = of_layout f1;
  choice = choose;
}
  where
    choose : (s : ℕ → Bool) (n : ℤ) → Satisfies s f.clauses → Contains e.domain n → (far : Extends f.vars s f1) × (worth_of (decoded_values L1 far.values) term ≡ n)
    choose s n met found =
        let pick = free.choice s n met found in
        let t = pick.0.values in
        let values : List ℤ = decoded_values L1 t in
        let parts : values ≡ decoded_values L t ++ decoded t e ∷ [] = ap (λ es. decoded_values es t) pushed ∙ values_push L e t in
        let number : number_at values x ≡ n = ap (λ vs. number_at vs x) parts ∙ number_last (decoded_values L t) (decoded t e) x (at ∙ sym (length_values L t)) ∙ pick.1 in
        let is : worth_of values term ≡ pos 1 *ℤ number_at values x = worth values (values_among L1 t (goes.is_layout.meaning t pick.0.satisfies)) ∙ ap (λ k. k *ℤ number_at values x) unit in
        (pick.0, omega (arith, ints, is, number))

-- ---- of a ladder

-- what was added holds where the later formula does
holds_in : (L : List VariableLiterals) (f : Cnf) (L1 : List VariableLiterals) (g : Cnf) (P : List ℤ → Type 0) → Adds L f L1 g P → (s : ℕ → Bool) → Satisfies s g.clauses → P (decoded_values L s)
holds_in L f L1 g P adds s met =
    let on = adds.keeps.restriction s met in
    (adds.keeps.extension s on).0 (record { values = s; agrees = λ v low high. refl; satisfies = met })

-- what decodes among domains of 0 and 1
decoded_truths : (t : ℕ → Bool) (es : List VariableLiterals) → All (Means t) es → All (λ e. IsTruthDomain e.domain) es → All IsTruth (decoded_values es t)
unfolding decoded_values
decoded_truths t [] means domains = All-nil IsTruth
decoded_truths t (e ∷ es) means domains =
    All-cons IsTruth (decoded t e) (map (decoded t) es)
    ((All-head (λ x. IsTruthDomain x.domain) e es domains).only (decoded t e) (All-head (Means t) e es means).among)
    (decoded_truths t es (All-tail (Means t) e es means) (All-tail (λ x. IsTruthDomain x.domain) e es domains))

values_append : (L added : List VariableLiterals) (s : ℕ → Bool) → decoded_values (L ++ added) s ≡ decoded_values L s ++ decoded_values added s
unfolding decoded_values
values_append L added s = map-append (decoded s) L added

-- the numbers of a ladder of new variables
rungs_decoded : (L : List VariableLiterals) (f : Cnf) (L1 : List VariableLiterals) (f1 : Cnf) (ladder : Ladder) (new : HasTruths L f L1 f1 ladder.rungs) → ladder.first ≡ length L → (t : ℕ → Bool) → rungs_of (decoded_values L1 t) ladder ≡ decoded_values new.added t
unfolding rungs_of
rungs_decoded L f L1 f1 ladder new at t =
    ap (λ vs. numbers_of_vars vs (numbers_from ladder.first ladder.rungs)) (ap (λ es. decoded_values es t) new.pushed ∙ values_append L new.added t)
    ∙ truths_are (decoded_values L t) (decoded_values new.added t) ladder.first ladder.rungs (length_values L t ∙ sym at) (length_values new.added t ∙ new.many)

-- steps by height
length_steps : (k : ℕ) (ns : List ℤ) → length (steps_from k ns) ≡ length ns
unfolding steps_from
length_steps k [] = refl
length_steps k (n ∷ ns) = ap suc (length_steps (suc k) ns)

step_at : (k : ℕ) (ns : List ℤ) (i : ℕ) (d : Step) → i < length ns → get_or (steps_from k ns) i d ≡ record { value = pos (k + i); worth = get_or ns i (pos 0) }
unfolding steps_from
step_at k [] i d low = absurd (omega (arith, low))
step_at k (n ∷ ns) zero d low = ap (λ (j : ℕ). record { value = pos j; worth = n }) (none_more k)
step_at k (n ∷ ns) (suc i) d low = step_at (suc k) ns i d (omega (arith, low)) ∙ ap (λ (j : ℕ). record { value = pos j; worth = get_or ns i (pos 0) }) (one_later k i)

values_of_steps : (k : ℕ) (ns : List ℤ) (i : ℕ) → i < length ns → Contains (map (λ (step : Step). step.value) (steps_from k ns)) (pos (k + i))
values_of_steps k ns i low =
    let xs = steps_from k ns in
    let d : Step = record { value = pos 0; worth = pos 0 } in
    let long = length_steps k ns in (
      i,
      omega (arith, low, long, length-map xs (λ (step : Step). step.value)),
      get_or-map (λ (step : Step). step.value) xs i d (pos (k + i)) (omega (arith, low, long)) ∙ ap (λ (step : Step). step.value) (step_at k ns i d low),
    )

steps_ordered : (ns : List ℤ) → IsAscending ns → AllPairs (AreInOrder true) (steps_from 0 ns)
steps_ordered ns up i j d lt low =
    let long = length_steps 0 ns in
    let there : j < length ns = omega (arith, low, long) in
    subst (λ (y : Step). AreInOrder true (get_or (steps_from 0 ns) i d) y) (sym (step_at 0 ns j d there))
    (subst (λ (x : Step). AreInOrder true x (record { value = pos (0 + j); worth = get_or ns j (pos 0) })) (sym (step_at 0 ns i d (omega (arith, lt, there))))
    (omega (arith, ints, lt), up i j (pos 0) lt there))

first_worth : (step : Step) (steps : List Step) (x : ℤ) → step.value ≡ x → worth_at (step ∷ steps) x ≡ step.worth
unfolding worth_at
first_worth step steps x is = ap (λ (b : Bool). if b then step.worth else worth_at steps x) ((Decides-int_eq step.value x).1 is)

later_worth : (step : Step) (steps : List Step) (x : ℤ) → (step.value ≡ x → ⊥) → worth_at (step ∷ steps) x ≡ worth_at steps x
unfolding worth_at
later_worth step steps x other = by (int_eq step.value x) refl
  where
    by : (b : Bool) → int_eq step.value x ≡ b → (if b then step.worth else worth_at steps x) ≡ worth_at steps x
    by true e = absurd (other ((Decides-int_eq step.value x).0 e))
    by false e = refl

worth_by_height : (k : ℕ) (ns : List ℤ) (i : ℕ) → i < length ns → worth_at (steps_from k ns) (pos (k + i)) ≡ get_or ns i (pos 0)
unfolding steps_from
worth_by_height k [] i low = absurd (omega (arith, low))
worth_by_height k (n ∷ ns) zero low = first_worth (record { value = pos k; worth = n }) (steps_from (suc k) ns) (pos (k + 0)) (omega (arith, ints))
worth_by_height k (n ∷ ns) (suc i) low =
    later_worth (record { value = pos k; worth = n }) (steps_from (suc k) ns) (pos (k + suc i)) (λ e. omega (arith, ints, e))
    ∙ ap (λ (j : ℕ). worth_at (steps_from (suc k) ns) (pos j)) (sym (one_later k i))
    ∙ worth_by_height (suc k) ns i (omega (arith, low))

-- the step of a ladder's height
height_among : (values : List ℤ) (ladder : Ladder) (numbers : List ℤ) → length numbers ≡ ladder.rungs + 1 → Contains (map (λ (step : Step). step.value) (steps_from 0 numbers)) (source_number values (source.Ladder ladder))
unfolding source_number
height_among values ladder numbers many =
    let low = height_low (rungs_of values ladder) in
    let long = length_rungs values ladder in
    subst (λ (k : ℕ). Contains (map (λ (step : Step). step.value) (steps_from 0 numbers)) (pos k)) (from_none (ones_in_front (rungs_of values ladder))) (values_of_steps 0 numbers (ones_in_front (rungs_of values ladder)) (omega (arith, low, long, many)))

worth_at_height : (values : List ℤ) (ladder : Ladder) (numbers : List ℤ) (term : Term) (p : ℕ) → IsLadderTerm ladder numbers term → ones_in_front (rungs_of values ladder) ≡ p → p < length numbers → worth_of values term ≡ get_or numbers p (pos 0)
unfolding worth_of source_number
worth_at_height values ladder numbers term p is high low =
    ap (λ (steps : List Step). worth_at steps (source_number values term.source)) is.steps
    ∙ ap (λ (from : Source). worth_at (steps_from 0 numbers) (source_number values from)) is.is_ladder
    ∙ ap (λ (k : ℕ). worth_at (steps_from 0 numbers) (pos k)) (high ∙ sym (from_none p))
    ∙ worth_by_height 0 numbers p low

-- the whole step
pub has_ladder : (L : List VariableLiterals) (f : Cnf) (L1 : List VariableLiterals) (f1 f2 : Cnf) (numbers : List ℤ) (ladder : Ladder) (term : Term) → HasTruths L f L1 f1 ladder.rungs → ladder.first ≡ length L
    → Adds L1 f1 L1 f2 (λ values. Falls (rungs_of values ladder)) → length numbers ≡ ladder.rungs + 1 → 0 < ladder.rungs → IsAscending numbers → IsLadderTerm ladder numbers term → HasTerm L f L1 f2 numbers term
has_ladder L f L1 f1 f2 numbers ladder term new at falls many several up is = record {
  goes_on = goes_further L f L1 f1 L1 f2 new.goes_on falls.goes_on;
  of_layout = record {
    names = subst (IsSourceBelow (length L1)) (sym is.is_ladder) (several, omega (arith, at, length_later L f L1 f1 ladder.rungs new));
    whole = λ values a. subst (IsWhole values) (sym is.is_ladder) (ladder_there values a);
    values = λ values a. subst (λ (from : Source). Contains (map (λ (step : Step). step.value) term.steps.items) (source_number values from)) (sym is.is_ladder)
        (subst (λ (steps : List Step). Contains (map (λ (step : Step). step.value) steps) (source_number values (source.Ladder ladder))) (sym is.steps) (has_height values));
    ordered = subst (λ (b : Bool). AllPairs (AreInOrder b) term.steps.items) (sym is.rising) (subst (AllPairs (AreInOrder true)) (sym is.steps) (steps_ordered numbers up));
    bounds = is.bounds;
  };
  choice = choose;
}
  where
    means : (t : ℕ → Bool) → Satisfies t f1.clauses → All (Means t) new.added
    means t met = All-from_contains (Means t) new.added (λ d found. All-contains (Means t) (L ++ new.added) d (subst (All (Means t)) new.pushed (new.goes_on.is_layout.meaning t met)) (Contains-append_right L new.added d found))

    ladder_there : (values : List ℤ) → Arise L1 f2 values → IsLadder (rungs_of values ladder)
    ladder_there values a =
        let t = a.assignment in
        subst (λ (vs : List ℤ). IsLadder (rungs_of vs ladder)) a.given (record {
          truths = subst (All IsTruth) (sym (rungs_decoded L f L1 f1 ladder new at t)) (decoded_truths t new.added (means t (falls.keeps.restriction t a.satisfies)) new.domains);
          falls = holds_in L1 f1 L1 f2 (λ values. Falls (rungs_of values ladder)) falls t a.satisfies;
        })

    has_height : (values : List ℤ) → Contains (map (λ (step : Step). step.value) (steps_from 0 numbers)) (source_number values (source.Ladder ladder))
    has_height values = height_among values ladder numbers many

    choose : (s : ℕ → Bool) (n : ℤ) → Satisfies s f.clauses → Contains numbers n → (far : Extends f.vars s f2) × (worth_of (decoded_values L1 far.values) term ≡ n)
    choose s n met found =
        let p : ℕ = found.0 in
        let count : ℕ = ladder.rungs in
        let within : p ≤ count = omega (arith, found.1, many) in
        let pick = new.choice s (up_to_height p count) met (length_up p count) (truths_up p count) in
        let t = pick.0.values in
        let rungs : rungs_of (decoded_values L1 t) ladder ≡ up_to_height p count = rungs_decoded L f L1 f1 ladder new at t ∙ pick.1 in
        let holds : Falls (rungs_of (decoded_values L1 t) ladder) = subst Falls (sym rungs) (falls_up p count) in
        let far = (falls.keeps.extension t pick.0.satisfies).1 holds in
        let u = far.values in
        let same : decoded_values L1 u ≡ decoded_values L1 t = sym (values_along f1.vars t u L1 far.agrees new.goes_on.is_layout.literals) in (
          record {
            values = u;
            agrees = agree_on f.vars s t u pick.0.agrees (agree_below f.vars f1.vars t u new.goes_on.variables far.agrees);
            satisfies = far.satisfies;
          },
          ap (λ vs. worth_of vs term) same
              ∙ worth_at_height (decoded_values L1 t) ladder numbers term p is (ap ones_in_front rungs ∙ height_up p count within) found.1
              ∙ get_or_default numbers p (pos 0) n found.1 ∙ found.2,
        )

-- ---- what the functions make, turn by turn

-- steps with one more
steps_push : (k : ℕ) (ns : List ℤ) (n : ℤ) → steps_from k (ns ++ n ∷ []) ≡ steps_from k ns ++ (record { value = pos (k + length ns); worth = n }) ∷ []
unfolding steps_from
steps_push k [] n = ap (λ (j : ℕ). record { value = pos j; worth = n } ∷ []) (none_more k)
steps_push k (m ∷ ns) n =
    ap (λ (xs : List Step). record { value = pos k; worth = m } ∷ xs)
    (steps_push (suc k) ns n ∙ ap (λ (j : ℕ). steps_from (suc k) ns ++ record { value = pos j; worth = n } ∷ []) (one_later k (length ns)))

length_front : (ns : List ℤ) (i : ℕ) → i < length ns → length (take i ns) ≡ i
length_front ns i low = length-take-le i ns (omega (arith, low))

pub steps_more : (ns : List ℤ) (i : ℕ) (old new : List Step) (step : Step) → i < length ns → old ≡ steps_from 0 (take i ns) → new ≡ old ++ step ∷ [] → step.value ≡ pos i → step.worth ≡ get_or ns i (pos 0) → new ≡ steps_from 0 (take (i + 1) ns)
steps_more ns i old new step low before pushed value worth =
    pushed ∙ ap (λ xs. xs ++ step ∷ []) before
    ∙ ap (λ (x : Step). steps_from 0 (take i ns) ++ x ∷ []) (ap (λ (v : ℤ). record { value = v; worth = step.worth }) (value ∙ ap pos (sym (length_front ns i low)) ∙ ap pos (sym (from_none (length (take i ns))))) ∙ ap (λ (w : ℤ). record { value = pos (0 + length (take i ns)); worth = w }) worth)
    ∙ sym (steps_push 0 (take i ns) (get_or ns i (pos 0))) ∙ ap (steps_from 0) (sym (take_more ns i (pos 0) low))

pub steps_none : (ns : List ℤ) (made : List Step) → made ≡ [] → made ≡ steps_from 0 (take 0 ns)
unfolding steps_from
steps_none ns made is = is

pub steps_all : (ns : List ℤ) (i : ℕ) (made : List Step) → length ns ≤ i → made ≡ steps_from 0 (take i ns) → made ≡ steps_from 0 ns
steps_all ns i made long is = is ∙ ap (steps_from 0) (take_all i ns long)

-- where one of the first so many numbers is 1 the one before it is
abbrev pub FallsFor : ℕ → List ℤ → Type 0
FallsFor count ns = (k : ℕ) → k + 1 < count → k + 1 < length ns → get_or ns (k + 1) (pos 0) ≡ pos 1 → get_or ns k (pos 0) ≡ pos 1

falls_next : (ns : List ℤ) (i j : ℕ) → j + 1 ≡ i → i < length ns → (FallsFor i ns × (get_or ns i (pos 0) ≡ pos 1 → get_or ns j (pos 0) ≡ pos 1)) ↔ FallsFor (i + 1) ns
falls_next ns i j next low = (
  λ h k less within e. by_places k j
      (λ lt. h.0 k (omega (arith, lt, next)) within e)
      (λ same. subst (λ m. get_or ns m (pos 0) ≡ pos 1) (sym same) (h.1 (subst (λ m. get_or ns m (pos 0) ≡ pos 1) (ap (λ m. m + 1) same ∙ next) e)))
      (λ gt. absurd (omega (arith, less, gt, next))),
  λ h. (λ k less within e. h k (omega (arith, less)) within e, λ e. h j (omega (arith, next)) (omega (arith, next, low)) (subst (λ m. get_or ns m (pos 0) ≡ pos 1) (sym next) e)),
)

none_holds : (values : List ℤ) → clause_holds values [] ≡ false
unfolding clause_holds
none_holds values = refl

-- the numbers of variables, one by one
var_at : (values : List ℤ) (xs : List ℕ) (i : ℕ) → i < length xs → get_or (numbers_of_vars values xs) i (pos 0) ≡ number_at values (get_or xs i 0)
unfolding numbers_of_vars
var_at values xs i low = get_or-map (number_at values) xs i 0 (pos 0) low

length_vars : (values : List ℤ) (xs : List ℕ) → length (numbers_of_vars values xs) ≡ length xs
unfolding numbers_of_vars
length_vars values xs = length-map xs (number_at values)

-- one variable more that is 1 only where the one before it is
pub falls_more : (L : List VariableLiterals) (f f1 f2 : Cnf) (xs : List ℕ) (i j x y : ℕ) (v w : ℤ) → IsLayoutOf L f → j + 1 ≡ i → i < length xs
    → Adds L f L f1 (λ values. FallsFor i (numbers_of_vars values xs)) → Adds L f1 L f2 (Unless [] (Implied x v y w))
    → x ≡ get_or xs i 0 → y ≡ get_or xs j 0 → v ≡ pos 1 → w ≡ pos 1 → Adds L f L f2 (λ values. FallsFor (i + 1) (numbers_of_vars values xs))
falls_more L f f1 f2 xs i j x y v w is_layout next low before turn is_x is_y is_v is_w =
    adds_like L f L f2 (λ values. FallsFor i (numbers_of_vars values xs) × Unless [] (Implied x v y w) values) (λ values. FallsFor (i + 1) (numbers_of_vars values xs)) is_layout
    (adds_both L f f1 L f2 (λ values. FallsFor i (numbers_of_vars values xs)) (Unless [] (Implied x v y w)) is_layout before turn)
    (λ values a. same values)
  where
    same : (values : List ℤ) → (FallsFor i (numbers_of_vars values xs) × Unless [] (Implied x v y w) values) ↔ FallsFor (i + 1) (numbers_of_vars values xs)
    same values =
        let ns : List ℤ = numbers_of_vars values xs in
        let more = falls_next ns i j next (omega (arith, low, length_vars values xs)) in
        let here : get_or ns i (pos 0) ≡ number_at values x = var_at values xs i low ∙ ap (number_at values) (sym is_x) in
        let there : get_or ns j (pos 0) ≡ number_at values y = var_at values xs j (omega (arith, low, next)) ∙ ap (number_at values) (sym is_y) in (
          λ h. more.0 (h.0, λ e. there ∙ h.1 (none_holds values) (sym here ∙ e ∙ sym is_v) ∙ is_w),
          λ h. let two = more.1 h in (two.0, λ off e. sym there ∙ two.1 (here ∙ e ∙ is_v) ∙ sym is_w),
        )

pub falls_none : (L : List VariableLiterals) (f : Cnf) (xs : List ℕ) → IsLayoutOf L f → IsTrue f.from_new → Adds L f L f (λ values. FallsFor 1 (numbers_of_vars values xs))
falls_none L f xs is_layout from_new = nothing_new L f (λ values. FallsFor 1 (numbers_of_vars values xs)) is_layout from_new (λ values a k low within e. absurd (omega (arith, low)))

pub falls_all : (L : List VariableLiterals) (f f1 : Cnf) (xs : List ℕ) (i : ℕ) → IsLayoutOf L f → length xs ≤ i → Adds L f L f1 (λ values. FallsFor i (numbers_of_vars values xs)) → Adds L f L f1 (λ values. Falls (numbers_of_vars values xs))
falls_all L f f1 xs i is_layout long added =
    adds_like L f L f1 (λ values. FallsFor i (numbers_of_vars values xs)) (λ values. Falls (numbers_of_vars values xs)) is_layout added
    (λ values a. (λ h k within e. h k (omega (arith, within, long, length_vars values xs)) within e, λ h k low within e. h k within e))

-- the same of a ladder's variables
pub ladder_falls : (L : List VariableLiterals) (f f1 : Cnf) (xs : List ℕ) (ladder : Ladder) → xs ≡ numbers_from ladder.first ladder.rungs → Adds L f L f1 (λ values. Falls (numbers_of_vars values xs)) → Adds L f L f1 (λ values. Falls (rungs_of values ladder))
unfolding rungs_of
ladder_falls L f f1 xs ladder is added = subst (λ ys. Adds L f L f1 (λ values. Falls (numbers_of_vars values ys))) is added

-- the same with what the functions made
pub ladder_made : (L : List VariableLiterals) (f : Cnf) (L1 : List VariableLiterals) (f1 f2 : Cnf) (numbers : List ℤ) (xs ys : List ℕ) (count : ℕ) (ladder : Ladder) (term : Term) → HasTruths L f L1 f1 count → xs ≡ numbers_from (length L) count → ys ≡ xs
    → Adds L1 f1 L1 f2 (λ values. Falls (numbers_of_vars values ys)) → ladder.first ≡ get_or xs 0 ladder.first → ladder.rungs ≡ length xs → length numbers ≡ count + 1 → 0 < count → IsAscending numbers → IsLadderTerm ladder numbers term
    → HasTerm L f L1 f2 numbers term
ladder_made L f L1 f1 f2 numbers xs ys count ladder term new is_xs is_ys falls first rungs many several up is =
    let long : length xs ≡ count = ap length is_xs ∙ length-numbers_from (length L) count in
    let same : ladder.rungs ≡ count = rungs ∙ long in
    let at : ladder.first ≡ length L = first ∙ ap (λ ns. get_or ns 0 ladder.first) is_xs ∙ numbers_from_at (length L) count 0 ladder.first several ∙ sym (none_more (length L)) in
    has_ladder L f L1 f1 f2 numbers ladder term (subst (HasTruths L f L1 f1) (sym same) new) at
    (ladder_falls L1 f1 f2 ys ladder (is_ys ∙ is_xs ∙ ap (λ n. numbers_from n count) (sym at) ∙ ap (numbers_from ladder.first) (sym same)) falls)
    (many ∙ ap (λ n. n + 1) (sym same)) (omega (arith, several, same)) up is
