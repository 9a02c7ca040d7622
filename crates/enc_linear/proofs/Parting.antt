-- Sums that aren't a number, step by step of a first term.
use Rattle.std.proofs.Common.{◌≡◌, ◌≢◌, ◌⊎◌, inl, inr, ◌↔◌, ℕ, ◌+◌, ◌<◌, ℤ, ◌+ℤ◌, ◌-ℤ◌, ◌<ℤ◌, Bool, true, false, IsTrue, List, length, take, get_or, refl, sym, subst, ◌∙◌, arith}
use Rattle.std.specs.List.{All, Contains}
use Rattle.std.specs.Ordering.{int_eq}
use Rattle.std.proofs.lemmas.Bool.Decides.{Decides-int_eq}
use Rattle.std.proofs.lemmas.Int.{by_lt_z, ints}
use Rattle.std.proofs.lemmas.List.Elements.{All-contains, Contains-get_or}
use Rattle.cnf_core.proofs.Members.{All-from_contains}
use Rattle.cnf_core.specs.Formula.{Cnf}
use Rattle.enc_atoms.specs.Atoms.{Adds, clause_holds}
use Rattle.enc_atoms.specs.declared.atoms.Atom.{Atom}
use Rattle.enc_linear.specs.declared.terms.Step.{Step}
use Rattle.enc_linear.specs.declared.terms.Term.{Term}
use Rattle.enc_linear.specs.Guards.{Unless}
use Rattle.enc_linear.specs.Sources.{AreGuardsOrOther, source_number}
use Rattle.enc_linear.specs.Terms.{Arise, HasOrderedSteps, IsTermOf, worth_of}
use Rattle.enc_linear.proofs.Arising.{adds_like, arise_before}
use Rattle.enc_linear.proofs.Ladders.{falls, rises, stands_of}
use Rattle.enc_linear.proofs.Turns.{nothing_new, one_more}
use Rattle.enc_var.specs.Decoding.{VariableLiterals}
use Rattle.enc_var.specs.Layouts.{IsLayoutOf}

-- two numbers are one exactly where two others are, if below and above agree for both
same_with_orders : (a b v w : ℤ) → (a <ℤ b ⊎ b <ℤ a) ↔ (v <ℤ w ⊎ w <ℤ v) → (a ≢ b) ↔ (v ≢ w)
same_with_orders a b v w same = (
  λ other e. by_lt_z a b
      (λ lt. apart v w e (same.0 (inl lt)))
      (λ ge. by_lt_z b a (λ gt. apart v w e (same.0 (inr gt))) (λ le. other (omega (arith, ints, ge, le)))),
  λ other e. by_lt_z v w
      (λ lt. apart a b e (same.1 (inl lt)))
      (λ ge. by_lt_z w v (λ gt. apart a b e (same.1 (inr gt))) (λ le. other (omega (arith, ints, ge, le)))),
)
  where
    apart : (x y : ℤ) → x ≡ y → (x <ℤ y) ⊎ (y <ℤ x) → ⊥
    apart x y e (inl lt) = omega (arith, ints, lt, e)
    apart x y e (inr gt) = omega (arith, ints, gt, e)

swapped : (P Q R S : Type 0) → (P ↔ R) → (Q ↔ S) → (P ⊎ Q) ↔ (R ⊎ S)
swapped P Q R S one two = (
  λ h. elim h as (λ _. R ⊎ S) [ inl p ↦ inl (one.0 p) | inr q ↦ inr (two.0 q) ],
  λ h. elim h as (λ _. P ⊎ Q) [ inl r ↦ inl (one.1 r) | inr s ↦ inr (two.1 s) ],
)

turned : (P Q R S : Type 0) → (P ↔ S) → (Q ↔ R) → (P ⊎ Q) ↔ (R ⊎ S)
turned P Q R S one two = (
  λ h. elim h as (λ _. R ⊎ S) [ inl p ↦ inr (one.0 p) | inr q ↦ inl (two.0 q) ],
  λ h. elim h as (λ _. P ⊎ Q) [ inl r ↦ inr (two.1 r) | inr s ↦ inl (one.1 s) ],
)

-- one step's number is another exactly where its worth is another
pub apart_there : (term : Term) (a b : Step) → HasOrderedSteps term → Contains term.steps.items a → Contains term.steps.items b → (a.value ≢ b.value) ↔ (a.worth ≢ b.worth)
apart_there term a b ordered here there = by term.rising refl
  where
    by : (r : Bool) → term.rising ≡ r → (a.value ≢ b.value) ↔ (a.worth ≢ b.worth)
    by true e =
        let pairs = subst (λ (r : Bool). HasOrderedSteps (record term { rising = r })) e ordered in
        same_with_orders a.value b.value a.worth b.worth
        (swapped (a.value <ℤ b.value) (b.value <ℤ a.value) (a.worth <ℤ b.worth) (b.worth <ℤ a.worth) (rises term.steps.items a b pairs here there) (rises term.steps.items b a pairs there here))
    by false e =
        let pairs = subst (λ (r : Bool). HasOrderedSteps (record term { rising = r })) e ordered in
        same_with_orders a.value b.value a.worth b.worth
        (turned (a.value <ℤ b.value) (b.value <ℤ a.value) (a.worth <ℤ b.worth) (b.worth <ℤ a.worth) (falls term.steps.items b a pairs there here) (falls term.steps.items a b pairs here there))

-- the number of a term is another than a step's exactly where it is worth something else
pub other_worth : (L : List VariableLiterals) (f : Cnf) (term : Term) (step : Step) (values : List ℤ) → IsTermOf L f term → Contains term.steps.items step → Arise L f values
    → (source_number values term.source ≢ step.value) ↔ (worth_of values term ≢ step.worth)
unfolding worth_of
other_worth L f term step values of_layout there arise =
    let s = stands_of L f term values of_layout arise in
    let apart = apart_there term s.step step of_layout.ordered s.there there in (
      λ other e. apart.0 (λ v. other (sym s.value ∙ v)) (sym s.worth ∙ e),
      λ other e. apart.1 (λ w. other (s.worth ∙ w)) (s.value ∙ e),
    )

-- a term that is never worth the number
pub never_there : (L : List VariableLiterals) (f : Cnf) (guards : List Atom) (term : Term) (m number : ℤ) → IsLayoutOf L f → IsTrue f.from_new → IsTermOf L f term → All (λ (step : Step). step.worth ≢ m) term.steps.items → m ≡ number
    → Adds L f L f (Unless guards (λ values. worth_of values term ≢ number))
unfolding worth_of
never_there L f guards term m number is_layout from_new of_layout other is =
    nothing_new L f (Unless guards (λ values. worth_of values term ≢ number)) is_layout from_new
    (λ values among. let s = stands_of L f term values of_layout among in
    inr (λ e. All-contains (λ (step : Step). step.worth ≢ m) term.steps.items s.step other s.there (sym s.worth ∙ e ∙ sym is)))

-- a term that isn't worth what it is at the step of the number
pub other_there : (L : List VariableLiterals) (f : Cnf) (guards atoms : List Atom) (term : Term) (step : Step) (at number : ℤ) (values : List ℤ) → IsTermOf L f term → Contains term.steps.items step
    → AreGuardsOrOther term.source at guards atoms → at ≡ step.value → step.worth ≡ number → Arise L f values
    → IsTrue (clause_holds values atoms) ↔ Unless guards (λ values. worth_of values term ≢ number) values
other_there L f guards atoms term step at number values of_layout there says same is arise =
    let cases = says.tells values (length L) of_layout.names (of_layout.whole values arise) in
    let other = other_worth L f term step values of_layout there arise in (
      λ h. elim (cases.0 h) as (λ _. Unless guards (λ values. worth_of values term ≢ number) values) [ inl g ↦ inl g | inr a ↦ inr (λ e. other.0 (λ v. a (v ∙ sym same)) (e ∙ sym is)) ],
      λ h. cases.1 (elim h as (λ _. IsTrue (clause_holds values guards) ⊎ (source_number values term.source ≢ at)) [ inl g ↦ inl g | inr w ↦ inr (λ v. other.1 (λ e. w (e ∙ is)) (v ∙ same)) ]),
    )

-- what a turn over a step of the first term says, where the others are worth `rest`
abbrev pub Parted : List Atom → Term → (List ℤ → ℤ) → ℤ → List ℤ → Step → Type 0
Parted guards first rest number values step = (IsTrue (clause_holds values guards) ⊎ (worth_of values first ≢ step.worth)) ⊎ (rest values ≢ (number -ℤ step.worth))

-- a turn
pub parted_turn : (L : List VariableLiterals) (f f1 f2 : Cnf) (guards atoms : List Atom) (at_step : ℤ) (first : Term) (rest : List ℤ → ℤ) (number left : ℤ) (step d : Step) (i : ℕ) → IsLayoutOf L f → IsTermOf L f first
    → i < length first.steps.items → step ≡ get_or first.steps.items i d → AreGuardsOrOther first.source at_step guards atoms → at_step ≡ step.value
    → Adds L f L f1 (λ values. All (Parted guards first rest number values) (take i first.steps.items)) → Adds L f1 L f2 (Unless atoms (λ values. rest values ≢ left)) → left ≡ number -ℤ step.worth
    → Adds L f L f2 (λ values. All (Parted guards first rest number values) (take (i + 1) first.steps.items))
parted_turn L f f1 f2 guards atoms at_step first rest number left step d i is_layout of_layout low at says is before added left_is =
    one_more L f f1 f2 (Parted guards first rest number) first.steps.items i d is_layout low before
    (adds_like L f1 L f2 (Unless atoms (λ values. rest values ≢ left)) (λ values. Parted guards first rest number values (get_or first.steps.items i d)) before.goes_on.is_layout added
    (λ values among. subst (λ (s : Step). Unless atoms (λ values. rest values ≢ left) values ↔ Parted guards first rest number values s) at (same values (arise_before L f f1 values before.goes_on among))))
  where
    there : Contains first.steps.items step
    there = subst (Contains first.steps.items) (sym at) (Contains-get_or first.steps.items i d low)

    same : (values : List ℤ) → Arise L f values → Unless atoms (λ values. rest values ≢ left) values ↔ Parted guards first rest number values step
    same values arise =
        let cases = other_there L f guards atoms first step at_step step.worth values of_layout there says is refl arise in (
          λ h. elim h as (λ _. Parted guards first rest number values step) [
            | inl c ↦ inl (cases.0 c)
            | inr r ↦ inr (λ e. r (e ∙ sym left_is))
          ],
          λ h. elim h as (λ _. Unless atoms (λ values. rest values ≢ left) values) [
            | inl e ↦ inl (cases.1 e)
            | inr r ↦ inr (λ e. r (e ∙ left_is))
          ],
        )

-- a turn over a step which the others can't bring to the number
pub parted_passed : (L : List VariableLiterals) (f f1 : Cnf) (guards : List Atom) (first : Term) (rest : List ℤ → ℤ) (number : ℤ) (step d : Step) (i : ℕ) → IsLayoutOf L f
    → i < length first.steps.items → step ≡ get_or first.steps.items i d
    → Adds L f L f1 (λ values. All (Parted guards first rest number values) (take i first.steps.items)) → ((values : List ℤ) → Arise L f values → rest values ≢ (number -ℤ step.worth))
    → Adds L f L f1 (λ values. All (Parted guards first rest number values) (take (i + 1) first.steps.items))
parted_passed L f f1 guards first rest number step d i is_layout low at before other =
    one_more L f f1 f1 (Parted guards first rest number) first.steps.items i d is_layout low before
    (nothing_new L f1 (λ values. Parted guards first rest number values (get_or first.steps.items i d)) before.goes_on.is_layout before.goes_on.from_new
    (λ values among. subst (Parted guards first rest number values) at (inr (other values (arise_before L f f1 values before.goes_on among)))))

-- all turns
pub parted_all : (L : List VariableLiterals) (f : Cnf) (guards : List Atom) (first : Term) (rest : List ℤ → ℤ) (m number : ℤ) (values : List ℤ) → IsTermOf L f first → Arise L f values → m ≡ number
    → All (Parted guards first rest m values) first.steps.items ↔ Unless guards (λ values. (worth_of values first +ℤ rest values) ≢ number) values
unfolding worth_of
parted_all L f guards first rest m number values of_layout among is =
    let s = stands_of L f first values of_layout among in
    let worth = s.worth in (
      λ h. elim (All-contains (Parted guards first rest m values) first.steps.items s.step h s.there) as (λ _. Unless guards (λ values. (worth_of values first +ℤ rest values) ≢ number) values) [
        | inl e ↦ elim e as (λ _. Unless guards (λ values. (worth_of values first +ℤ rest values) ≢ number) values) [ inl g ↦ inl g | inr w ↦ absurd (w s.worth) ]
        | inr r ↦ inr (λ e. r (omega (arith, ints, e, worth, is)))
      ],
      λ h. All-from_contains (Parted guards first rest m values) first.steps.items (λ step there. each step h),
    )
  where
    by : (step : Step) (b : Bool) → int_eq (worth_of values first) step.worth ≡ b → (worth_of values first +ℤ rest values) ≢ number → Parted guards first rest m values step
    by step true e other = let w = (Decides-int_eq (worth_of values first) step.worth).0 e in inr (λ r. other (omega (arith, ints, r, w, is)))
    by step false e other = inl (inr (λ w. let t = (Decides-int_eq (worth_of values first) step.worth).1 w in cc))

    each : (step : Step) → Unless guards (λ values. (worth_of values first +ℤ rest values) ≢ number) values → Parted guards first rest m values step
    each step (inl g) = inl (inl g)
    each step (inr other) = by step (int_eq (worth_of values first) step.worth) refl other
