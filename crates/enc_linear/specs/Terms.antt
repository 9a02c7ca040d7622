-- Terms: what has a number that is worth something.
use Rattle.std.specs.Prelude.{◌≡◌, ◌↔◌, ℕ, ◌<◌, ℤ, pos, ◌<ℤ◌, ◌≤ℤ◌, neg_ℤ, ◌*ℤ◌, Bool, true, false, not, IsTrue, List, [], ◌∷◌, length, map, if◌then◌else◌}
use Rattle.std.specs.List.{All, AllPairs, Contains}
use Rattle.std.specs.Ordering.{int_eq}
use Rattle.ep_base.specs.Numbers.{sum_of}
use Rattle.cnf_core.specs.Clauses.{Satisfies}
use Rattle.cnf_core.specs.Formula.{Cnf}
use Rattle.enc_atoms.specs.Atoms.{AreOfDomains, atom_holds}
use Rattle.enc_atoms.specs.declared.atoms.Atom.{Atom}
use Rattle.enc_linear.specs.declared.bounds.Bounds.{Bounds}
use Rattle.enc_linear.specs.declared.sources.Source.{Source}
use Rattle.enc_linear.specs.declared.terms.Step.{Step}
use Rattle.enc_linear.specs.declared.terms.Term.{Term}
use Rattle.enc_linear.specs.Sources.{IsSourceBelow, IsWhole, source_number}
use Rattle.enc_var.specs.Decoding.{VariableLiterals}
use Rattle.enc_var.specs.Layouts.{decoded_values}

-- what a number is worth: the worth of its first step, and 0 where it has none
unfoldable pub worth_at : List Step → ℤ → ℤ
worth_at [] x = pos 0
worth_at (step ∷ steps) x = if int_eq step.value x then step.worth else worth_at steps x

-- what a term is worth where the variables have these numbers
unfoldable pub worth_of : List ℤ → Term → ℤ
worth_of values term = worth_at term.steps.items (source_number values term.source)

-- what some terms are worth together
unfoldable pub total : List ℤ → List Term → ℤ
total values terms = sum_of (map (worth_of values) terms)

-- the first is below the second, or above it where worths fall
abbrev pub IsBefore : Bool → ℤ → ℤ → Type 0
IsBefore true a b = a <ℤ b
IsBefore false a b = b <ℤ a

-- the second step has a greater number, and a greater worth, or a smaller one where worths fall
abbrev pub AreInOrder : Bool → Step → Step → Type 0
AreInOrder rising one next = (one.value <ℤ next.value) × IsBefore rising one.worth next.worth

-- the steps of a term stand in order
abbrev pub HasOrderedSteps : Term → Type 0
HasOrderedSteps term = AllPairs (AreInOrder term.rising) term.steps.items

-- a number lies within bounds
abbrev pub LiesWithin : Bounds → ℤ → Type 0
LiesWithin bounds n = (bounds.least ≤ℤ n) × (n ≤ℤ bounds.greatest)

-- what each step is worth lies within bounds
abbrev pub HoldsSteps : Bounds → List Step → Type 0
HoldsSteps bounds steps = All (λ step. LiesWithin bounds step.worth) steps

-- An assignment that satisfies a formula gives the variables of its layout these numbers.
pub record Arise (layout : List VariableLiterals) (f : Cnf) (values : List ℤ) : Type 0 where
  pub assignment : ℕ → Bool
  pub satisfies : Satisfies assignment f.clauses
  pub given : decoded_values layout assignment ≡ values
  pub among : AreOfDomains layout values

-- A term is of a layout and its formula: it has a step for each number that its source may have, in order and within its
-- bounds, and where the source is a ladder the formula makes it one.
pub record IsTermOf (layout : List VariableLiterals) (f : Cnf) (term : Term) : Type 0 where
  pub names : IsSourceBelow (length layout) term.source
  pub whole : (values : List ℤ) → Arise layout f values → IsWhole values term.source
  pub values : (values : List ℤ) → Arise layout f values → Contains (map (λ step. step.value) term.steps.items) (source_number values term.source)
  pub ordered : HasOrderedSteps term
  pub bounds : HoldsSteps term.bounds term.steps.items

-- an atom on variables of a source says this of what the step of its number is worth
pub record SaysOfSteps (from : Source) (steps : List Step) (atom : Atom) (holds : ℤ → Type 0) : Type 0 where
  pub names : (n : ℕ) → IsSourceBelow n from → atom.var < n
  pub tells : (values : List ℤ) → (n : ℕ) → IsSourceBelow n from → IsWhole values from
      → All (λ step. source_number values from ≡ step.value → (IsTrue (atom_holds values atom) ↔ holds step.worth)) steps

-- an atom says this of a term's worth
abbrev pub SaysOfTerm : Term → Atom → (ℤ → Type 0) → Type 0
SaysOfTerm term atom holds = SaysOfSteps term.source term.steps.items atom holds

-- a number with what it is worth under a coefficient
unfoldable pub step_of : ℤ → ℤ → Step
step_of a v = record { value = v; worth = a *ℤ v }

-- a step whose worth is the opposite
unfoldable pub mirrored_step : Step → Step
mirrored_step step = record { value = step.value; worth = neg_ℤ step.worth }

-- A term's mirror: the same with each worth turned into its opposite.
pub record IsMirror (term twin : Term) : Type 0 where
  pub source : twin.source ≡ term.source
  pub rising : twin.rising ≡ not term.rising
  pub steps : twin.steps.items ≡ map mirrored_step term.steps.items
  pub bounds : HoldsSteps twin.bounds twin.steps.items
