-- Between which numbers sums of terms lie, and terms that stand for a sum only as far as the rest can bring it back.
use Rattle.std.specs.Prelude.{◌≡◌, ◌⊎◌, ℤ, ◌+ℤ◌, ◌≤ℤ◌, int_le, int_lt, Bool, true, false, not, ◌||◌, IsTrue, List, map, is_some, if◌then◌else◌}
use Rattle.std.specs.List.{All, Contains}
use Rattle.ep_base.specs.Numbers.{compare_holds, sum_of}
use Rattle.ep_base.specs.declared.operators.CompareOp.{CompareOp}
use Rattle.ep_flat.specs.Cons.{is_as_said}
use Rattle.enc_linear.specs.declared.bounds.Bounds.{Bounds}
use Rattle.enc_linear.specs.declared.comparison.Comparison.{Comparison}
use Rattle.enc_linear.specs.declared.terms.Step.{Step}
use Rattle.enc_linear.specs.declared.terms.Term.{Term}
use Rattle.enc_linear.specs.Terms.{HoldsSteps, total, worth_of}

-- Bounds are those of a sum of terms: the sums of the terms' own.
pub record HasBounds (bounds : Bounds) (terms : List Term) : Type 0 where
  pub least : bounds.least ≡ sum_of (map (λ term. term.bounds.least) terms)
  pub greatest : bounds.greatest ≡ sum_of (map (λ term. term.bounds.greatest) terms)

-- a number, or the one of two ends beyond which it lies
unfoldable pub clipped : ℤ → ℤ → ℤ → ℤ
clipped low high n = if int_lt n low then low else if int_lt high n then high else n

-- a list has each sum of what two terms may be worth, or the end beyond which it lies
abbrev pub HasSums : ℤ → ℤ → List ℤ → Term → Term → Type 0
HasSums low high domain first second =
    All (λ one. All (λ other. Contains domain (clipped low high (one.worth +ℤ other.worth))) second.steps.items) first.steps.items

-- a term is worth as much as two others, or more, or at least `high`
abbrev pub Reaches : ℤ → Term → Term → Term → List ℤ → Type 0
Reaches high first second sum values = (high ≤ℤ worth_of values sum) ⊎ ((worth_of values first +ℤ worth_of values second) ≤ℤ worth_of values sum)

-- a term is worth as much as two others, or less, or at most `low`
abbrev pub StaysWithin : ℤ → Term → Term → Term → List ℤ → Type 0
StaysWithin low first second sum values = (worth_of values sum ≤ℤ low) ⊎ (worth_of values sum ≤ℤ (worth_of values first +ℤ worth_of values second))

-- "at least" and "greater", which hold of what is greater too
abbrev pub is_upper : CompareOp → Bool
is_upper CompareOp.Equal = false
is_upper CompareOp.NotEqual = false
is_upper CompareOp.Less = false
is_upper CompareOp.AtMost = false
is_upper CompareOp.Greater = true
is_upper CompareOp.AtLeast = true

-- "at most" and "less", which hold of what is less too
abbrev pub is_lower : CompareOp → Bool
is_lower CompareOp.Equal = false
is_lower CompareOp.NotEqual = false
is_lower CompareOp.Less = true
is_lower CompareOp.AtMost = true
is_lower CompareOp.Greater = false
is_lower CompareOp.AtLeast = false

-- whether what stands for a part of a sum may be no less than the part
unfoldable pub needs_no_less : Comparison → Bool
needs_no_less c = is_some c.truth || not (is_upper c.op)

-- whether what stands for a part of a sum may be no greater than the part
unfoldable pub needs_no_greater : Comparison → Bool
needs_no_greater c = is_some c.truth || not (is_lower c.op)

-- A term stands for the sum of two others between two ends, as far as a comparison needs it.
pub record StandsForSum (c : Comparison) (low high : ℤ) (first second sum : Term) (values : List ℤ) : Type 0 where
  pub no_less : needs_no_less c ≡ true → Reaches high first second sum values
  pub no_greater : needs_no_greater c ≡ true → StaysWithin low first second sum values

-- the sum of terms compares so with the number, or the variable of its truth says whether it does
abbrev pub Compares : Comparison → List Term → List ℤ → Type 0
Compares c terms values = IsTrue (is_as_said values c.truth (compare_holds c.op (total values terms) c.number))

-- what a step is worth, or so much more from a number on
unfoldable pub raised : ℤ → ℤ → ℤ → ℤ
raised from by worth = if int_le from worth then worth +ℤ by else worth

-- a step that is worth so much more from a number on
unfoldable pub raised_step : ℤ → ℤ → Step → Step
raised_step from by step = record { value = step.value; worth = raised from by step.worth }

-- A term is another with what it is worth raised from a number on.
pub record IsRaised (from by : ℤ) (term high : Term) : Type 0 where
  pub source : high.source ≡ term.source
  pub rising : high.rising ≡ term.rising
  pub steps : high.steps.items ≡ map (raised_step from by) term.steps.items
  pub bounds : HoldsSteps high.bounds high.steps.items
