-- Sums of terms as sums of flat variables, and the flat constraints that are made of them.
use Rattle.std.specs.Prelude.{◌≡◌, ◌↔◌, ◌⊎◌, ◌<◌, ◌≤◌, ℕ, ◌+◌, ℤ, pos, neg_ℤ, if◌then◌else◌, ◌+ℤ◌, ◌*ℤ◌, ◌≤ℤ◌, Bool, true, false, IsTrue, List, [], ◌∷◌, ◌++◌, length, map, sum_by, unsigned_abs}
use Rattle.std.specs.List.{All, AllZip, Contains}
use Rattle.ep_base.specs.Reads.{IsWithinNumbers, weighted_sum}
use Rattle.ep_base.specs.declared.operators.CompareOp.{CompareOp}
use Rattle.ep_flat.specs.Cons.{FlatCon, con_holds, number_at}
use Rattle.ep_flat.specs.Flats.{FlatState, HasSmallCoefficients, NamesBelow}
use Rattle.opb_text.specs.declared.content.OpbTerm.{OpbTerm}
use Rattle.opb_text.specs.Contents.{OpbConstraint}
use Rattle.opb_text.specs.Flats.{truths_of}
use Rattle.opb_text.specs.Solutions.{RowHolds, terms_total}
use Rattle.opb_text.specs.Weights.{factors_reach}

-- a number is 0 or 1
abbrev pub IsBit : ℤ → Type 0
IsBit number = (number ≡ pos 0) ⊎ (number ≡ pos 1)

-- numbers of some variables, each 0 or 1
pub record AreBitsOf (vars : List ℕ) (values : List ℤ) : Type 0 where
  pub long : length values ≡ length vars
  pub bits : All IsBit values

-- the flat variables with coefficients, each with its number
abbrev pub weighed_part : List ℤ → ℤ × ℕ → ℤ × ℤ
weighed_part values p = (p.0, number_at values p.1)

-- what flat variables with coefficients add up to
abbrev pub opb_parts_total : List ℤ → List (ℤ × ℕ) → ℤ
opb_parts_total values parts = weighted_sum (map (weighed_part values) parts)

-- the absolute values of coefficients, added up
abbrev pub parts_reach : List (ℤ × ℕ) → ℕ
parts_reach parts = sum_by (λ p. unsigned_abs p.0) parts

-- each variable is one of so many
abbrev pub NamesUpTo : ℕ → List (ℤ × ℕ) → Type 0
NamesUpTo count parts = All (λ p. p.1 < count) parts

-- flat variables and a number add up to what terms do
pub record IsSumOf (vars : List ℕ) (terms : List OpbTerm) (parts : List (ℤ × ℕ)) (constant : ℤ) : Type 0 where
  pub value : (values : List ℤ) → AreBitsOf vars values → terms_total (truths_of vars values) terms ≡ (opb_parts_total values parts +ℤ constant)
  pub names : NamesUpTo (length vars) parts
  pub size : parts_reach parts ≤ factors_reach terms
  pub constant_size : unsigned_abs constant ≤ factors_reach terms

-- a part came to others: they come to as much more
pub record TakesInPart (part : ℤ × ℕ) (old new : List (ℤ × ℕ)) : Type 0 where
  pub value : (values : List ℤ) → All IsBit values → opb_parts_total values new ≡ (opb_parts_total values old +ℤ (part.0 *ℤ number_at values part.1))
  pub names : (count : ℕ) → NamesUpTo count old → part.1 < count → NamesUpTo count new
  pub size : parts_reach new ≤ parts_reach old + unsigned_abs part.0

-- parts come to the same as others, and are no larger
pub record PartsComeTo (old new : List (ℤ × ℕ)) : Type 0 where
  pub value : (values : List ℤ) → All IsBit values → opb_parts_total values new ≡ opb_parts_total values old
  pub names : (count : ℕ) → NamesUpTo count old → NamesUpTo count new
  pub size : parts_reach new ≤ parts_reach old

-- each term's variable is one of these
abbrev pub AreNamed : List ℕ → List OpbTerm → Type 0
AreNamed vars terms = All (λ t. Contains vars t.var) terms

-- a flat constraint that holds exactly where a constraint does
pub record IsConOf (vars : List ℕ) (row : OpbConstraint) (con : FlatCon) : Type 0 where
  pub holds : (values more : List ℤ) → AreBitsOf vars values → IsTrue (con_holds (values ++ more) con) ↔ RowHolds (truths_of vars values) row
  pub names : NamesBelow (length vars) con
  pub small : HasSmallCoefficients con

-- for each constraint a flat one
abbrev pub AreConsOf : List ℕ → List OpbConstraint → List FlatCon → Type 0
AreConsOf vars rows cons = AllZip (IsConOf vars) rows cons

-- the numbers that lie between two others
pub record IsSpan (low high : ℤ) (domain : List ℤ) : Type 0 where
  pub has : (number : ℤ) → Contains domain number ↔ ((low ≤ℤ number) × (number ≤ℤ high))

-- a flat constraint that holds exactly where the variable behind these has the value of terms
pub record IsGoalCon (vars : List ℕ) (terms : List OpbTerm) (con : FlatCon) : Type 0 where
  pub holds : (values : List ℤ) (number : ℤ) → AreBitsOf vars values
      → IsTrue (con_holds (values ++ number ∷ []) con) ↔ (number ≡ terms_total (truths_of vars values) terms)
  pub names : NamesBelow (length vars + 1) con
  pub small : HasSmallCoefficients con

-- a flat problem goes on with a variable that has the value of terms
pub record GoesOnWith (vars : List ℕ) (terms : List OpbTerm) (old new : FlatState) : Type 0 where
  pub domain : List ℤ
  pub con : FlatCon
  pub vars_are : new.vars ≡ old.vars ++ domain ∷ []
  pub cons_are : new.cons ≡ old.cons ++ con ∷ []
  pub is_goal : IsGoalCon vars terms con
  pub has_value : (truths : ℕ → Bool) → Contains domain (terms_total truths terms)
  pub near : All IsWithinNumbers domain

-- each variable of constraints is one of these
abbrev pub AreNamedRows : List ℕ → List OpbConstraint → Type 0
AreNamedRows vars rows = All (λ row. AreNamed vars row.terms) rows

-- how the two sides of a constraint are compared
abbrev pub compared : Bool → CompareOp
compared true = CompareOp.Equal
compared false = CompareOp.AtLeast

-- what a term counts: nothing, or its factor
abbrev pub IsFactorValue : ℤ → ℤ → Type 0
IsFactorValue factor value = (value ≡ pos 0) ⊎ (value ≡ factor)

-- what the variable of a term is multiplied by
abbrev pub coefficient_of : OpbTerm → ℤ
coefficient_of t = if t.negated then neg_ℤ t.factor else t.factor

-- what a term counts where its variable is false
abbrev pub base_of : OpbTerm → ℤ
base_of t = if t.negated then t.factor else pos 0
