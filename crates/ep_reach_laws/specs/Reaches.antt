-- Numbers and reaches of what is met, with the values of decision variables and with their cells: laws, as statements.
use Rattle.std.specs.Prelude.{◌≡◌, ℕ, List, [], ◌∷◌, ℤ, Some, All, sum_by}
use Rattle.std.proofs.Common.{◌⊎◌}
use Rattle.ep_base.specs.Intervals.{Interval, LiesIn}
use Rattle.ep_base.specs.declared.operators.Sense.{Sense}
use Rattle.ep_tree.specs.Agreement.{Agreed}
use Rattle.ep_tree.specs.Binding.{Instance}
use Rattle.ep_tree.specs.Closed.{IsClosed}
use Rattle.ep_tree.specs.Environments.{Env}
use Rattle.ep_tree.specs.Limits.{limits_of_values, numbers_at}
use Rattle.ep_tree.specs.Measures.{Met, met, reaches_at}
use Rattle.ep_tree.specs.Solutions.{Assigned, Fits, Found, cell_count, limits_passed, met_instance, under}
use Rattle.ep_tree.specs.Trees.{ExprTree}
use Rattle.ep_tree.specs.declared.values.Mode.{Mode}

-- a number lies in one of some intervals
abbrev pub LiesInOne : ℤ → List Interval → Type 0
LiesInOne n [] = ⊥
LiesInOne n (i ∷ is) = LiesIn n i ⊎ LiesInOne n is

-- each of some numbers does
abbrev pub EachLiesInOne : List ℤ → List Interval → Type 0
EachLiesInOne [] is = Unit {0}
EachLiesInOne (n ∷ ns) is = LiesInOne n is × EachLiesInOne ns is

-- As many nodes are met with the values as with the cells, and each number at one of them lies in a reach at the other.
abbrev pub LieInReaches : Mode → List Met → List Met → Type 0
LieInReaches mode [] [] = Unit {0}
LieInReaches mode [] (n ∷ ns) = ⊥
LieInReaches mode (m ∷ ms) [] = ⊥
LieInReaches mode (m ∷ ms) (n ∷ ns) = EachLiesInOne (numbers_at mode n) (reaches_at mode m) × LieInReaches mode ms ns

-- the numbers at what an expression meets lie in the reaches there
abbrev pub NumbersLieInReaches : Type 0
NumbersLieInReaches =
    (mode : Mode) (cells values : Env) (e : ExprTree) → Agreed cells values e
    → LieInReaches mode (met mode cells e) (met mode values e)

-- where what is met with the cells passes no limit, neither does what is met with the values
abbrev pub LimitsAreKept : Type 0
LimitsAreKept =
    (mode : Mode) (cells values : Env) (e : ExprTree) → Agreed cells values e
    → (before : ℕ) → limits_passed mode before (met mode cells e) ≡ []
    → limits_of_values mode before (met mode values e) ≡ []

-- in an environment no limit is passed by the values of an instance's clauses, nor by that of its objective
pub record PassesNoLimit (mode : Mode) (env : Env) (i : Instance) : Type 0 where
  pub clauses : All (λ e. limits_of_values mode 0 (met mode env e) ≡ []) i.clauses
  pub goal :
      (sense : Sense) (e : ExprTree) → i.goal ≡ Some (sense, e)
      → limits_of_values mode 0 (met mode env e) ≡ []

-- where an instance is within the limits of size and of reach, no values that fit pass one
abbrev pub FittingPassesNoLimit : Type 0
FittingPassesNoLimit =
    (mode : Mode) (i : Instance) → IsClosed i
    → limits_passed mode (sum_by (λ f. cell_count f.indices) i.finds) (met_instance mode i) ≡ []
    → (a : Assigned) (found : Found) → Fits i a found → PassesNoLimit mode (under i found) i
