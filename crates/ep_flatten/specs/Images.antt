-- The numbers that a term may have, where each of its parts has a number of its variable's domain.
use Rattle.std.specs.Prelude.{◌≡◌, ℕ, ℤ, ◌+ℤ◌, ◌*ℤ◌, List, [], Option, Some, slice_index_or}
use Rattle.std.specs.List.{All, Any, Contains}
use Rattle.ep_base.specs.Intervals.{Interval, LiesIn}
use Rattle.ep_base.specs.Numbers.{absolute_of, nth_power}
use Rattle.ep_base.specs.Reads.{IsWithinNumbers, safe_quotient, safe_remainder}
use Rattle.ep_base.specs.Runs.{IsIn}
use Rattle.ep_base.specs.declared.run_lists.Run.{Run}
use Rattle.ep_flatten.specs.Forms.{TermForm, form_parts, form_value}
use Rattle.ep_flatten.specs.Saying.{variable_at}
use Rattle.ep_flatten.specs.declared.images.Operation.TheVariants as one
use Rattle.ep_flatten.specs.declared.images.Operation.{Operation}
use Rattle.ep_flatten.specs.declared.images.Pairing.TheVariants as two
use Rattle.ep_flatten.specs.declared.images.Pairing.{Pairing}
use Rattle.ep_ground.specs.Nodes.{GroundNode}

-- the domain of a term's variable
abbrev pub domain_at : List (List ℤ) → List ℕ → ℕ → List ℤ
domain_at vars places t = slice_index_or vars (variable_at places t) []

-- Each of some terms has a number of its variable's domain, where it has a number.
abbrev pub HaveNumbersOf : List (List ℤ) → List ℕ → (ℕ → Option ℤ) → List ℕ → Type 0
HaveNumbersOf vars places value ts = All (λ t. (n : ℤ) → value t ≡ Some n → Contains (domain_at vars places t) n) ts

-- A domain has the numbers of an interval that a term with this node and this form has, whatever numbers of their domains
-- its parts have, and no number that is too far from 0.
pub record HoldsImage (vars : List (List ℤ)) (places : List ℕ) (node : GroundNode) (form : TermForm) (span : Interval) (domain : List ℤ) : Type 0 where
  pub small : All IsWithinNumbers domain
  pub holds : (cells : List ℤ) (value : ℕ → Option ℤ) → HaveNumbersOf vars places value (form_parts node form) → (n : ℤ) → form_value cells value node form ≡ Some n → LiesIn n span → Contains domain n

-- an operation on one number
unfoldable pub operation_result : Operation → ℤ → ℤ
operation_result one.Same x = x
operation_result (one.Scaled k c) x = c +ℤ (k *ℤ x)
operation_result (one.Power n) x = nth_power x n
operation_result one.Absolute x = absolute_of x
operation_result (one.Times a) x = a *ℤ x
operation_result (one.Over a) x = safe_quotient a x
operation_result (one.Modulo a) x = safe_remainder a x

-- an operation on two numbers
unfoldable pub paired : Pairing → ℤ → ℤ → ℤ
paired two.Product x y = x *ℤ y
paired two.Quotient x y = safe_quotient x y
paired two.Remainder x y = safe_remainder x y

-- the result for a number is there, where it lies in an interval
abbrev pub HasResult : Interval → (ℤ → ℤ) → (ℤ → Type 0) → ℤ → Type 0
HasResult span f has x = LiesIn (f x) span → has (f x)

-- the results for a number and each of some others are there
abbrev pub HasPairs : Interval → (ℤ → ℤ → ℤ) → List ℤ → (ℤ → Type 0) → ℤ → Type 0
HasPairs span f ys has x = All (HasResult span (f x) has) ys

-- the numbers of a term's variable are there
abbrev pub HasNumbers : Interval → List (List ℤ) → List ℕ → (ℤ → Type 0) → ℕ → Type 0
HasNumbers span vars places has t = All (HasResult span (λ x. x) has) (domain_at vars places t)

-- a run lies in an interval
abbrev pub IsWithinSpan : Interval → Run → Type 0
IsWithinSpan span run = LiesIn run.lo span × LiesIn run.hi span

-- Runs go on with numbers of an interval: what some things lead to is there.
pub record Collects {X : Type 0} (span : Interval) (leads : (ℤ → Type 0) → X → Type 0) (xs : List X) (old new : List Run) : Type 0 where
  pub small : All (IsWithinSpan span) old → All (IsWithinSpan span) new
  pub stays : (n : ℤ) → Any (IsIn n) old → Any (IsIn n) new
  pub has : All (leads (λ n. Any (IsIn n) new)) xs

-- A set has what some things lead to, and numbers of an interval alone.
pub record IsDomainImage {X : Type 0} (span : Interval) (leads : (ℤ → Type 0) → X → Type 0) (xs : List X) (set : List ℤ) : Type 0 where
  pub small : All (λ n. LiesIn n span) set
  pub has : All (leads (Contains set)) xs
