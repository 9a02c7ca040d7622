-- What evaluation has met so far, and what refuses it.
use Rattle.std.specs.Prelude.{◌≡◌, ◌&&◌, ◌||◌, ℤ, nat_abs, ℕ, ◌+◌, ◌≤◌, Bool, true, false, Result, Ok, Err, List, length, flat_map, Option, Some, None, option_to_list}
use Rattle.std.specs.List.{list_any}
use Rattle.ep_base.specs.Reads.{is_too_far}
use Rattle.ep_base.specs.declared.operators.Limit.{Limit as LimitName}
use Rattle.ep_tree.specs.Evaluation.{all_true, any_true, number_in, truth_in}
use Rattle.ep_tree.specs.Limits.{MOST_SIZE, numbers_at}
use Rattle.ep_tree.specs.Measures.{Met}
use Rattle.ep_tree.specs.Values.{ValueTree}
use Rattle.ep_tree.specs.declared.syntax.BinaryOp.{BinaryOp}
use Rattle.ep_tree.specs.declared.values.Mode.{Mode}
use Rattle.ep_eval.specs.Helds.{seen_held}
use Rattle.ep_eval.specs.declared.errors.EvalError.{EvalError}
use Rattle.ep_eval.specs.declared.errors.EvalError.TheVariants.{Limit, Memory}
use Rattle.ep_eval.specs.declared.held.Held.{Held}

-- nodes that pass no limit, behind so many others: how many were met by their end
pub record Counted (mode : Mode) (before after : ℕ) (ms : List Met) : Type 0 where
  pub count : after ≡ before + length ms
  pub small : after ≤ MOST_SIZE
  pub near : list_any is_too_far (flat_map (numbers_at mode) ms) ≡ false

-- whether a value is a number too far from 0
abbrev pub is_far_value : Option ValueTree → Bool
is_far_value v = list_any is_too_far (option_to_list (number_in v))

-- a value is refused: it is a number too far from 0
abbrev pub IsTooFar : Option ValueTree → EvalError → Type 0
IsTooFar v (Limit l) = (l ≡ LimitName.Reach) × (is_far_value v ≡ true)
IsTooFar v Memory = Unit {0}

-- a value, unless it is a number too far from 0
abbrev pub Gives : Result (Option Held) EvalError → Option ValueTree → Type 0
Gives (Ok seen) v = seen_held seen ≡ v
Gives (Err e) v = IsTooFar v e

-- what an operator gives where a part has no value
unfoldable pub undefined_binary : Mode → BinaryOp → Option ValueTree
undefined_binary mode BinaryOp.Implies = truth_in mode None
undefined_binary mode BinaryOp.Iff = truth_in mode None
undefined_binary mode _ = None

-- two truths together: both, or one of them
unfoldable pub together : Bool → Bool → Bool → Bool
together true a b = a && b
together false a b = a || b

-- whether all of some values are true, or one is, where each is defined
unfoldable pub of_all : Bool → List (Option ValueTree) → Option Bool
of_all true vs = all_true vs
of_all false vs = any_true vs

-- a total, where there is one, lies at most so far from 0
unfoldable pub IsWithin : ℕ → Option ℤ → Type 0
IsWithin most None = Unit {0}
IsWithin most (Some n) = nat_abs n ≤ most
