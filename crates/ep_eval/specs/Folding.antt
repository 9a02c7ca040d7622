-- What folding a matrix gives, where the products of its first parts may be too far from 0.
use Rattle.std.specs.Prelude.{◌≡◌, ℤ, pos, true, false, Result, Ok, Err, List, ◌++◌, Option, option_to_list, unwrap_or, []}
use Rattle.std.specs.List.{list_any}
use Rattle.ep_base.specs.Reads.{is_too_far}
use Rattle.ep_base.specs.declared.operators.Limit.{Limit as LimitName}
use Rattle.ep_tree.specs.Evaluation.{folded_value, number_in}
use Rattle.ep_tree.specs.Limits.{products_from}
use Rattle.ep_tree.specs.Values.{ValueTree}
use Rattle.ep_tree.specs.declared.syntax.FoldOp.{FoldOp}
use Rattle.ep_tree.specs.declared.values.Mode.{Mode}
use Rattle.ep_eval.specs.Counting.{is_far_value}
use Rattle.ep_eval.specs.Helds.{seen_held}
use Rattle.ep_eval.specs.declared.errors.EvalError.{EvalError}
use Rattle.ep_eval.specs.declared.errors.EvalError.TheVariants.{Limit, Memory}
use Rattle.ep_eval.specs.declared.held.Held.{Held}

-- the numbers at a fold: its value, and at a product those of its first parts
unfoldable pub folded_numbers : Mode → FoldOp → Option (List ℤ) → List ℤ
folded_numbers mode FoldOp.Product xs =
    option_to_list (number_in (folded_value mode FoldOp.Product xs)) ++ products_from (pos 1) (unwrap_or xs [])
folded_numbers mode op xs = option_to_list (number_in (folded_value mode op xs))

-- a value whose node has some numbers: none is too far from 0 but for the value, or one refuses it
abbrev pub GivesAt : Result (Option Held) EvalError → Option ValueTree → List ℤ → Type 0
GivesAt (Ok seen) v numbers = (seen_held seen ≡ v) × (is_far_value v ≡ false → list_any is_too_far numbers ≡ false)
GivesAt (Err (Limit l)) v numbers = (l ≡ LimitName.Reach) × (list_any is_too_far numbers ≡ true)
GivesAt (Err Memory) v numbers = Unit {0}
