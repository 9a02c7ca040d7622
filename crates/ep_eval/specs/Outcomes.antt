-- What the answers of the evaluator say.
use Rattle.std.specs.Prelude.{List, Contains, Some, None, Option}
use Rattle.ep_base.specs.declared.operators.Limit.{Limit as LimitName}
use Rattle.ep_tree.specs.Values.{ValueTree}
use Rattle.ep_tree.specs.Views.{value_tree}
use Rattle.ep_eval.specs.declared.errors.EvalError.{EvalError}
use Rattle.ep_eval.specs.declared.errors.EvalError.TheVariants.{Limit, Memory}
use Rattle.ep_eval.specs.declared.evaluation.Seen.{Seen}
use Rattle.ep_eval.specs.declared.evaluation.Seen.TheVariants.{Value, Undefined}

-- the value that was seen, if any was
unfoldable pub seen_value : Seen → Option ValueTree
seen_value (Value v) = Some (value_tree v)
seen_value Undefined = None

-- an error has its cause: a limit that is named is one of those that are passed, and want of memory needs no cause
abbrev pub IsCause : List LimitName → EvalError → Type 0
IsCause passed (Limit l) = Contains passed l
IsCause passed Memory = Unit {0}
