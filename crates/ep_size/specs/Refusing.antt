-- What the evaluator's errors are here.
use Rattle.ep_eval.specs.declared.errors.EvalError.{EvalError}
use Rattle.ep_eval.specs.declared.errors.EvalError.TheVariants as eval
use Rattle.ep_size.specs.declared.errors.SizeError.{SizeError}
use Rattle.ep_size.specs.declared.errors.SizeError.TheVariants.{Limit, Memory}

-- an error of evaluation
abbrev pub of_evaluation : EvalError → SizeError
of_evaluation (eval.Limit l) = Limit l
of_evaluation eval.Memory = Memory
