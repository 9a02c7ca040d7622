-- What the program's refusals say in the words of the definitions.
use Rattle.std.specs.Prelude.{◌≡◌, List, Result, Ok, Err, Contains}
use Rattle.ep_tree.specs.Binding.{Refusal, TextName, missing_parameter, model_text, outside_domain, over_limit, parameter_text, solution_text, undefined_at, where_false}
use Rattle.ep_eval.specs.declared.errors.EvalError.{EvalError}
use Rattle.ep_eval.specs.declared.errors.EvalError.TheVariants as error
use Rattle.ep_instance_parts.specs.declared.errors.BindError.{BindError}
use Rattle.ep_instance_parts.specs.declared.errors.BindError.TheVariants.{Missing, Outside, Undefined, WhereFalse, Limit, Memory}
use Rattle.ep_instance_parts.specs.declared.errors.Source.{Source}
use Rattle.ep_instance_parts.specs.declared.errors.Source.TheVariants.{Model, Params, Solution}

-- which text a place is in
abbrev pub text_name : Source → TextName
text_name Model = model_text
text_name Params = parameter_text
text_name Solution = solution_text

-- an error is one of some refusals; want of memory is the one that needs no cause
abbrev pub IsOneOf : BindError → List Refusal → Type 0
IsOneOf (Missing name) refusals = Contains refusals (missing_parameter name)
IsOneOf (Outside name) refusals = Contains refusals (outside_domain name)
IsOneOf (Undefined source place) refusals = Contains refusals (undefined_at (text_name source) place)
IsOneOf (WhereFalse number) refusals = Contains refusals (where_false number)
IsOneOf (Limit limit) refusals = Contains refusals (over_limit limit)
IsOneOf Memory refusals = Unit {0}

-- an error answers what is defined, where that is a list of refusals; want of memory may come at any point
abbrev pub RefusesBinding : {A : Type 0} → BindError → Result A (List Refusal) → Type 0
RefusesBinding Memory said = Unit {0}
RefusesBinding e (Ok x) = ⊥
RefusesBinding e (Err refusals) = IsOneOf e refusals

-- an answer, seen by a view, is what is defined
abbrev pub BindsTo : {V A : Type 0} → (V → A) → Result V BindError → Result A (List Refusal) → Type 0
BindsTo view (Ok x) said = said ≡ Ok (view x)
BindsTo view (Err e) said = RefusesBinding e said

-- an error of the evaluator, as one of binding
abbrev pub bind_error : EvalError → BindError
bind_error (error.Limit l) = Limit l
bind_error error.Memory = Memory
