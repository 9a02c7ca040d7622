-- What steps over trees come to: the task with what it needs, or the refusals of the first step that refuses.
use Rattle.std.specs.Prelude.{ℕ, List, [], ◌∷◌, map, Result, Ok, Err}
use Rattle.cnf_core.specs.Lines.{ProofLine}
use Rattle.cnf_core.specs.Literal.{Literal}
use Rattle.ep_tree.specs.Binding.{Instance, Refusal as BindRefusal, TextName, bind, missing_parameter, model_text, outside_domain, over_limit, parameter_text, solution_text, undefined_at, where_false}
use Rattle.ep_tree.specs.Faults.{Fault, ill_typed, open_domain, params_faults, redeclared, text_faults, unknown_name, wrong_category}
use Rattle.ep_tree.specs.SolutionTexts.{Shaped, read_solution}
use Rattle.ep_tree.specs.Solutions.{instance_limits}
use Rattle.ep_tree.specs.Statements.{TextTree}
use Rattle.ep_tree.specs.declared.values.Mode.{Mode}
use Rattle.ep_print.specs.declared.refusals.Refusal.{Refusal}
use Rattle.ep_print.specs.declared.refusals.TextFile.{TextFile}
use Rattle.opb_solve.specs.declared.replies.OpbRefusal.{OpbRefusal}
use Rattle.opb_text.specs.Contents.{OpbContent}
use Rattle.ep_driver.specs.declared.wanted.Request.{Request}

-- what steps come to: what they give, or the refusals of which one is answered
abbrev pub Outcome : Type 0 → Type 0
Outcome A = Result A (List Refusal)

-- refusals come first where there are any, and else an outcome
unfoldable pub unless_refused : {A : Type 0} → List Refusal → Outcome A → Outcome A
unless_refused [] outcome = outcome
unless_refused (r ∷ rs) outcome = Err (r ∷ rs)

-- a step, and then another that needs what it gives
unfoldable pub and_then : {A B : Type 0} → Outcome A → (A → Outcome B) → Outcome B
and_then (Ok x) next = next x
and_then (Err rs) next = Err rs

-- the refusal of a fault in a text
unfoldable pub fault_refusal : TextFile → Fault → Refusal
fault_refusal file (unknown_name place name) = Refusal.UnknownName file place name
fault_refusal file (redeclared place name) = Refusal.Redeclared file place name
fault_refusal file (ill_typed place) = Refusal.IllTyped file place
fault_refusal file (wrong_category place) = Refusal.WrongCategory file place
fault_refusal file (open_domain place) = Refusal.OpenDomain file place

-- the refusals of the faults of a text, of which any may be named
abbrev pub fault_refusals : TextFile → List Fault → List Refusal
fault_refusals file faults = map (fault_refusal file) faults

-- the word for the text of a place
unfoldable pub file_of : TextName → TextFile
file_of model_text = TextFile.Model
file_of parameter_text = TextFile.Params
file_of solution_text = TextFile.Solution

-- what refuses to bind, as a refusal of a run
unfoldable pub bind_refusal : BindRefusal → Refusal
bind_refusal (over_limit limit) = Refusal.Over limit
bind_refusal (undefined_at text place) = Refusal.Undefined (file_of text) place
bind_refusal (missing_parameter name) = Refusal.Missing name
bind_refusal (outside_domain name) = Refusal.Outside name
bind_refusal (where_false number) = Refusal.WhereFalse number

-- the same of several
abbrev pub bind_refusals : List BindRefusal → List Refusal
bind_refusals refusals = map bind_refusal refusals

-- the outcome of binding as one of a run
unfoldable pub as_outcome : {A : Type 0} → Result A (List BindRefusal) → Outcome A
as_outcome (Ok x) = Ok x
as_outcome (Err refusals) = Err (bind_refusals refusals)

-- what refuses the text of a pseudo-Boolean problem, as a refusal of a run
unfoldable pub opb_refusal : OpbRefusal → Refusal
opb_refusal OpbRefusal.TooLong = Refusal.TooLong TextFile.Opb
opb_refusal (OpbRefusal.Bad line) = Refusal.BadOpb line
opb_refusal (OpbRefusal.Over limit) = Refusal.Over limit

-- what binding a model and its parameters comes to, in a mode of undefinedness
abbrev pub bound_outcome : Mode → TextTree → TextTree → Outcome Instance
bound_outcome mode model params = as_outcome (bind mode model params)

-- The instance of a model and its parameters, within the limits: what refuses to bind comes first, and then what the
-- measures pass.
unfoldable pub instance_of : Mode → TextTree → TextTree → Outcome Instance
instance_of mode model params =
    and_then (bound_outcome mode model params) (λ i.
    unless_refused (bind_refusals (instance_limits mode i)) (Ok i))

-- a task with what it needs, in a mode of undefinedness: an instance to solve within so many conflicts; one to solve by cubes over at most
-- so many variables, each within so many conflicts; one of which at most so many solutions are to be listed within so many conflicts; one to explain, each attempt within so many conflicts; or one with what a solution
-- text gives it; or a pseudo-Boolean problem, to solve within so many conflicts; or the clauses of a formula with the lines of a proof
-- that is to be checked; or the instance of a number's texts, to solve within so many conflicts and to sum up
pub data Task : Type 0 where
  to_solve : Mode → Instance → ℕ → Task
  to_divide : Mode → Instance → ℕ → ℕ → Task
  to_list : Mode → Instance → ℕ → ℕ → Task
  to_explain : Mode → Instance → ℕ → Task
  to_judge : Mode → Instance → Shaped → Task
  to_solve_opb : OpbContent → ℕ → Task
  to_check : List (List Literal) → List ProofLine → Task
  to_generate : ℕ → Mode → Instance → ℕ → Task

-- the task of a search in an instance
unfoldable pub searched_task : Mode → Request → Instance → Task
searched_task mode (Request.One conflicts) i = to_solve mode i conflicts
searched_task mode (Request.Divided cubes conflicts) i = to_divide mode i cubes conflicts
searched_task mode (Request.Many most conflicts) i = to_list mode i most conflicts
searched_task mode (Request.Explained conflicts) i = to_explain mode i conflicts
searched_task mode (Request.Generated number conflicts) i = to_generate number mode i conflicts

-- What a search in a model under parameters comes to. The faults of the model come first, then those of the parameters.
unfoldable pub search_outcome : Mode → Request → TextTree → TextTree → Outcome Task
search_outcome mode request model params =
    unless_refused (fault_refusals TextFile.Model (text_faults model))
    (unless_refused (fault_refusals TextFile.Params (params_faults params))
    (and_then (instance_of mode model params) (λ i. Ok (searched_task mode request i))))

-- what judging a solution text by an instance comes to
unfoldable pub judge_outcome : Mode → Instance → TextTree → Outcome Task
judge_outcome mode i solution =
    and_then (as_outcome (read_solution mode i solution)) (λ shaped. Ok (to_judge mode i shaped))

-- What verifying a solution text comes to. Its faults come before binding, and its lettings are evaluated last.
unfoldable pub verify_outcome : Mode → TextTree → TextTree → TextTree → Outcome Task
verify_outcome mode model params solution =
    unless_refused (fault_refusals TextFile.Model (text_faults model))
    (unless_refused (fault_refusals TextFile.Params (params_faults params))
    (unless_refused (fault_refusals TextFile.Solution (params_faults solution))
    (and_then (instance_of mode model params) (λ i.
    and_then (as_outcome (read_solution mode i solution)) (λ shaped. Ok (to_judge mode i shaped))))))
