-- The instance of the two texts that are generated from a number.
use Rattle.std.specs.Prelude.{◌≡◌, ℕ, [], Ok}
use Rattle.ep_tree.specs.Binding.{Instance, bind}
use Rattle.ep_tree.specs.Faults.{params_faults, text_faults}
use Rattle.ep_tree.specs.Solutions.{instance_limits}
use Rattle.ep_tree.specs.Statements.{TextTree}
use Rattle.ep_tree.specs.Texts.{AnswersModel, AnswersParams, read_as}
use Rattle.ep_tree.specs.declared.values.Mode.{Mode}
use Rattle.ep_gen.specs.Texts.{generated_model, generated_params}

-- Both texts of a number are read, neither has a fault, they are bound together in the relational mode, and the instance passes no limit.
pub record GivesInstance (number : ℕ) : Type 0 where
  pub model : TextTree
  pub params : TextTree
  pub model_is_read : AnswersModel generated_model (read_as model)
  pub params_are_read : AnswersParams (generated_params number) (read_as params)
  pub model_is_faultless : text_faults model ≡ []
  pub params_are_faultless : params_faults params ≡ []
  pub instance : Instance
  pub bound : bind Mode.Relational model params ≡ Ok instance
  pub within : instance_limits Mode.Relational instance ≡ []

-- each number gives an instance
abbrev pub EachNumberGivesInstance : Type 0
EachNumberGivesInstance = (number : ℕ) → GivesInstance number
