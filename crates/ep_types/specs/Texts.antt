-- The text that was checked.
use Rattle.ep_tree.specs.Statements.{TextTree}
use Rattle.ep_tree.specs.Views.{model_tree, params_tree}
use Rattle.ep_types.specs.declared.typed.Typed.{Typed}
use Rattle.ep_types.specs.declared.typed.TypedParams.{TypedParams}

-- a model that was checked
abbrev pub typed_tree : Typed → TextTree
typed_tree typed = model_tree typed.model

-- a parameter or solution text that was checked
abbrev pub typed_params_tree : TypedParams → TextTree
typed_params_tree typed = params_tree typed.params
