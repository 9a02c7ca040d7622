-- What contracts see of an environment of the code: the mode, and what each name stands for.
use Rattle.std.specs.Prelude.{◌≡◌, List, Option, Some, ⊤, bytes_eq, option_map}
use Rattle.std.specs.Map.{lookup}
use Rattle.ep_base.specs.declared.names.Name.{Name}
use Rattle.ep_tree.specs.Environments.{Env, HasAscendingDomain}
use Rattle.ep_tree.specs.declared.values.Mode.{Mode}
use Rattle.ep_eval.specs.Bounds.{bound_of}
use Rattle.ep_eval.specs.declared.environments.Meaning.{Meaning}
use Rattle.ep_eval.specs.declared.environments.Meaning.TheVariants.{Value}

-- names with what they stand for, and the mode
pub record KnownNames : Type 0 where
  pub mode : Mode
  pub names : List (Name × Meaning)

-- the environment of the definitions
abbrev pub env_of : KnownNames → Env
env_of known name = option_map bound_of (lookup (bytes_eq name) known.names)

-- the numbers of each domain's name ascend
abbrev pub HasAscendingDomains : Env → Type 0
HasAscendingDomains env = (name : Name) → HasAscendingDomain (env name)

-- a value that a name stands for is an entry of that name
unfoldable pub StandsUnderName : Name → Option Meaning → Type 0
StandsUnderName name (Some (Value e)) = e.name ≡ name
StandsUnderName _ _ = ⊤
