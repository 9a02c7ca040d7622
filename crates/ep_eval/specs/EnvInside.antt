-- What contracts see of an environment, and what is true of each.
use Rattle.std.specs.Prelude.{bytes_eq}
use Rattle.std.specs.Map.{lookup}
use Rattle.ep_base.specs.declared.names.Name.{Name}
use Rattle.ep_tree.specs.TypedValues.{IsTypedEnv}
use Rattle.ep_eval.specs.declared.environments.Env.TheInside.{Inside}
use Rattle.ep_eval.specs.Known.{HasAscendingDomains, StandsUnderName, KnownNames, env_of}

abbrev pub known_of : Inside → KnownNames
known_of env = record { mode = env.mode; names = env.known.entries }

-- each name stands for something of its type, the numbers of domains ascend, and entries bear the names that stand for them
pub record IsSoundEnv (env : Inside) : Type 0 where
  pub typed : IsTypedEnv (env_of (known_of env))
  pub ascending : HasAscendingDomains (env_of (known_of env))
  pub named : (name : Name) → StandsUnderName name (lookup (bytes_eq name) env.known.entries)
