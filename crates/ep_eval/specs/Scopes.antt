-- Where an expression is evaluated, as the definitions' environment.
use Rattle.std.specs.Prelude.{ℤ, Option, Some, None}
use Rattle.ep_tree.specs.Environments.{Env, with_number}
use Rattle.ep_tree.specs.Values.{ValueTree, single}
use Rattle.ep_tree.specs.declared.values.Mode.{Mode}
use Rattle.ep_eval.specs.Known.{env_of}
use Rattle.ep_eval.specs.declared.scopes.Around.{Around, Nothing, Number'}
use Rattle.ep_eval.specs.declared.scopes.Scope.{Scope}

-- an environment with the numbers of quantified names
unfoldable pub with_all : Env → Around → Env
with_all env Nothing = env
with_all env (Number' _ outer name s n) = with_number name.now s n (with_all env outer)

-- the environment of a scope
abbrev pub env_in : Scope → Env
env_in scope = with_all (env_of scope.env.now) scope.around.now

-- the mode of a scope
abbrev pub mode_in : Scope → Mode
mode_in scope = scope.env.now.mode

-- the number of a quantified name, and else what the name is worth without it
unfoldable pub number_or_value : Option ℤ → Option ValueTree → Option ValueTree
number_or_value None v = v
number_or_value (Some n) v = Some (single n)
