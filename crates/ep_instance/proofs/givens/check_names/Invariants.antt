use Rattle.std.proofs.Common.{◌≡◌, drop}
use Rattle.ep_eval.specs.Known.{env_of}
use Rattle.ep_tree.specs.Binding.{first_missing}
use Rattle.ep_instance.specs.Steps.{nothing_refused}
use Rattle.ep_instance.proofs.givens.check_names.Given as goal

abbrev pub invariant-loop-name : goal.invariant-loop-name
invariant-loop-name l =
    nothing_refused (first_missing (env_of l.params) l.names) ≡ nothing_refused (first_missing (env_of l.params) (drop l.name-index l.names))
