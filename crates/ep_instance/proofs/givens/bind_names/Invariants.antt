use Rattle.std.proofs.Common.{◌≡◌, drop}
use Rattle.ep_eval.specs.Known.{env_of}
use Rattle.ep_tree.specs.Binding.{Shape, bind_names}
use Rattle.ep_instance_parts.specs.Reading.{IsShape}
use Rattle.ep_instance.proofs.givens.bind_names.Given as goal

abbrev pub invariant-loop-name : goal.invariant-loop-name
invariant-loop-name l =
    (l.env.mode ≡ l.initial.env.mode)
    × ((bound : Shape) → IsShape bound l.shape
    → bind_names (env_of l.params) bound l.names (env_of l.initial.env) ≡ bind_names (env_of l.params) bound (drop l.name-index l.names) (env_of l.env))
