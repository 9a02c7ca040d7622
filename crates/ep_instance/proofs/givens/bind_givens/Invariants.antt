use Rattle.std.proofs.Common.{◌≡◌, [], drop, false, map, true}
use Rattle.ep_eval.specs.Known.{env_of}
use Rattle.ep_tree.specs.Binding.{bind_givens}
use Rattle.ep_tree.specs.Environments.{context_of}
use Rattle.ep_tree.specs.Faults.{group_faults}
use Rattle.ep_tree.specs.Views.{group_of}
use Rattle.ep_instance.proofs.givens.bind_givens.Given as goal

abbrev pub invariant-loop-group : goal.invariant-loop-group
invariant-loop-group l =
    (l.env.mode ≡ l.initial.env.mode)
    × (group_faults (context_of (env_of l.env)) false true (map group_of (drop l.group-index l.groups)) ≡ [])
    × (bind_givens l.initial.env.mode l.place (env_of l.params) (map group_of l.groups) (env_of l.initial.env)
    ≡ bind_givens l.initial.env.mode l.place (env_of l.params) (map group_of (drop l.group-index l.groups)) (env_of l.env))
