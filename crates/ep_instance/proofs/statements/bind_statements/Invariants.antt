use Rattle.std.proofs.Common.{◌≡◌, length, map}
use Rattle.std.specs.Vec.Iter.{into_iter_items, into_iter_len}
use Rattle.ep_eval.specs.Known.{env_of}
use Rattle.ep_tree.specs.Binding.{bind_statements, nothing_bound}
use Rattle.ep_tree.specs.Views.{statement_tree}
use Rattle.ep_instance.specs.Progressing.{progress_of}
use Rattle.ep_instance.proofs.ProgressSteps.{Remains}
use Rattle.ep_instance.proofs.statements.bind_statements.Given as goal

abbrev pub invariant-loop-statement : goal.invariant-loop-statement
invariant-loop-statement l =
    (l.at.env.mode ≡ l.fn.mode)
    × (bind_statements l.fn.mode (env_of l.params) nothing_bound (map statement_tree l.fn.statements.items)
    ≡ bind_statements l.fn.mode (env_of l.params) (progress_of l.at) (map statement_tree (into_iter_items l.statement-iterator)))
    × Remains (progress_of l.at).instance (map statement_tree (into_iter_items l.statement-iterator))
    × (into_iter_len l.statement-iterator ≡ length (into_iter_items l.statement-iterator))
