use Rattle.std.proofs.Common.{◌≡◌, drop, map, filter}
use Rattle.ep_eval.specs.Known.{env_of}
use Rattle.ep_tree.specs.Binding.{bind_params}
use Rattle.ep_tree.specs.Names.{nothing_known}
use Rattle.ep_tree.specs.StatementSpelling.{is_letting}
use Rattle.ep_tree.specs.Views.{statement_tree}
use Rattle.ep_instance_parts.specs.Refusals.{text_name}
use Rattle.ep_instance.proofs.ParamSteps.{Left}
use Rattle.ep_instance.proofs.lettings.bind_params.Given as goal

abbrev pub invariant-loop-statement : goal.invariant-loop-statement
invariant-loop-statement l =
    (l.env.mode ≡ l.fn.mode)
    × Left (env_of l.env) (map statement_tree (drop l.statement-index l.statements))
    × (bind_params l.fn.mode (text_name l.text) nothing_known (filter is_letting (map statement_tree l.statements))
    ≡ bind_params l.fn.mode (text_name l.text) (env_of l.env) (filter is_letting (map statement_tree (drop l.statement-index l.statements))))
