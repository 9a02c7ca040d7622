use Rattle.std.proofs.Common.{◌≡◌, drop, map}
use Rattle.ep_tree.specs.SolutionTexts.{letting_names, strangers}
use Rattle.ep_tree.specs.Views.{statement_tree}
use Rattle.ep_instance_parts.specs.Instances.{find_of}
use Rattle.ep_instance.proofs.solutions.stranger.Given as goal

abbrev pub invariant-loop-statement : goal.invariant-loop-statement
invariant-loop-statement l =
    strangers (map find_of l.finds) (letting_names (map statement_tree l.statements))
    ≡ strangers (map find_of l.finds) (letting_names (map statement_tree (drop l.statement-index l.statements)))
