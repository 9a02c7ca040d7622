use Rattle.std.proofs.Common.{◌≡◌, drop, map}
use Rattle.ep_tree.specs.Names.{nothing_known}
use Rattle.ep_tree.specs.Views.{statement_tree}
use Rattle.ep_types.specs.Checking.{check_text}
use Rattle.ep_types.specs.Meanings.{known_by}
use Rattle.ep_types.proofs.statements.check_statements.Given as goal

abbrev pub invariant-loop-statement : goal.invariant-loop-statement
invariant-loop-statement l =
    check_text nothing_known (map statement_tree l.statements) ≡ check_text (known_by l.declared.entries) (map statement_tree (drop l.statement-index l.statements))
