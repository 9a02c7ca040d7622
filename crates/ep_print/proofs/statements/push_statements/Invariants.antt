use Rattle.std.proofs.Common.{◌≡◌, ◌++◌, drop, map}
use Rattle.std.specs.List.{flat_map}
use Rattle.ep_tree.specs.Views.{statement_tree}
use Rattle.ep_print.specs.Models.{statement_text}
use Rattle.ep_print.proofs.statements.push_statements.Given as goal

abbrev pub invariant-loop-statement : goal.invariant-loop-statement
invariant-loop-statement l = l.text.items ++ flat_map statement_text (map statement_tree (drop l.statement-index l.statements)) ≡ l.initial.text.items ++ flat_map statement_text (map statement_tree l.statements)
