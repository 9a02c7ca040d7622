use Rattle.std.proofs.Common.{◌≡◌, drop, map}
use Rattle.ep_tree.specs.Views.{expr_tree}
use Rattle.ep_types.specs.Checking.{check_clauses}
use Rattle.ep_types.specs.Meanings.{known_by}
use Rattle.ep_types.proofs.statements.check_clauses.Given as goal

abbrev pub invariant-loop-clause : goal.invariant-loop-clause
invariant-loop-clause l =
    check_clauses (known_by l.declared.entries) l.decisions (map expr_tree l.clauses)
    ≡ check_clauses (known_by l.declared.entries) l.decisions (map expr_tree (drop l.clause-index l.clauses))
