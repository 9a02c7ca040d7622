use Rattle.std.proofs.Common.{◌≡◌, take}
use Rattle.std.specs.Prelude.{map}
use Rattle.ep_restrict.specs.Restricted.{numbered_clauses}
use Rattle.ep_tree.specs.Views.{expr_tree}
use Rattle.ep_restrict.proofs.restricting.copy_clauses.Given as goal

abbrev pub invariant-loop-number : goal.invariant-loop-number
invariant-loop-number l = map expr_tree l.copies.items ≡ numbered_clauses (map expr_tree l.clauses) (take l.number-index l.numbers)
