use Rattle.std.proofs.Common.{◌≡◌, true, length}
use Rattle.cnf_core.specs.Literal.{Literal, negation, code_of, is_among}
use Rattle.log_check.specs.Table.{has}
use Rattle.log_check.proofs.signs.Signs.clear.Given as goal

-- a literal that is still false is the negation of one that is still there
abbrev pub invariant-loop-lit : goal.invariant-loop-lit
invariant-loop-lit l =
    (q : Literal) → has l.self-inside.falses (code_of q) ≡ true → is_among l.self-inside.trues.items (negation q) ≡ true

abbrev pub decreases-loop-lit : goal.decreases-loop-lit
decreases-loop-lit l = length l.self-inside.trues.items
