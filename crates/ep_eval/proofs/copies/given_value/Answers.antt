use Rattle.ep_eval.proofs.Words.{ap, sym, ◌∙◌, arith, w64, ints, to_z-of_z, value_tree-number, single, held_value}
use Rattle.ep_eval.proofs.copies.given_value.Goals as goal

pub returns-in-Number : goal.returns-in-Number
unfolding held_value
returns-in-Number c =
    value_tree-number _ ∙ ap single (to_z-of_z w64 c.in-Number.number (omega (arith, ints))) ∙ ap held_value (sym c.in-Number.is)

pub returns-in_ok-copy-in-Lent : goal.returns-in_ok-copy-in-Lent
unfolding held_value
returns-in_ok-copy-in-Lent c = c.in_ok-copy-in-Lent.ensures ∙ ap held_value (sym c.in-Lent.is)

pub returns-in-Made : goal.returns-in-Made
unfolding held_value
returns-in-Made c = ap held_value (sym c.in-Made.is)
