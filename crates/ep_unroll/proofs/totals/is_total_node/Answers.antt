use Rattle.ep_unroll.proofs.Words.{sym, subst, ◌<◌, arith, pos, IsSome, plain_node, node_value}
use Rattle.ep_unroll.proofs.TotalSteps.{cell_total, constant_total, truth_total}
use Rattle.ep_unroll.proofs.totals.is_total_node.Goals as goal

pub returns-in-Const : goal.returns-in-Const
unfolding node_value
returns-in-Const c h numbers value few = subst (λ x. IsSome (node_value numbers value (plain_node x))) (sym c.in-Const.is) (constant_total c.in-Const.field-0)

pub returns-in-Cell : goal.returns-in-Cell
unfolding node_value
returns-in-Cell c h numbers value few = subst (λ x. IsSome (node_value numbers value (plain_node x))) (sym c.in-Cell.is)
    (cell_total numbers _ (pos 0) (let less : c.in-Cell.cell < c.args.count = grind (arith, h) in omega (arith, less, few)))

pub returns-in-Compare : goal.returns-in-Compare
unfolding node_value
returns-in-Compare c h numbers value few = subst (λ x. IsSome (node_value numbers value (plain_node x))) (sym c.in-Compare.is) (truth_total _)

pub returns-in-Member : goal.returns-in-Member
unfolding node_value
returns-in-Member c h numbers value few = subst (λ x. IsSome (node_value numbers value (plain_node x))) (sym c.in-Member.is) (truth_total _)

pub returns-in-Not : goal.returns-in-Not
unfolding node_value
returns-in-Not c h numbers value few = subst (λ x. IsSome (node_value numbers value (plain_node x))) (sym c.in-Not.is) (truth_total _)

pub returns-in-And : goal.returns-in-And
unfolding node_value
returns-in-And c h numbers value few = subst (λ x. IsSome (node_value numbers value (plain_node x))) (sym c.in-And.is) (truth_total _)

pub returns-in-Or : goal.returns-in-Or
unfolding node_value
returns-in-Or c h numbers value few = subst (λ x. IsSome (node_value numbers value (plain_node x))) (sym c.in-Or.is) (truth_total _)

pub returns-in-Iff : goal.returns-in-Iff
unfolding node_value
returns-in-Iff c h numbers value few = subst (λ x. IsSome (node_value numbers value (plain_node x))) (sym c.in-Iff.is) (truth_total _)

pub returns-in-AllDiff : goal.returns-in-AllDiff
unfolding node_value
returns-in-AllDiff c h numbers value few = subst (λ x. IsSome (node_value numbers value (plain_node x))) (sym c.in-AllDiff.is) (truth_total _)

pub returns-in-Lex : goal.returns-in-Lex
unfolding node_value
returns-in-Lex c h numbers value few = subst (λ x. IsSome (node_value numbers value (plain_node x))) (sym c.in-Lex.is) (truth_total _)

pub returns-in-Table : goal.returns-in-Table
unfolding node_value
returns-in-Table c h numbers value few = subst (λ x. IsSome (node_value numbers value (plain_node x))) (sym c.in-Table.is) (truth_total _)

pub returns-in-Gcc : goal.returns-in-Gcc
unfolding node_value
returns-in-Gcc c h numbers value few = subst (λ x. IsSome (node_value numbers value (plain_node x))) (sym c.in-Gcc.is) (truth_total _)

pub returns-in-AtLeast : goal.returns-in-AtLeast
unfolding node_value
returns-in-AtLeast c h numbers value few = subst (λ x. IsSome (node_value numbers value (plain_node x))) (sym c.in-AtLeast.is) (truth_total _)

pub returns-in-AtMost : goal.returns-in-AtMost
unfolding node_value
returns-in-AtMost c h numbers value few = subst (λ x. IsSome (node_value numbers value (plain_node x))) (sym c.in-AtMost.is) (truth_total _)
