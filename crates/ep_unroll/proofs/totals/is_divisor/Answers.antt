use Rattle.ep_unroll.proofs.Words.{◌≡◌, Some, refl, arith, pos, subst, sym, ◌∙◌, ◌≢◌, plain_node, node_value, term_value}
use Rattle.ep_unroll.proofs.NodeValues.{node_value_at}
use Rattle.ep_unroll.proofs.totals.is_divisor.Goals as goal

pub returns-in-Const : goal.returns-in-Const
unfolding node_value
returns-in-Const c h = (
  c.in-Const.number,
  other,
  λ numbers. node_value_at c.args.arena.now c.len-size.ensures.arena c.args.term (plain_node c.node.result.now) c.node.ensures.node numbers
      ∙ subst (λ x. node_value numbers (term_value c.args.arena.now numbers) (plain_node x) ≡ Some c.in-Const.number) (sym c.in-Const.is) refl,
)
  where
    other : c.in-Const.number ≢ pos 0
    other is = grind (arith, h, is)
