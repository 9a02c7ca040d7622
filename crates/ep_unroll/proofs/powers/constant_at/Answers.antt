use Rattle.ep_unroll.proofs.Words.{Some, ap, rules, sym, w64, ◌∙◌, to_z-of_z, plain_node, node_value, term_value}
use Rattle.ep_unroll.proofs.NodeValues.{node_value_at}
use Rattle.ep_unroll.proofs.powers.constant_at.Goals as goal

pub returns-in-Const : goal.returns-in-Const
unfolding node_value
returns-in-Const c numbers =
    node_value_at c.args.arena.now c.len-size.ensures.arena c.args.term (plain_node c.node.result.now) c.node.ensures.node numbers
    ∙ ap (λ x. node_value numbers (term_value c.args.arena.now numbers) (plain_node x)) c.in-Const.is
    ∙ ap Some (sym (to_z-of_z w64 c.in-Const.number (search rules)))
