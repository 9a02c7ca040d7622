use Rattle.ep_unroll.proofs.Words.{ap, ◌∙◌, plain_node, node_value, term_value}
use Rattle.ep_unroll.proofs.NodeValues.{node_value_at}
use Rattle.ep_unroll.proofs.powers.is_undefined.Goals as goal

pub returns-in-Undefined : goal.returns-in-Undefined
unfolding node_value
returns-in-Undefined c h numbers =
    node_value_at c.args.arena.now c.len-size.ensures.arena c.args.term (plain_node c.node.result.now) c.node.ensures.node numbers
    ∙ ap (λ x. node_value numbers (term_value c.args.arena.now numbers) (plain_node x)) c.in-Undefined.is
