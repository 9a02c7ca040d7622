use Rattle.ep_size.proofs.Words.{◌+◌, length, ap, ◌∙◌, truths_node, expr_trees, capped}
use Rattle.ep_size.proofs.FormSteps.{truths_number}
use Rattle.ep_size.proofs.forms.finish_truths.Goals as goal

pub returns : goal.returns
returns c mode env p every xs many holds =
    c.truth_node.ensures mode env (truths_node p every (expr_trees xs)) (length xs + 1) (c.told_parts.ensures ∙ ap (λ n. capped (n + 1)) many) (truths_number mode env p every xs holds)
