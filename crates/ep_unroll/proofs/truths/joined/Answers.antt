use Rattle.ep_unroll.proofs.Words.{ap, ◌∙◌, ◌++◌}
use Rattle.ep_unroll.proofs.truths.joined.Goals as goal

pub returns : goal.returns
returns c =
    c.in_ok-push_terms-2.ensures ∙ ap (λ l. l ++ c.args.others.now) (c.in_ok-push_terms.ensures ∙ ap (λ l. l ++ c.args.parts.now) c.new-all.ensures.items)
