use Rattle.ep_eval.proofs.Words.{Some, ap, sym, ◌∙◌, option_map, with_index}
use Rattle.ep_eval.proofs.reads.with_next.Goals as goal

pub returns-in_ok-push-in-Some : goal.returns-in_ok-push-in-Some
unfolding with_index
returns-in_ok-push-in-Some c =
    ap Some c.in_ok-push-in-Some.ensures.items
    ∙ sym (ap (λ o. with_index (option_map (λ v. v.items) o) c.args.stated c.args.number) c.in-Some.is
    ∙ ap (λ b. with_index (Some c.in-Some.values.items) b c.args.number) c.if-stated.false)

pub returns-in-None : goal.returns-in-None
unfolding with_index
returns-in-None c = sym (ap (λ o. with_index (option_map (λ v. v.items) o) c.args.stated c.args.number) c.in-None.is)
