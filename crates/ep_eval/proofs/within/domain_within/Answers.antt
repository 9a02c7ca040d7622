use Rattle.ep_eval.proofs.Words.{ap, sym, ◌∙◌, context_of, named_domain_type, type_from, env_in, meaning_or}
use Rattle.ep_eval.proofs.within.domain_within.Goals as goal

pub returns-in-Some : goal.returns-in-Some
unfolding meaning_or named_domain_type type_from
returns-in-Some c =
    let outer = context_of (env_in c.args.within.scope) in
    ap (λ o. type_from (named_domain_type (meaning_or o (outer c.args.name.now)))) (sym c.in-Some.is)
    ∙ sym (ap (λ m. type_from (named_domain_type m)) (c.scalar_within.ensures outer))

pub returns-in-None : goal.returns-in-None
unfolding meaning_or
returns-in-None c =
    let outer = context_of (env_in c.args.within.scope) in
    c.named_domain.ensures ∙ ap (λ o. type_from (named_domain_type (meaning_or o (outer c.args.name.now)))) (sym c.in-None.is)
    ∙ sym (ap (λ m. type_from (named_domain_type m)) (c.scalar_within.ensures outer))
