use Rattle.ep_eval.proofs.Words.{ap, sym, ◌∙◌, None, option_map, if◌then◌else◌, context_of, meaning_in, named_domain_type, domain_of, only_domain, env_of, is_of_booleans, env_in}
use Rattle.ep_eval.proofs.ScalarSteps.{only_domain-booleans}
use Rattle.ep_eval.proofs.scalars.names_booleans.Goals as goal

pub returns-then-hides : goal.returns-then-hides
unfolding context_of is_of_booleans named_domain_type
returns-then-hides c =
    let env = env_of c.args.scope.env.now in
    let name = c.args.name.now in
    sym (sym (only_domain-booleans (env_in c.args.scope name))
    ∙ ap (λ b. is_of_booleans (named_domain_type (option_map meaning_in b)))
    (c.hides.ensures env ∙ ap (λ b. if b then None else only_domain (env name)) c.if-hides.true))

pub returns-in-Some : goal.returns-in-Some
unfolding context_of
returns-in-Some c =
    let env = env_of c.args.scope.env.now in
    let name = c.args.name.now in
    c.is_named_of_booleans.ensures
    ∙ ap (λ r. is_of_booleans (named_domain_type (option_map meaning_in (option_map (λ d. domain_of d.now) r)))) (sym c.in-Some.is)
    ∙ ap (λ b. is_of_booleans (named_domain_type (option_map meaning_in b)))
    (c.domain.ensures ∙ ap (λ b. if b then None else only_domain (env name)) (sym c.if-hides.false) ∙ sym (c.hides.ensures env))
    ∙ only_domain-booleans (env_in c.args.scope name)

pub returns-in-None : goal.returns-in-None
unfolding context_of is_of_booleans named_domain_type
returns-in-None c =
    let env = env_of c.args.scope.env.now in
    let name = c.args.name.now in
    ap (λ r. is_of_booleans (named_domain_type (option_map meaning_in (option_map (λ d. domain_of d.now) r)))) (sym c.in-None.is)
    ∙ ap (λ b. is_of_booleans (named_domain_type (option_map meaning_in b)))
    (c.domain.ensures ∙ ap (λ b. if b then None else only_domain (env name)) (sym c.if-hides.false) ∙ sym (c.hides.ensures env))
    ∙ only_domain-booleans (env_in c.args.scope name)
