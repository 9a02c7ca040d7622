use Rattle.ep_eval.proofs.Words.{ap, sym, ◌∙◌, None, option_map, if◌then◌else◌, domain_bound, domain_of, only_domain, env_of, env_in}
use Rattle.ep_eval.proofs.RangeNumbers.{only_domain-numbers}
use Rattle.ep_eval.proofs.domains.named_numbers.Goals as goal

pub returns-then-hides : goal.returns-then-hides
unfolding domain_bound
returns-then-hides c =
    let env = env_of c.args.scope.env.now in
    let name = c.args.name.now in
    sym (sym (only_domain-numbers (env_in c.args.scope name))
    ∙ ap domain_bound (c.hides.ensures env ∙ ap (λ b. if b then None else only_domain (env name)) c.if-hides.true))

pub returns-in_ok-set-in-Some : goal.returns-in_ok-set-in-Some
returns-in_ok-set-in-Some c =
    let env = env_of c.args.scope.env.now in
    let name = c.args.name.now in
    c.in_ok-set-in-Some.ensures
    ∙ ap (λ r. domain_bound (option_map (λ d. domain_of d.now) r)) (sym c.in-Some.is)
    ∙ ap domain_bound (c.domain.ensures ∙ ap (λ b. if b then None else only_domain (env name)) (sym c.if-hides.false) ∙ sym (c.hides.ensures env))
    ∙ only_domain-numbers (env_in c.args.scope name)

pub returns-in-None : goal.returns-in-None
unfolding domain_bound
returns-in-None c =
    let env = env_of c.args.scope.env.now in
    let name = c.args.name.now in
    ap (λ r. domain_bound (option_map (λ d. domain_of d.now) r)) (sym c.in-None.is)
    ∙ ap domain_bound (c.domain.ensures ∙ ap (λ b. if b then None else only_domain (env name)) (sym c.if-hides.false) ∙ sym (c.hides.ensures env))
    ∙ only_domain-numbers (env_in c.args.scope name)
