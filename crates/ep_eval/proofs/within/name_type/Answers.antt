use Rattle.ep_eval.proofs.Words.{ap, sym, ◌∙◌, Some, context_of, named_type, type_from, scalar_or, env_of}
use Rattle.ep_eval.proofs.within.name_type.Goals as goal

pub returns-in-Some : goal.returns-in-Some
unfolding scalar_or
returns-in-Some c =
    let env = env_of c.args.scope.env.now in
    ap Some c.of_scalar.ensures
    ∙ ap (λ o. scalar_or o (type_from (named_type (context_of env c.args.name.now)))) (sym c.in-Some.is)
    ∙ sym (c.scalar_around.ensures env)

pub returns-in-None : goal.returns-in-None
unfolding scalar_or context_of
returns-in-None c =
    let env = env_of c.args.scope.env.now in
    c.type_of.ensures
    ∙ ap (λ o. scalar_or o (type_from (named_type (context_of env c.args.name.now)))) (sym c.in-None.is)
    ∙ sym (c.scalar_around.ensures env)
