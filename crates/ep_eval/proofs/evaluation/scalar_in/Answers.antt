use Rattle.ep_eval.proofs.Words.{ap, ◌∙◌, option_map, unwrap_or, context_of, scalar_in, scalar_of, domain_tree, Scalar, domain_type_at, env_of, with_all, with_typed}
use Rattle.ep_eval.proofs.evaluation.scalar_in.Goals as goal

pub returns : goal.returns
unfolding scalar_in with_all with_typed
returns c =
    c.scalar_or_int.ensures
    ∙ ap (λ o. unwrap_or (option_map scalar_of o) Scalar.Int)
    (c.in_ok-ty.ensures ∙ ap (λ ts. domain_type_at (with_typed ts (context_of (env_of c.args.env.now))) (domain_tree c.args.d.now)) (c.deref.ensures.value ∙ c.new-none.ensures.items))
