use Rattle.ep_eval.proofs.Words.{ap, ◌∙◌, unwrap_or, context_of, type_in, expr_tree, ValueType, type_at, env_in, with_typed}
use Rattle.ep_eval.proofs.evaluation.type_within.Goals as goal

pub returns : goal.returns
unfolding type_in with_typed
returns c =
    c.type_or_int.ensures
    ∙ ap (λ o. unwrap_or o ValueType.Int)
    (c.in_ok-ty.ensures ∙ ap (λ ts. type_at (with_typed ts (context_of (env_in c.args.scope))) (expr_tree c.args.e.now)) (c.deref.ensures.value ∙ c.new-none.ensures.items))
