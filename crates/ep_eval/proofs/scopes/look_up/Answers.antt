use Rattle.ep_eval.proofs.Words.{ap, sym, ◌∙◌, Some, arith, w64, ints, to_z-of_z, value_bound, single, held_value, env_of, number_or_value}
use Rattle.ep_eval.proofs.scopes.look_up.Goals as goal

pub returns-in-Some : goal.returns-in-Some
unfolding held_value number_or_value
returns-in-Some c =
    let env = env_of c.args.scope.env.now in
    ap (λ n. Some (single n)) (to_z-of_z w64 c.in-Some.number (omega (arith, ints)))
    ∙ ap (λ o. number_or_value o (value_bound (env c.args.name.now))) (sym c.in-Some.is)
    ∙ sym (c.number_around.ensures env)

pub returns-in-None : goal.returns-in-None
unfolding number_or_value
returns-in-None c =
    let env = env_of c.args.scope.env.now in
    c.value_named.ensures
    ∙ ap (λ o. number_or_value o (value_bound (env c.args.name.now))) (sym c.in-None.is)
    ∙ sym (c.number_around.ensures env)
