use Rattle.ep_eval.proofs.Words.{ap, sym, ◌∙◌, option_map, value_bound, entry_bound, held_value, env_of}
use Rattle.ep_eval.proofs.Looking.{only_value-value}
use Rattle.ep_eval.proofs.scopes.value_named.Goals as goal

pub returns-in-Some : goal.returns-in-Some
unfolding held_value value_bound
returns-in-Some c =
    let b = env_of c.args.env.now c.args.name.now in
    ap (λ r. value_bound (option_map (λ e. entry_bound e.now) r)) (sym c.in-Some.is) ∙ ap value_bound c.entry.ensures.bound ∙ only_value-value b

pub returns-in-None : goal.returns-in-None
unfolding value_bound
returns-in-None c =
    let b = env_of c.args.env.now c.args.name.now in
    ap (λ r. value_bound (option_map (λ e. entry_bound e.now) r)) (sym c.in-None.is) ∙ ap value_bound c.entry.ensures.bound ∙ only_value-value b
