use Rattle.ep_size.proofs.Words.{ap, subst, sym, ◌∙◌, option_map, option_to_list, met_in, expr_tree, env_of, Told}
use Rattle.ep_size.proofs.ClauseSteps.{met_none, met_one}
use Rattle.ep_size.proofs.MeterSteps.{told_none}
use Rattle.ep_size.proofs.expressions.measure_goal.Goals as goal

pub returns-in_ok-measure_one-in-Some : goal.returns-in_ok-measure_one-in-Some
returns-in_ok-measure_one-in-Some c =
    let env = c.args.env.now in
    subst (λ ms. Told env.mode c.args.totals.now c.measure_one.new.totals ms (Unit {0}))
    (met_one env.mode (env_of env) (expr_tree c.in-Some.objective.now.e) ∙ ap (λ g. met_in env.mode (env_of env) (option_to_list (option_map (λ x. expr_tree x.now.e) g))) (sym c.in-Some.is))
    c.in_ok-measure_one-in-Some.ensures

pub returns-in-None : goal.returns-in-None
returns-in-None c =
    let env = c.args.env.now in
    subst (λ ms. Told env.mode c.args.totals.now c.args.totals.now ms (Unit {0}))
    (sym (ap (λ g. met_in env.mode (env_of env) (option_to_list (option_map (λ x. expr_tree x.now.e) g))) c.in-None.is ∙ met_none env.mode (env_of env)))
    (told_none env.mode c.args.totals.now tt)
