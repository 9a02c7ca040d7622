use Rattle.ep_size.proofs.Words.{◌∙◌, met, expr_tree, env_of, sym, with_all}
use Rattle.ep_size.proofs.MeterSteps.{stopped, told_as}
use Rattle.ep_size.proofs.expressions.measure_one.Goals as goal

pub returns-then-is_over : goal.returns-then-is_over
returns-then-is_over c =
    let env = c.args.env.now in
    stopped env.mode c.args.totals.now (met env.mode (env_of env) (expr_tree c.args.e.now)) (sym c.is_over.ensures ∙ c.if-is_over.true)

pub returns : goal.returns
unfolding with_all
returns c =
    let env = c.args.env.now in
    told_as env.mode c.args.totals.now c.extent_of.new.totals (met env.mode (env_of env) (expr_tree c.args.e.now)) c.in_ok-_known.ensures (λ known. tt)
