use Rattle.ep_eval.proofs.Words.{◌+◌, ◌<◌, length, arith, sym, err_from_is_err_and, MOST_SIZE, met_domain, domain_tree, env_of, with_all}
use Rattle.ep_eval.proofs.Countings.{counted_domain_is, size_refuses}
use Rattle.ep_eval.proofs.evaluation.domain_values_after.Goals as goal

pub returns-then-before-gt-MOST_SIZE-clause-cause : goal.returns-then-before-gt-MOST_SIZE-clause-cause
returns-then-before-gt-MOST_SIZE-clause-cause c =
    let ms = met_domain c.args.env.now.mode (env_of c.args.env.now) (domain_tree c.args.d.now) in
    let most : MOST_SIZE < c.args.before + length ms = grind (arith, c.if-before-gt-MOST_SIZE.true) in
    size_refuses c.args.env.now.mode c.args.before ms most

pub returns-in_err-values-clause-cause : goal.returns-in_err-values-clause-cause
unfolding with_all
returns-in_err-values-clause-cause c =
    let p = err_from_is_err_and c.from_residual.result c.from_residual.ensures.1 in
    rw (p.1, p.2) c.in_err-values.ensures.cause

pub returns-clause-values : goal.returns-clause-values
unfolding with_all
returns-clause-values c =
    counted_domain_is c.args.env.now.mode c.args.before c.numbers_after.new.met (env_of c.args.env.now) (domain_tree c.args.d.now) c.in_ok-values.values
    c.in_ok-values.ensures.counted (sym c.in_ok-values.ensures.value)
