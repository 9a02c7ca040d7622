use Rattle.ep_eval.proofs.Words.{sym, ◌∙◌, err_from_is_err_and, expr_tree, env_of, seen_value, with_all}
use Rattle.ep_eval.proofs.Countings.{counted_value_is}
use Rattle.ep_eval.proofs.evaluation.evaluate_after.Goals as goal

pub returns-in_err-seen-clause-cause : goal.returns-in_err-seen-clause-cause
unfolding with_all
returns-in_err-seen-clause-cause c =
    let p = err_from_is_err_and c.from_residual.result c.from_residual.ensures.1 in
    rw (p.1, p.2) c.in_err-seen.ensures.cause

pub returns-clause-value : goal.returns-clause-value
unfolding with_all
returns-clause-value c =
    counted_value_is c.args.env.now.mode c.args.before c.value_after.new.met (env_of c.args.env.now) (expr_tree c.args.e.now) (seen_value c.in_ok-given.given)
    c.in_ok-seen.ensures.counted (c.in_ok-seen.ensures.value ∙ sym c.in_ok-given.ensures)
