use Rattle.ep_size.proofs.Words.{sym, ap, ◌∙◌, err_from_is_err_and, product_interval, is_far_reach, wide_interval}
use Rattle.ep_size.proofs.FoldSteps.{multiplies_more, multiplies_same, product_refused}
use Rattle.ep_size.proofs.folds.Multiplied.with.Goals as goal

pub returns-in_err-whole-clause-refused : goal.returns-in_err-whole-clause-refused
returns-in_err-whole-clause-refused c =
    let p = err_from_is_err_and c.from_residual.result c.from_residual.ensures.1 in
    rw (p.1, p.2)
    (λ spans rest h. product_refused c.args.self spans rest c.args.span c.in_err-whole.field-0.0 (wide_interval c.product.result) c.product.ensures c.in_err-whole.ensures h)

pub returns-clause-added : goal.returns-clause-added
returns-clause-added c spans h =
    let k = c.in_ok-whole.ensures in
    multiplies_more c.args.self _ spans c.args.span h (k.0 ∙ c.product.ensures) (ap is_far_reach (sym c.product.ensures) ∙ k.1)
    (c.with.ensures product_interval spans h.weighed
    (λ some. k.0 ∙ c.product.ensures ∙ multiplies_same c.args.self spans _ h some))
