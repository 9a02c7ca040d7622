use Rattle.ep_size.proofs.Words.{subst, ap, arith, ◌∙◌, ◌+◌, plain_span, Folds, capped}
use Rattle.ep_size.proofs.FoldSteps.{greatest_adds, least_adds, product_adds, product_refuses, sum_adds, truth_adds}
use Rattle.ep_size.proofs.folds.Folding.with.Goals as goal

pub returns-in-Sum-clause-added : goal.returns-in-Sum-clause-added
returns-in-Sum-clause-added c op spans few h =
    sum_adds c.in-Sum.sum c.add.new.self op spans (plain_span c.args.span) few (subst (λ t. Folds t op spans) c.in-Sum.is h)
    (λ ss f s. c.add.ensures ss (omega (arith, f)) s)

pub returns-in-Ok-clause-added : goal.returns-in-Ok-clause-added
returns-in-Ok-clause-added c op spans few h =
    product_adds c.in-Product.parts c.in-Ok.more op spans (plain_span c.args.span) (subst (λ t. Folds t op spans) c.in-Product.is h) c.in-Ok.ensures.added

pub returns-in-Err-clause-refused : goal.returns-in-Err-clause-refused
returns-in-Err-clause-refused c op spans rest h =
    product_refuses c.in-Product.parts c.in-Err.refused op spans rest (plain_span c.args.span) (subst (λ t. Folds t op spans) c.in-Product.is h)
    c.in-Err.ensures.refused

pub returns-in-Truth-clause-added : goal.returns-in-Truth-clause-added
returns-in-Truth-clause-added c op spans few h =
    truth_adds c.in-Truth.parts c.told-in-Truth.result op spans (plain_span c.args.span) (subst (λ t. Folds t op spans) c.in-Truth.is h)
    (c.told-in-Truth.ensures ∙ ap (λ n. capped (n + 1)) c.told.ensures)

pub returns-in-Least-clause-added : goal.returns-in-Least-clause-added
returns-in-Least-clause-added c op spans few h =
    least_adds c.in-Least.parts c.with_least.result op spans (plain_span c.args.span) (subst (λ t. Folds t op spans) c.in-Least.is h) c.with_least.ensures

pub returns-in-Greatest-clause-added : goal.returns-in-Greatest-clause-added
returns-in-Greatest-clause-added c op spans few h =
    greatest_adds c.in-Greatest.parts c.with_greatest.result op spans (plain_span c.args.span) (subst (λ t. Folds t op spans) c.in-Greatest.is h)
    c.with_greatest.ensures
