use Rattle.ep_size.proofs.Words.{subst, ap, ◌∙◌, ◌+◌, Folds, capped}
use Rattle.ep_size.proofs.FoldSteps.{greatest_weighs, least_weighs, product_weighs, sum_weighs, truth_weighs}
use Rattle.ep_size.proofs.folds.Folding.weight.Goals as goal

pub returns-in-Sum-clause-weight : goal.returns-in-Sum-clause-weight
returns-in-Sum-clause-weight c op spans h =
    sum_weighs c.in-Sum.sum op spans c.weight.result (subst (λ t. Folds t op spans) c.in-Sum.is h) c.weight.ensures.weight

pub returns-in-Product-clause-weight : goal.returns-in-Product-clause-weight
returns-in-Product-clause-weight c op spans h =
    product_weighs c.in-Product.parts op spans c.told.result (subst (λ t. Folds t op spans) c.in-Product.is h) c.told.ensures

pub returns-in-Truth-clause-weight : goal.returns-in-Truth-clause-weight
returns-in-Truth-clause-weight c op spans h =
    truth_weighs c.in-Truth.parts op spans c.told-in-Truth-2.result (subst (λ t. Folds t op spans) c.in-Truth.is h)
    (c.told-in-Truth-2.ensures ∙ ap (λ n. capped (n + 1)) c.told-in-Truth.ensures)

pub returns-in-Least-clause-weight : goal.returns-in-Least-clause-weight
returns-in-Least-clause-weight c op spans h =
    least_weighs c.in-Least.parts op spans c.told-in-Least.result (subst (λ t. Folds t op spans) c.in-Least.is h) c.told-in-Least.ensures

pub returns-in-Greatest-clause-weight : goal.returns-in-Greatest-clause-weight
returns-in-Greatest-clause-weight c op spans h =
    greatest_weighs c.in-Greatest.parts op spans c.told-in-Greatest.result (subst (λ t. Folds t op spans) c.in-Greatest.is h) c.told-in-Greatest.ensures
