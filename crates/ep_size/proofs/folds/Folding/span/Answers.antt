use Rattle.ep_size.proofs.Words.{subst, ap, wide_span, Gives, Folds}
use Rattle.ep_size.proofs.FoldSteps.{greatest_gives, least_gives, product_gives, sum_gives, truth_gives}
use Rattle.ep_size.proofs.folds.Folding.span.Goals as goal

pub returns-in-Sum : goal.returns-in-Sum
returns-in-Sum c op spans h = sum_gives c.in-Sum.sum op spans c.span.result (subst (λ t. Folds t op spans) c.in-Sum.is h) c.span.ensures

pub returns-in-Product : goal.returns-in-Product
returns-in-Product c op spans h =
    product_gives c.in-Product.parts op spans c.wide.result (subst (λ t. Folds t op spans) c.in-Product.is h)
    (subst (λ s. Gives c.wide.result s) (ap wide_span c.widened.ensures) c.wide.ensures)

pub returns-in-Truth : goal.returns-in-Truth
returns-in-Truth c op spans h =
    truth_gives c.in-Truth.field-0 op spans c.truth_span.result (subst (λ t. Folds t op spans) c.in-Truth.is h) c.truth_span.ensures

pub returns-in-Least : goal.returns-in-Least
returns-in-Least c op spans h =
    least_gives c.in-Least.parts op spans c.wide-in-Least.result (subst (λ t. Folds t op spans) c.in-Least.is h)
    (subst (λ s. Gives c.wide-in-Least.result s) (ap wide_span c.widened-in-Least.ensures) c.wide-in-Least.ensures)

pub returns-in-Greatest : goal.returns-in-Greatest
returns-in-Greatest c op spans h =
    greatest_gives c.in-Greatest.parts op spans c.wide-in-Greatest.result (subst (λ t. Folds t op spans) c.in-Greatest.is h)
    (subst (λ s. Gives c.wide-in-Greatest.result s) (ap wide_span c.widened-in-Greatest.ensures) c.wide-in-Greatest.ensures)
