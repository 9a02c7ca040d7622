use Rattle.std.proofs.Common.{◌∙◌}
use Rattle.ep_base.specs.Intervals.{product_interval}
use Rattle.ep_reach.proofs.reaches.product_of_terms.Goals as goal

pub returns : goal.returns
returns c = c.product.ensures ∙ (λ i. product_interval (c.span_of_term.ensures i) (c.span_of_term-2.ensures i))
