use Rattle.ep_size.proofs.Words.{ap, subst, sym, ◌∙◌, if◌then◌else◌, farthest_end, is_too_far, product_span, wide_span, with_spread, plain_span, wide_interval, Keeps}
use Rattle.ep_size.proofs.NodeSteps.{err_gives, product_reach}
use Rattle.ep_size.proofs.nodes.product_span.Goals as goal

pub returns-in-Ok : goal.returns-in-Ok
unfolding product_span
returns-in-Ok c =
    let x = c.args.x in
    let y = c.args.y in
    let k = subst (Keeps (wide_interval c.product.result)) c.in-Ok.is c.near.ensures in (
      c.spread_of.ensures
          ∙ ap (λ i. if x.decided then (if y.decided then wide_span i else with_spread x.spread (wide_span i)) else with_spread y.spread (wide_span i))
          (k.0 ∙ c.product.ensures),
      ap (λ i. is_too_far (farthest_end i)) (product_reach (plain_span x) (plain_span y) ∙ sym c.product.ensures) ∙ k.1,
    )

pub returns-in-Err : goal.returns-in-Err
returns-in-Err c =
    err_gives (product_span (plain_span c.args.x) (plain_span c.args.y)) (wide_interval c.product.result) c.in-Err.refused
    (product_reach (plain_span c.args.x) (plain_span c.args.y) ∙ sym c.product.ensures) (subst (Keeps (wide_interval c.product.result)) c.in-Err.is c.near.ensures)
