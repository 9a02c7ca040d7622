use Rattle.ep_size.proofs.Words.{ap, subst, sym, ◌∙◌, farthest_end, is_too_far, plain_span, wide_interval, Keeps}
use Rattle.ep_size.proofs.NodeSteps.{err_gives}
use Rattle.ep_size.proofs.nodes.kept_span.Goals as goal

pub returns-in-Ok : goal.returns-in-Ok
returns-in-Ok c =
    let x = c.args.x in
    let k = subst (Keeps (wide_interval c.widened.result)) c.in-Ok.is c.near.ensures in (
      ap (λ i. record { reach = i; spread = x.spread; decided = x.decided }) (k.0 ∙ c.widened.ensures),
      ap (λ i. is_too_far (farthest_end i)) (sym c.widened.ensures) ∙ k.1,
    )

pub returns-in-Err : goal.returns-in-Err
returns-in-Err c =
    err_gives (plain_span c.args.x) (wide_interval c.widened.result) c.in-Err.refused (sym c.widened.ensures) (subst (Keeps (wide_interval c.widened.result)) c.in-Err.is c.near.ensures)
