use Rattle.std.proofs.Common.{sym, ◌∙◌}
use Rattle.ep_numbers.specs.Spans.{interval_of, wide_interval}
use Rattle.ep_numbers.proofs.Ends.{near_all}
use Rattle.ep_reach.proofs.Reaching.{if_there_both}
use Rattle.ep_numbers.proofs.Ends.{near_span}
use Rattle.ep_reach.proofs.reaches.is_near_set.Goals as goal

pub returns-clause-sound : goal.returns-clause-sound
returns-clause-sound c h =
    if_there_both c.near.result c.near.ensures.same c.near.ensures.near
    (λ span same near. near_all c.args.set.now (interval_of span) (same ∙ c.widened.ensures ∙ c.span_of_set.ensures) near)
    (sym c.is_some.ensures ∙ h)

pub returns-clause-complete : goal.returns-clause-complete
returns-clause-complete c h =
    c.is_some.ensures ∙ c.near.ensures.told (near_span c.args.set.now (wide_interval c.widened.result) (c.widened.ensures ∙ c.span_of_set.ensures) h)
