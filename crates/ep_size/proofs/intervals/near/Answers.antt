use Rattle.ep_size.proofs.Words.{refl, sym, ap, ◌∙◌, ◌≡◌, farthest_end, is_too_far, reach_near, untold_reach, interval_of, wide_interval}
use Rattle.ep_size.proofs.intervals.near.Goals as goal

pub returns-in-Some : goal.returns-in-Some
returns-in-Some c =
    let same : interval_of c.in-Some.span ≡ wide_interval c.args.wide = c.in-Some.ensures.same in
    (same, ap (λ i. is_too_far (farthest_end i)) (sym same) ∙ reach_near (interval_of c.in-Some.span) c.in-Some.ensures.near)

pub returns-in-None : goal.returns-in-None
returns-in-None c = (refl, untold_reach c.near.result (wide_interval c.args.wide) c.near.ensures.told c.in-None.is)
