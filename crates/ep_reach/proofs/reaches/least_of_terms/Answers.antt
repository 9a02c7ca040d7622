use Rattle.std.proofs.Common.{rules, ◌∙◌, w64}
use Rattle.std.proofs.lemmas.Int.{to_z-of_z}
use Rattle.ep_base.specs.Intervals.{from_to, least_interval}
use Rattle.ep_reach.proofs.reaches.least_of_terms.Goals as goal

pub returns : goal.returns
unfolding least_interval
returns c =
    let found = c.extremes_of-found.result in
    let low = to_z-of_z w64 found.lows.low (search rules) ∙ c.extremes_of-found.ensures.least_low in
    let high = to_z-of_z w64 found.highs.low (search rules) ∙ c.extremes_of-found.ensures.least_high in
    c.widened.ensures ∙ (λ i. from_to (low i) (high i))
