use Rattle.std.proofs.Common.{rules, ◌∙◌, w64}
use Rattle.std.proofs.lemmas.Int.{to_z-of_z}
use Rattle.ep_base.specs.Intervals.{from_to, greatest_interval}
use Rattle.ep_reach.proofs.reaches.greatest_of_terms.Goals as goal

pub returns : goal.returns
unfolding greatest_interval
returns c =
    let found = c.extremes_of-found.result in
    let low = to_z-of_z w64 found.lows.high (search rules) ∙ c.extremes_of-found.ensures.greatest_low in
    let high = to_z-of_z w64 found.highs.high (search rules) ∙ c.extremes_of-found.ensures.greatest_high in
    c.widened.ensures ∙ (λ i. from_to (low i) (high i))
