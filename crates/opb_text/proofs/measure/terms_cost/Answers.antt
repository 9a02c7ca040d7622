use Rattle.std.proofs.Common.{ℕ, ◌+◌, ◌*◌, length, ap, ◌∙◌}
use Rattle.ep_base.specs.Intervals.{sum_cost}
use Rattle.opb_text.proofs.measure.terms_cost.Goals as goal

pub returns : goal.returns
unfolding sum_cost
returns c = c.min.ensures ∙ ap (λ (n : ℕ). sum_cost (n + 1) (2 * length c.args.terms.now) (length c.args.terms.now)) c.factors_reach-width.ensures.value
