use Rattle.std.proofs.Common.{ap, ◌∙◌}
use Rattle.ep_base.specs.Intervals.{quotient_interval}
use Rattle.ep_reach.proofs.reaches.quotient_of_terms.Goals as goal

pub returns : goal.returns
returns c = c.quotient.ensures ∙ ap quotient_interval c.span_of_term.ensures
