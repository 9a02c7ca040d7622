use Rattle.std.proofs.Common.{ap, ◌∙◌}
use Rattle.ep_base.specs.Intervals.{remainder_interval}
use Rattle.ep_reach.proofs.reaches.remainder_of_terms.Goals as goal

pub returns : goal.returns
returns c = c.remainder.ensures ∙ ap remainder_interval c.span_of_term.ensures
