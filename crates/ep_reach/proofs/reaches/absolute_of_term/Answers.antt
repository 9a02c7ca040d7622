use Rattle.std.proofs.Common.{ap, ◌∙◌}
use Rattle.ep_base.specs.Intervals.{absolute_interval}
use Rattle.ep_reach.proofs.reaches.absolute_of_term.Goals as goal

pub returns : goal.returns
returns c = c.absolute.ensures ∙ ap absolute_interval c.span_of_term.ensures
