use Rattle.std.proofs.Common.{◌∙◌}
use Rattle.ep_reach.proofs.reaches.whole_of_term.Goals as goal

pub returns : goal.returns
returns c = c.widened.ensures ∙ c.span_of_term.ensures
