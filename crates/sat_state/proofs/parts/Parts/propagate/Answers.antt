use Rattle.sat_state.proofs.Going.{joined_end}
use Rattle.sat_state.proofs.parts.Parts.propagate.Goals as goal

pub returns-else-is_some-clause-at_end : goal.returns-else-is_some-clause-at_end
returns-else-is_some-clause-at_end c = λ none. joined_end c.look-falsified.new.self c.look-falsified.ensures.goes.joined (c.look-falsified.ensures.done none)
