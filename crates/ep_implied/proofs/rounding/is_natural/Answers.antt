use Rattle.ep_implied.proofs.Following.{natural_numbers}
use Rattle.ep_implied.proofs.rounding.is_natural.Goals as goal

pub returns : goal.returns
returns c = λ is. natural_numbers c.runs.result.now c.args.domain.now c.runs.ensures.numbers (c.are_natural.ensures is)
