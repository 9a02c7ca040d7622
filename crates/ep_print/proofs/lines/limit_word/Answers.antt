use Rattle.std.proofs.Common.{refl}
use Rattle.ep_print.specs.Refusals.{limit_word}
use Rattle.ep_print.proofs.lines.limit_word.Goals as goal

pub returns-in-Size : goal.returns-in-Size
unfolding limit_word
returns-in-Size c = rw c.in-Size.is refl

pub returns-in-Reach : goal.returns-in-Reach
unfolding limit_word
returns-in-Reach c = rw c.in-Reach.is refl

pub returns-in-Weight : goal.returns-in-Weight
unfolding limit_word
returns-in-Weight c = rw c.in-Weight.is refl
