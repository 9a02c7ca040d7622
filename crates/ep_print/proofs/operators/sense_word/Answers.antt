use Rattle.std.proofs.Common.{refl}
use Rattle.ep_print.specs.Words.{sense_word}
use Rattle.ep_print.proofs.operators.sense_word.Goals as goal

pub returns-in-Minimising : goal.returns-in-Minimising
unfolding sense_word
returns-in-Minimising c = rw c.in-Minimising.is refl

pub returns-in-Maximising : goal.returns-in-Maximising
unfolding sense_word
returns-in-Maximising c = rw c.in-Maximising.is refl
