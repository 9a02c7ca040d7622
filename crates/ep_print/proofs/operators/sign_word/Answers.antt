use Rattle.std.proofs.Common.{refl}
use Rattle.ep_tree.specs.Spelling.{sign_word}
use Rattle.ep_print.proofs.operators.sign_word.Goals as goal

pub returns-then-plus : goal.returns-then-plus
unfolding sign_word
returns-then-plus c = rw c.if-plus.true refl

pub returns-else-plus : goal.returns-else-plus
unfolding sign_word
returns-else-plus c = rw c.if-plus.false refl
