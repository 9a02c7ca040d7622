use Rattle.std.proofs.Common.{refl}
use Rattle.ep_tree.specs.Spelling.{set_word}
use Rattle.ep_print.proofs.operators.set_word.Goals as goal

pub returns-in-Union : goal.returns-in-Union
unfolding set_word
returns-in-Union c = rw c.in-Union.is refl

pub returns-in-Intersect : goal.returns-in-Intersect
unfolding set_word
returns-in-Intersect c = rw c.in-Intersect.is refl

pub returns-in-Minus : goal.returns-in-Minus
unfolding set_word
returns-in-Minus c = rw c.in-Minus.is refl
