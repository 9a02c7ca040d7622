use Rattle.std.proofs.Common.{refl}
use Rattle.ep_tree.specs.Spelling.{quantifier_word}
use Rattle.ep_print.proofs.operators.quantifier_word.Goals as goal

pub returns-in-ForAll : goal.returns-in-ForAll
unfolding quantifier_word
returns-in-ForAll c = rw c.in-ForAll.is refl

pub returns-in-Exists : goal.returns-in-Exists
unfolding quantifier_word
returns-in-Exists c = rw c.in-Exists.is refl

pub returns-in-Sum : goal.returns-in-Sum
unfolding quantifier_word
returns-in-Sum c = rw c.in-Sum.is refl
