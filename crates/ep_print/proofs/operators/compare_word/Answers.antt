use Rattle.std.proofs.Common.{refl}
use Rattle.ep_tree.specs.Spelling.{compare_word}
use Rattle.ep_print.proofs.operators.compare_word.Goals as goal

pub returns-in-Equal : goal.returns-in-Equal
unfolding compare_word
returns-in-Equal c = rw c.in-Equal.is refl

pub returns-in-NotEqual : goal.returns-in-NotEqual
unfolding compare_word
returns-in-NotEqual c = rw c.in-NotEqual.is refl

pub returns-in-Less : goal.returns-in-Less
unfolding compare_word
returns-in-Less c = rw c.in-Less.is refl

pub returns-in-AtMost : goal.returns-in-AtMost
unfolding compare_word
returns-in-AtMost c = rw c.in-AtMost.is refl

pub returns-in-Greater : goal.returns-in-Greater
unfolding compare_word
returns-in-Greater c = rw c.in-Greater.is refl

pub returns-in-AtLeast : goal.returns-in-AtLeast
unfolding compare_word
returns-in-AtLeast c = rw c.in-AtLeast.is refl
