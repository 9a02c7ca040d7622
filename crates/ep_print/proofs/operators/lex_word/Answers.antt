use Rattle.std.proofs.Common.{refl}
use Rattle.ep_tree.specs.Spelling.{lex_word}
use Rattle.ep_print.proofs.operators.lex_word.Goals as goal

pub returns-in-Less : goal.returns-in-Less
unfolding lex_word
returns-in-Less c = rw c.in-Less.is refl

pub returns-in-AtMost : goal.returns-in-AtMost
unfolding lex_word
returns-in-AtMost c = rw c.in-AtMost.is refl

pub returns-in-Greater : goal.returns-in-Greater
unfolding lex_word
returns-in-Greater c = rw c.in-Greater.is refl

pub returns-in-AtLeast : goal.returns-in-AtLeast
unfolding lex_word
returns-in-AtLeast c = rw c.in-AtLeast.is refl
