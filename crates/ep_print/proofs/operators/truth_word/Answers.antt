use Rattle.std.proofs.Common.{refl}
use Rattle.ep_tree.specs.Spelling.{truth_word}
use Rattle.ep_print.proofs.operators.truth_word.Goals as goal

pub returns-then-truth : goal.returns-then-truth
unfolding truth_word
returns-then-truth c = rw c.if-truth.true refl

pub returns-else-truth : goal.returns-else-truth
unfolding truth_word
returns-else-truth c = rw c.if-truth.false refl
