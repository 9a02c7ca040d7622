use Rattle.std.proofs.Common.{refl}
use Rattle.ep_tree.specs.Spelling.{fold_word}
use Rattle.ep_print.proofs.operators.fold_word.Goals as goal

pub returns-in-Sum : goal.returns-in-Sum
unfolding fold_word
returns-in-Sum c = rw c.in-Sum.is refl

pub returns-in-Product : goal.returns-in-Product
unfolding fold_word
returns-in-Product c = rw c.in-Product.is refl

pub returns-in-And : goal.returns-in-And
unfolding fold_word
returns-in-And c = rw c.in-And.is refl

pub returns-in-Or : goal.returns-in-Or
unfolding fold_word
returns-in-Or c = rw c.in-Or.is refl

pub returns-in-Min : goal.returns-in-Min
unfolding fold_word
returns-in-Min c = rw c.in-Min.is refl

pub returns-in-Max : goal.returns-in-Max
unfolding fold_word
returns-in-Max c = rw c.in-Max.is refl
