use Rattle.std.proofs.Common.{refl}
use Rattle.ep_tree.specs.Spelling.{binary_word}
use Rattle.ep_print.proofs.operators.binary_word.Goals as goal

pub returns-in-Mul : goal.returns-in-Mul
unfolding binary_word
returns-in-Mul c = rw c.in-Mul.is refl

pub returns-in-Div : goal.returns-in-Div
unfolding binary_word
returns-in-Div c = rw c.in-Div.is refl

pub returns-in-Mod : goal.returns-in-Mod
unfolding binary_word
returns-in-Mod c = rw c.in-Mod.is refl

pub returns-in-Pow : goal.returns-in-Pow
unfolding binary_word
returns-in-Pow c = rw c.in-Pow.is refl

pub returns-in-Min : goal.returns-in-Min
unfolding binary_word
returns-in-Min c = rw c.in-Min.is refl

pub returns-in-Max : goal.returns-in-Max
unfolding binary_word
returns-in-Max c = rw c.in-Max.is refl

pub returns-in-Implies : goal.returns-in-Implies
unfolding binary_word
returns-in-Implies c = rw c.in-Implies.is refl

pub returns-in-Iff : goal.returns-in-Iff
unfolding binary_word
returns-in-Iff c = rw c.in-Iff.is refl
