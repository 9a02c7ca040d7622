use Rattle.std.proofs.Common.{take}
use Rattle.std.specs.List.{AllZip}
use Rattle.enc_linear.specs.Terms.{IsMirror}
use Rattle.enc_linear.proofs.linear.mirrors_of.Given as goal

abbrev pub invariant-loop-term : goal.invariant-loop-term
invariant-loop-term l = AllZip IsMirror (take l.term-index l.terms) l.mirrors.items
