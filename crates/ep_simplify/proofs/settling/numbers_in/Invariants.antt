use Rattle.std.proofs.Common.{take}
use Rattle.ep_simplify.specs.Settling.{AreNumbers}
use Rattle.ep_simplify.proofs.settling.numbers_in.Given as goal

abbrev pub invariant-loop-term : goal.invariant-loop-term
invariant-loop-term l = AreNumbers l.news.arena (take l.term-index l.terms) l.numbers.items
