use Rattle.sat_text.proofs.Digits.{Read}
use Rattle.opb_text.proofs.numbers.natural.Given as goal

abbrev pub invariant-loop-b : goal.invariant-loop-b
invariant-loop-b l = Read l.word l.b-index l.number
