use Rattle.enc_adder.proofs.Comparisons.{Leads}
use Rattle.enc_adder.specs.Bits.{HasBit}
use Rattle.enc_adder.proofs.comparing.greater.Given as goal

abbrev pub invariant-loop-place : goal.invariant-loop-place
invariant-loop-place l = HasBit l.initial.layout l.initial.f l.layout l.f (Leads l.one l.other l.place) l.above
