use Rattle.enc_adder.proofs.Sums.{AddsUpTo}
use Rattle.enc_adder.proofs.adding.added.Given as goal

abbrev pub invariant-loop-place : goal.invariant-loop-place
invariant-loop-place l = AddsUpTo l.initial.layout l.initial.f l.layout l.f l.one l.other l.bits.items l.carry l.place
