use Rattle.std.proofs.Common.{◌-ℤ◌, ◌*ℤ◌}
use Rattle.enc_adder.proofs.Halves.{Halving, worth_left}
use Rattle.enc_adder.proofs.parts.part.Given as goal

abbrev pub invariant-halving : goal.invariant-halving
invariant-halving l = Halving l.initial.layout l.initial.f l.layout l.f l.var (λ v. l.size *ℤ (v -ℤ l.least)) l.bits.items l.steps.items

abbrev pub decreases-halving : goal.decreases-halving
decreases-halving l = worth_left l.steps.items
