use Rattle.std.proofs.Common.{take}
use Rattle.enc_adder.specs.Parts.{HasSides, sum_of_parts}
use Rattle.enc_adder.proofs.sides.sides_of.Given as goal

abbrev pub invariant-loop-part : goal.invariant-loop-part
invariant-loop-part l = HasSides l.initial.layout l.initial.f l.layout l.f (λ values. sum_of_parts values (take l.part-index l.parts)) l.sides
