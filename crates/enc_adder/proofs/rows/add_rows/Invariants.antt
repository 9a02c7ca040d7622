use Rattle.std.proofs.Common.{take}
use Rattle.std.specs.List.{All}
use Rattle.enc_atoms.specs.Atoms.{Adds}
use Rattle.enc_adder.specs.Bits.{Follows}
use Rattle.enc_adder.proofs.rows.add_rows.Given as goal

abbrev pub invariant-loop-row : goal.invariant-loop-row
invariant-loop-row l = Adds l.layout l.initial.f l.layout l.f (λ values. All (Follows values) (take l.row-index l.rows))
