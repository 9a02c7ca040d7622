use Rattle.std.proofs.Common.{pos, take}
use Rattle.std.specs.List.{All}
use Rattle.enc_atoms.specs.Atoms.{Adds}
use Rattle.enc_atoms.specs.Steps.{Implied}
use Rattle.enc_count.proofs.counts.add_each_told.Given as goal

abbrev pub invariant-loop-one : goal.invariant-loop-one
invariant-loop-one l = Adds l.layout l.initial.f l.layout l.f (λ values. All (λ d. Implied l.truth (pos 1) d (pos 1) values) (take l.one-index l.told))
