use Rattle.std.proofs.Common.{take}
use Rattle.std.specs.List.{All}
use Rattle.enc_atoms.specs.Atoms.{Adds}
use Rattle.enc_atoms.specs.Steps.{Unless}
use Rattle.enc_count.specs.Different.{Differ}
use Rattle.enc_count.proofs.different.add_pairs.Given as goal

abbrev pub invariant-loop-pair : goal.invariant-loop-pair
invariant-loop-pair l = Adds l.layout l.initial.f l.layout l.f (λ values. All (λ p. Unless l.guard (Differ p) values) (take l.pair-index l.pairs))
