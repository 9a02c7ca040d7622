use Rattle.std.proofs.Common.{take}
use Rattle.std.specs.List.{All}
use Rattle.enc_atoms.specs.Atoms.{Adds}
use Rattle.enc_atoms.specs.Steps.{NotBoth, Unless}
use Rattle.enc_count.proofs.different.add_apart.Given as goal

abbrev pub invariant-loop-number : goal.invariant-loop-number
invariant-loop-number l = Adds l.layout l.initial.f l.layout l.f (λ values. All (λ v. Unless l.guard (NotBoth l.one v l.other v) values) (take l.number-index l.number-items))
