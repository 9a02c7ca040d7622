use Rattle.std.proofs.Common.{take}
use Rattle.std.specs.List.{All}
use Rattle.enc_atoms.specs.Atoms.{Adds}
use Rattle.enc_linear.proofs.Saying.{Passes}
use Rattle.enc_linear.proofs.member.add_membership.Given as goal

abbrev pub invariant-loop-value : goal.invariant-loop-value
invariant-loop-value l = Adds l.layout l.initial.f l.layout l.f (λ values. All (Passes l.guards l.var l.numbers l.inside values) (take l.value-index l.value-items))
