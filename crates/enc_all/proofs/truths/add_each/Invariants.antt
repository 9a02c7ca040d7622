use Rattle.std.proofs.Common.{take, true, IsTrue}
use Rattle.std.specs.List.{All}
use Rattle.enc_all.proofs.truths.add_each.Given as goal
use Rattle.enc_all.specs.Parts.{part_holds}
use Rattle.enc_atoms.specs.Atoms.{Adds}

abbrev pub invariant-loop-x : goal.invariant-loop-x
invariant-loop-x l = Adds l.fn.layout l.initial.f l.fn.layout l.f (λ values. All (λ x. IsTrue (part_holds values (true, x))) (take l.x-index l.fn.xs))
