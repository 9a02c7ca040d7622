use Rattle.std.proofs.Common.{take, IsTrue, ◌⊎◌}
use Rattle.std.specs.List.{All}
use Rattle.enc_all.proofs.truths.add_needed.Given as goal
use Rattle.enc_all.specs.Parts.{other_part, part_holds}
use Rattle.enc_atoms.specs.Atoms.{Adds}

abbrev pub invariant-loop-part : goal.invariant-loop-part
invariant-loop-part l =
    Adds l.fn.layout l.initial.f l.fn.layout l.f (λ values. All (λ p. IsTrue (part_holds values l.fn.said) ⊎ IsTrue (part_holds values (other_part p))) (take l.part-index l.fn.parts))
