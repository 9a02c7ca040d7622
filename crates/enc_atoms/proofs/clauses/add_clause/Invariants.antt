use Rattle.std.proofs.Common.{take}
use Rattle.enc_atoms.proofs.clauses.add_clause.Given as goal
use Rattle.enc_atoms.specs.Literals.{AreGathered}

abbrev pub invariant-loop-atom : goal.invariant-loop-atom
invariant-loop-atom l = AreGathered l.fn.layout l.fn.f.vars (take l.atom-index l.fn.atoms) l.literals.items
