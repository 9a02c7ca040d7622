use Rattle.std.proofs.Common.{◌||◌, IsTrue, take}
use Rattle.std.specs.List.{All}
use Rattle.ep_base.specs.Numbers.{compare_holds}
use Rattle.ep_flat.specs.Cons.{number_at}
use Rattle.enc_atoms.specs.Atoms.{Adds, clause_holds}
use Rattle.enc_arith.proofs.extremes.add_each.Given as goal

abbrev pub invariant-loop-x : goal.invariant-loop-x
invariant-loop-x l = Adds l.layout l.fn.f l.layout l.f (λ values. All (λ x. IsTrue (clause_holds values l.when || compare_holds l.op (number_at values x) l.number)) (take l.x-index l.xs))
