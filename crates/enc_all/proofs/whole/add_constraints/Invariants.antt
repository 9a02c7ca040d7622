use Rattle.std.proofs.Common.{map, take, IsTrue}
use Rattle.std.specs.List.{All}
use Rattle.enc_all.proofs.whole.add_constraints.Given as goal
use Rattle.enc_atoms.specs.Atoms.{Adds}
use Rattle.ep_flat.specs.Cons.{con_holds}
use Rattle.ep_flat.specs.FlatViews.{plain_con}

abbrev pub invariant-loop-con : goal.invariant-loop-con
invariant-loop-con l = Adds l.initial.layout l.initial.f l.layout l.f (λ values. All (λ con. IsTrue (con_holds values con)) (take l.con-index (map plain_con l.fn.cons)))
