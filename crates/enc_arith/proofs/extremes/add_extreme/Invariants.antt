use Rattle.std.proofs.Common.{IsTrue, take}
use Rattle.std.specs.List.{All}
use Rattle.ep_flat.specs.Cons.{number_at, numbers_of_vars}
use Rattle.enc_atoms.specs.Atoms.{Adds}
use Rattle.enc_arith.specs.Extremes.{level_holds}
use Rattle.enc_arith.proofs.extremes.add_extreme.Given as goal

abbrev pub invariant-loop-number : goal.invariant-loop-number
invariant-loop-number l = Adds l.layout l.fn.f l.layout l.f (λ values. All (λ w. IsTrue (level_holds l.side (numbers_of_vars values l.xs) (number_at values l.r) w)) (take l.number-index l.number-items))
