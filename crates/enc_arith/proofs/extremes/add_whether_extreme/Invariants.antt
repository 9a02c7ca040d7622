use Rattle.std.proofs.Common.{[], take}
use Rattle.std.specs.Prelude.{Some}
use Rattle.ep_flat.specs.Cons.{numbers_of_vars}
use Rattle.enc_atoms.specs.Atoms.{Adds}
use Rattle.enc_arith.specs.Extremes.{is_extreme}
use Rattle.enc_arith.proofs.Cases.{CasesOf}
use Rattle.enc_arith.proofs.extremes.add_whether_extreme.Given as goal

abbrev pub invariant-loop-number : goal.invariant-loop-number
invariant-loop-number l =
    Adds l.layout l.fn.f l.layout l.f
    (λ values. CasesOf [] l.r (Some l.truth) (λ vs n. is_extreme l.side (numbers_of_vars vs l.xs) n) (take l.number-index l.number-items) values)
