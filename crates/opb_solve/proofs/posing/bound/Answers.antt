use Rattle.std.proofs.Common.{refl}
use Rattle.opb_solve.proofs.posing.bound.Goals as goal

pub returns-in-None-clause-same : goal.returns-in-None-clause-same
returns-in-None-clause-same c = record { vars = refl; meets = λ values. (λ meets. meets, λ meets. meets) }
