use Rattle.std.proofs.Common.{take}
use Rattle.enc_all.proofs.whole.add_variables.Given as goal
use Rattle.enc_all.specs.Whole.{HasVariables}

abbrev pub invariant-loop-domain : goal.invariant-loop-domain
invariant-loop-domain l = HasVariables (take l.domain-index l.fn.domains) l.layout l.f
