use Rattle.std.proofs.Common.{◌-◌, length}
use Rattle.enc_var.specs.Layouts.{literals_at}
use Rattle.enc_arith.specs.Functions.{function_value}
use Rattle.enc_arith.proofs.Running.{IsRunTo}
use Rattle.enc_arith.proofs.runs.run_end.Given as goal

abbrev pub invariant-more : goal.invariant-more
invariant-more l = IsRunTo (literals_at l.layout l.var).domain l.found (function_value l.function) l.numbers l.start l.end

abbrev pub decreases-more : goal.decreases-more
decreases-more l = length l.numbers - l.end
