use Rattle.std.proofs.Common.{ℤ, take}
use Rattle.std.specs.List.{All, Any, Contains}
use Rattle.ep_base.specs.Runs.{IsIn}
use Rattle.enc_var.specs.Layouts.{literals_at}
use Rattle.enc_count.proofs.different.numbers_of.Given as goal

abbrev pub invariant-loop-var : goal.invariant-loop-var
invariant-loop-var l = All (λ x. (v : ℤ) → Contains (literals_at l.layout x).domain v → Any (IsIn v) l.parts.items) (take l.var-index l.vars)
