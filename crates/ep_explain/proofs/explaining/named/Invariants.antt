use Rattle.std.proofs.Common.{◌≡◌}
use Rattle.std.specs.Prelude.{map}
use Rattle.ep_explain.specs.Narrowing.{settled_clause}
use Rattle.ep_explain.specs.Tried.{named_clause}
use Rattle.ep_explain.proofs.explaining.named.Given as goal

abbrev pub invariant-loop-one : goal.invariant-loop-one
invariant-loop-one l = map named_clause l.named.items ≡ map settled_clause l.yielded
