use Rattle.std.proofs.Common.{◌≡◌}
use Rattle.sat_search.proofs.search.touch.Given as goal

abbrev pub invariant-loop-number : goal.invariant-loop-number
invariant-loop-number l = l.state ≡ l.initial.state
