use Rattle.std.proofs.Common.{◌≡◌}
use Rattle.sat_search.proofs.adding.expect.Given as goal

-- nothing that is seen of the state changes
abbrev pub invariant-loop-var : goal.invariant-loop-var
invariant-loop-var l = l.state ≡ l.initial.state
