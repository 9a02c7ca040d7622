use Rattle.std.proofs.Common.{◌≡◌}
use Rattle.sat_search.proofs.recent.Recent.retire_before.Given as goal

-- nothing that is seen of the state changes
abbrev pub invariant-needed : goal.invariant-needed
invariant-needed l = l.state ≡ l.fn.state
