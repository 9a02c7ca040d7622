use Rattle.std.proofs.Common.{◌≡◌}
use Rattle.sat_search.proofs.search.retire_needless.Given as goal

-- nothing that is seen of the state changes
abbrev pub invariant-loop-hint : goal.invariant-loop-hint
invariant-loop-hint l = l.state ≡ l.initial.state
