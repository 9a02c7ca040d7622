use Rattle.std.proofs.Common.{◌≤◌}
use Rattle.cnf_core.specs.declared.lit.TheConstants.{MOST_VARIABLE}
use Rattle.sat_search.proofs.adding.most_named.Given as goal

abbrev pub invariant-loop-place : goal.invariant-loop-place
invariant-loop-place l = l.most ≤ MOST_VARIABLE
