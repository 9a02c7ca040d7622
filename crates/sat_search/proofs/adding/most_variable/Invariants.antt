use Rattle.std.proofs.Common.{ℕ, ◌≤◌, take}
use Rattle.cnf_core.specs.Literal.{VariablesUpTo}
use Rattle.cnf_core.specs.declared.lit.TheConstants.{MOST_VARIABLE}
use Rattle.sat_search.specs.Analysis.{AreInRange}
use Rattle.sat_search.proofs.adding.most_variable.Given as goal

abbrev pub invariant-loop-lit : goal.invariant-loop-lit
invariant-loop-lit l = record {
  most : l.most ≤ MOST_VARIABLE;
  keeps : l.fn.vars ≤ l.most;
  range : AreInRange l.most (take l.lit-index l.lits);
  least : (most : ℕ) → l.fn.vars ≤ most → VariablesUpTo most l.lits → l.most ≤ most;
}
