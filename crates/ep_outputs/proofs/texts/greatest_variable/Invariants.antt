use Rattle.std.proofs.Common.{◌≤◌, ℕ, All}
use Rattle.cnf_core.specs.Literal.{VariablesUpTo}
use Rattle.cnf_core.specs.declared.lit.TheConstants.{MOST_VARIABLE}
use Rattle.ep_outputs.proofs.Givens.{AreUpTo}
use Rattle.ep_outputs.proofs.texts.greatest_variable.Given as goal

abbrev pub invariant-loop-clause : goal.invariant-loop-clause
invariant-loop-clause l = AreUpTo l.most l.clause-index l.clauses × (l.most ≤ MOST_VARIABLE) × ((n : ℕ) → All (VariablesUpTo n) l.clauses → l.most ≤ n)
