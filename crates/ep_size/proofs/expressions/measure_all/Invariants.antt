use Rattle.ep_size.proofs.Words.{drop, env_of}
use Rattle.ep_size.proofs.ClauseSteps.{ClausesSoFar}
use Rattle.ep_size.proofs.expressions.measure_all.Given as goal

abbrev pub invariant-loop-clause : goal.invariant-loop-clause
invariant-loop-clause l = ClausesSoFar l.env.mode (env_of l.env) l.fn.totals l.totals l.clauses (drop l.clause-index l.clauses)
