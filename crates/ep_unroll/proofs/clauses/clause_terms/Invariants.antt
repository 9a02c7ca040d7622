use Rattle.ep_unroll.proofs.Words.{take, map, env_of, expr_tree, AreClauses, numbering_of}
use Rattle.ep_unroll.proofs.clauses.clause_terms.Given as goal

abbrev pub invariant-loop-clause : goal.invariant-loop-clause
invariant-loop-clause l = AreClauses (numbering_of l.env.mode l.table) (env_of l.env) l.fn.arena l.arena (map expr_tree (take l.clause-index l.clauses)) l.terms.items
