use Rattle.ep_unroll.proofs.Words.{arith, env_of, numbering_of}
use Rattle.ep_unroll.proofs.ClauseSteps.{clauses_all, clauses_begin, clauses_more}
use Rattle.ep_unroll.proofs.clauses.clause_terms.Goals as goal

pub loop-clause-init : goal.loop-clause-init
loop-clause-init c = clauses_begin (numbering_of c.args.env.now.mode c.args.table.now) (env_of c.args.env.now) c.args.arena.now c.args.clauses.now c.new-terms.result.items c.new-terms.ensures.items

pub loop-clause-preserved : goal.loop-clause-preserved
loop-clause-preserved c =
    clauses_more (numbering_of c.args.env.now.mode c.args.table.now) (env_of c.args.env.now) c.args.arena.now c.loop-clause.arena c.clause_term.new.arena c.args.clauses.now c.loop-clause.clause-index c.clause-item.result _
    c.in_ok-term.term c.loop-clause.terms.items c.push.new.self.items c.loop-clause-test.true c.clause-item.is c.loop-clause.invariant c.in_ok-term.ensures c.in_ok-push.ensures.items

pub returns : goal.returns
returns c =
    clauses_all (numbering_of c.args.env.now.mode c.args.table.now) (env_of c.args.env.now) c.args.arena.now c.loop-clause.arena c.args.clauses.now c.loop-clause.clause-index c.loop-clause.terms.items (omega (arith, c.loop-clause-test.false)) c.loop-clause.invariant
