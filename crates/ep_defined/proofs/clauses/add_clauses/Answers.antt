use Rattle.ep_defined.proofs.Ending.{clauses_turn}
use Rattle.ep_defined.proofs.clauses.add_clauses.Goals as goal

pub loop-term-preserved : goal.loop-term-preserved
loop-term-preserved c =
    clauses_turn c.args.images.now c.args.terms.now c.loop-term.term-index _ c.args.clauses.now.items c.loop-term.clauses.items c.add_clause.new.clauses.items
    c.in_ok-add_clause.ensures c.loop-term.invariant c.loop-term-test.true c.term-item.is
