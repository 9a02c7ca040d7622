use Rattle.std.proofs.Common.{◌∙◌}
use Rattle.std.proofs.lemmas.Result.{err_from_is_err_and}
use Rattle.ep_types.proofs.StatementSteps.{next_clause, no_clause}
use Rattle.ep_types.proofs.Walks.{blames_first, then_is}
use Rattle.ep_types.specs.Meanings.{known_by}
use Rattle.ep_types.proofs.statements.check_clauses.Goals as goal

pub returns-in_err-check_clause : goal.returns-in_err-check_clause
returns-in_err-check_clause c =
    let p = err_from_is_err_and c.from_residual.result c.from_residual.ensures.1 in
    rw (p.1, p.2)
    (blames_first c.in_err-check_clause.field-0.0 _ _ _ (c.loop-clause.invariant ∙ next_clause c.args.decisions (known_by c.args.declared.now.entries) c.args.clauses.now c.loop-clause.clause-index c.clause-item.result c.loop-clause-test.true c.clause-item.is) c.in_err-check_clause.ensures)

pub loop-clause-preserved : goal.loop-clause-preserved
loop-clause-preserved c = then_is _ _ _ _ (c.loop-clause.invariant ∙ next_clause c.args.decisions (known_by c.args.declared.now.entries) c.args.clauses.now c.loop-clause.clause-index c.clause-item.result c.loop-clause-test.true c.clause-item.is) c.in_ok-check_clause.ensures

pub returns : goal.returns
returns c = c.loop-clause.invariant ∙ no_clause c.args.decisions (known_by c.args.declared.now.entries) c.args.clauses.now c.loop-clause.clause-index c.loop-clause-test.false
