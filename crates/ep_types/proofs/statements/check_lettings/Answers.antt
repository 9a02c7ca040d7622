use Rattle.std.proofs.Common.{ap, filter, map, sym, ◌∙◌}
use Rattle.std.proofs.lemmas.Result.{err_from_is_err_and}
use Rattle.ep_tree.specs.StatementSpelling.{is_letting}
use Rattle.ep_tree.specs.Views.{statement_tree}
use Rattle.ep_types.proofs.StatementSteps.{next_letting, no_letting, nothing_in, other_statement}
use Rattle.ep_types.proofs.Walks.{blames_first, then_is}
use Rattle.ep_types.specs.Checking.{check_text}
use Rattle.ep_types.specs.Meanings.{known_by}
use Rattle.ep_types.proofs.statements.check_lettings.Goals as goal

pub loop-statement-init : goal.loop-statement-init
loop-statement-init c = ap (λ k. check_text k (filter is_letting (map statement_tree c.args.statements.now))) (sym (nothing_in _ c.new-declared.ensures.empty))

pub returns-in_err-check_statement : goal.returns-in_err-check_statement
returns-in_err-check_statement c =
    let p = err_from_is_err_and c.from_residual.result c.from_residual.ensures.1 in
    rw (p.1, p.2)
    (blames_first c.in_err-check_statement.field-0.0 _ _ _ (c.loop-statement.invariant ∙ next_letting (known_by c.loop-statement.declared.entries) c.args.statements.now c.loop-statement.statement-index c.statement-item.result c.loop-statement-test.true c.statement-item.is (sym c.if-not-is_letting.ensures)) c.in_err-check_statement.ensures)

pub loop-statement-preserved : goal.loop-statement-preserved
loop-statement-preserved c = then_is _ _ _ _ (c.loop-statement.invariant ∙ next_letting (known_by c.loop-statement.declared.entries) c.args.statements.now c.loop-statement.statement-index c.statement-item.result c.loop-statement-test.true c.statement-item.is (sym c.if-not-is_letting.ensures)) c.in_ok-check_statement.ensures

pub loop-statement-preserved-then-not-is_letting : goal.loop-statement-preserved-then-not-is_letting
loop-statement-preserved-then-not-is_letting c = c.loop-statement.invariant ∙ other_statement (known_by c.loop-statement.declared.entries) c.args.statements.now c.loop-statement.statement-index c.statement-item.result c.loop-statement-test.true c.statement-item.is (sym c.if-not-is_letting.ensures)

pub returns : goal.returns
returns c = c.loop-statement.invariant ∙ no_letting (known_by c.loop-statement.declared.entries) c.args.statements.now c.loop-statement.statement-index c.loop-statement-test.false
