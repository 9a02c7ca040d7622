use Rattle.std.proofs.Common.{◌∙◌}
use Rattle.std.proofs.lemmas.Result.{err_from_is_err_and}
use Rattle.ep_types.proofs.StatementSteps.{next_branching, no_branching}
use Rattle.ep_types.proofs.Walks.{blames_first, then_is}
use Rattle.ep_types.specs.Meanings.{known_by}
use Rattle.ep_types.proofs.statements.check_branching.Goals as goal

pub returns-in_err-check_known : goal.returns-in_err-check_known
returns-in_err-check_known c =
    let p = err_from_is_err_and c.from_residual.result c.from_residual.ensures.1 in
    rw (p.1, p.2)
    (blames_first c.in_err-check_known.field-0.0 _ _ _ (c.loop-name.invariant ∙ next_branching (known_by c.args.declared.now.entries) c.args.names.now c.loop-name.name-index c.name-item.result c.loop-name-test.true c.name-item.is) c.in_err-check_known.ensures)

pub loop-name-preserved : goal.loop-name-preserved
loop-name-preserved c = then_is _ _ _ _ (c.loop-name.invariant ∙ next_branching (known_by c.args.declared.now.entries) c.args.names.now c.loop-name.name-index c.name-item.result c.loop-name-test.true c.name-item.is) c.in_ok-check_known.ensures

pub returns : goal.returns
returns c = c.loop-name.invariant ∙ no_branching (known_by c.args.declared.now.entries) c.args.names.now c.loop-name.name-index c.loop-name-test.false
