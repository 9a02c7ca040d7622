use Rattle.std.proofs.Common.{◌∙◌}
use Rattle.std.proofs.lemmas.Result.{err_from_is_err_and}
use Rattle.ep_types.proofs.StatementSteps.{next_declared, no_declared}
use Rattle.ep_types.proofs.Walks.{blames_first, then_is}
use Rattle.ep_types.specs.Meanings.{known_by, meaning_of}
use Rattle.ep_types.proofs.statements.declare_all.Goals as goal

pub returns-in_err-declare : goal.returns-in_err-declare
returns-in_err-declare c =
    let p = err_from_is_err_and c.from_residual.result c.from_residual.ensures.1 in
    rw (p.1, p.2)
    (blames_first c.in_err-declare.field-0.0 _ _ _ (c.loop-name.invariant ∙ next_declared (meaning_of c.args.standing_for) (known_by c.loop-name.declared.entries) c.args.names.now c.loop-name.name-index c.name-item.result c.loop-name-test.true c.name-item.is) c.in_err-declare.ensures)

pub loop-name-preserved : goal.loop-name-preserved
loop-name-preserved c = then_is _ _ _ _ (c.loop-name.invariant ∙ next_declared (meaning_of c.args.standing_for) (known_by c.loop-name.declared.entries) c.args.names.now c.loop-name.name-index c.name-item.result c.loop-name-test.true c.name-item.is) c.in_ok-declare.ensures

pub returns : goal.returns
returns c = c.loop-name.invariant ∙ no_declared (meaning_of c.args.standing_for) (known_by c.loop-name.declared.entries) c.args.names.now c.loop-name.name-index c.loop-name-test.false
