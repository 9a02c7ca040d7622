use Rattle.std.proofs.lemmas.Result.{err_from_is_err_and}
use Rattle.ep_types.proofs.StatementSteps.{stated_none, stated_some}
use Rattle.ep_types.proofs.Walks.{blames_first, then_is}
use Rattle.ep_types.specs.Meanings.{known_by}
use Rattle.ep_types.proofs.statements.stated.Goals as goal

pub returns-in-None : goal.returns-in-None
returns-in-None c = stated_none (known_by c.args.declared.now.entries) c.args.domain.now c.in-None.is

pub returns-in_err-ty-in-Some : goal.returns-in_err-ty-in-Some
returns-in_err-ty-in-Some c =
    let p = err_from_is_err_and c.from_residual.result c.from_residual.ensures.1 in
    rw (p.1, p.2)
    (blames_first c.in_err-ty-in-Some.field-0.0 _ _ _ (stated_some (known_by c.args.declared.now.entries) c.args.domain.now c.in-Some.domain c.in-Some.is) c.in_err-ty-in-Some.ensures)

pub returns-in_ok-ty-in-Some : goal.returns-in_ok-ty-in-Some
returns-in_ok-ty-in-Some c = then_is _ _ _ _ (stated_some (known_by c.args.declared.now.entries) c.args.domain.now c.in-Some.domain c.in-Some.is) c.in_ok-ty-in-Some.ensures
