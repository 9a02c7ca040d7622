use Rattle.std.proofs.Common.{Some, ap, sym, ◌∙◌}
use Rattle.std.proofs.lemmas.Result.{err_from_is_err_and}
use Rattle.ep_tree.specs.Types.{a_value}
use Rattle.ep_types.proofs.StatementSteps.{next_group, no_group}
use Rattle.ep_types.proofs.Walks.{blames_first, blames_same, then_is}
use Rattle.ep_types.specs.Checking.{check_declared}
use Rattle.ep_types.specs.Meanings.{known_by, meaning_of}
use Rattle.ep_types.proofs.statements.check_groups.Goals as goal

pub returns-in_err-ty : goal.returns-in_err-ty
returns-in_err-ty c =
    let p = err_from_is_err_and c.from_residual.result c.from_residual.ensures.1 in
    rw (p.1, p.2)
    (blames_first c.in_err-ty.field-0.0 _ _ _ (c.loop-group.invariant ∙ next_group c.args.decisions c.args.may_open (known_by c.loop-group.declared.entries) c.args.groups.now c.loop-group.group-index c.group-item.result c.loop-group-test.true c.group-item.is) c.in_err-ty.ensures)

pub returns-in_err-declare_all : goal.returns-in_err-declare_all
unfolding meaning_of
returns-in_err-declare_all c =
    let p = err_from_is_err_and c.from_residual-in_err-declare_all.result c.from_residual-in_err-declare_all.ensures.1 in
    rw (p.1, p.2)
    (blames_first c.in_err-declare_all.field-0.0 _ _ _ (then_is _ _ _ _ (c.loop-group.invariant ∙ next_group c.args.decisions c.args.may_open (known_by c.loop-group.declared.entries) c.args.groups.now c.loop-group.group-index c.group-item.result c.loop-group-test.true c.group-item.is) c.in_ok-ty.ensures)
    (blames_same c.in_err-declare_all.field-0.0 _ _ (ap (check_declared (a_value (Some c.in_ok-ty.ty) c.args.decisions) (known_by c.loop-group.declared.entries)) (sym c.deref.ensures.value)) c.in_err-declare_all.ensures))

pub loop-group-preserved : goal.loop-group-preserved
unfolding meaning_of
loop-group-preserved c = then_is _ _ _ _ (then_is _ _ _ _ (c.loop-group.invariant ∙ next_group c.args.decisions c.args.may_open (known_by c.loop-group.declared.entries) c.args.groups.now c.loop-group.group-index c.group-item.result c.loop-group-test.true c.group-item.is) c.in_ok-ty.ensures) ((ap (check_declared (a_value (Some c.in_ok-ty.ty) c.args.decisions) (known_by c.loop-group.declared.entries)) (sym c.deref.ensures.value)) ∙ c.in_ok-declare_all.ensures)

pub returns : goal.returns
returns c = c.loop-group.invariant ∙ no_group c.args.decisions c.args.may_open (known_by c.loop-group.declared.entries) c.args.groups.now c.loop-group.group-index c.loop-group-test.false
