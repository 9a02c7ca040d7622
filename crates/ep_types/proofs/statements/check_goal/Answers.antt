use Rattle.std.proofs.Common.{ap, sym, ◌∙◌}
use Rattle.std.proofs.lemmas.Result.{err_from_is_err_and}
use Rattle.ep_tree.specs.Types.{gives}
use Rattle.ep_types_rules.proofs.RuleSteps.{says_same}
use Rattle.ep_types_rules.specs.Concluding.{conclude}
use Rattle.ep_types.proofs.StatementSteps.{goal_is}
use Rattle.ep_types.proofs.Walks.{blames_first, then_is}
use Rattle.ep_types.specs.Meanings.{known_by}
use Rattle.ep_types.proofs.statements.check_goal.Goals as goal

pub returns-in_err-ty : goal.returns-in_err-ty
returns-in_err-ty c =
    let p = err_from_is_err_and c.from_residual.result c.from_residual.ensures.1 in
    rw (p.1, p.2)
    (blames_first c.in_err-ty.field-0.0 _ _ _ (goal_is (known_by c.args.declared.now.entries) c.args.e.now) c.in_err-ty.ensures)

pub returns : goal.returns
returns c =
    says_same c.gives.result _ _
    (then_is _ _ _ _ (goal_is (known_by c.args.declared.now.entries) c.args.e.now) c.in_ok-ty.ensures ∙ ap (λ b. conclude c.args.e.now.place (gives c.in_ok-ty.ty b)) (sym c.is_integer.ensures))
    c.gives.ensures
