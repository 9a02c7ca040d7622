use Rattle.std.proofs.Common.{ap, sym, subst, ◌∙◌}
use Rattle.std.proofs.lemmas.Result.{err_from_is_err_and}
use Rattle.ep_eval.specs.Known.{env_of}
use Rattle.ep_eval.specs.Outcomes.{seen_value}
use Rattle.ep_tree.specs.Measures.{met}
use Rattle.ep_tree.specs.TypedValues.{IsOf}
use Rattle.ep_tree.specs.Views.{expr_tree, value_tree}
use Rattle.ep_instance_parts.proofs.Answering.{answers_same, limit_refuses, refuses_undefined}
use Rattle.ep_instance_parts.proofs.LimitSteps.{value_counted}
use Rattle.ep_instance.proofs.BindSteps.{plain_given, plain_undefined, value_is_typed}
use Rattle.ep_instance.proofs.lettings.bind_plain.Goals as goal

pub returns-in_err-seen-clause-known : goal.returns-in_err-seen-clause-known
returns-in_err-seen-clause-known c =
    let mode = c.args.env.now.mode in
    let env = env_of c.args.env.now in
    let p = err_from_is_err_and c.from_residual.result c.from_residual.ensures.1 in
    rw (p.1, p.2) (limit_refuses mode (met mode env (expr_tree c.args.e.now)) _ _ c.in_err-seen.ensures.cause)

pub returns-in_default-clause-known : goal.returns-in_default-clause-known
unfolding seen_value
returns-in_default-clause-known c =
    let mode = c.args.env.now.mode in
    let env = env_of c.args.env.now in
    let e = expr_tree c.args.e.now in
    let told = value_counted mode 0 c.in_ok-seen.ensures.value.0 env e (seen_value c.in_ok-seen.seen) c.in_ok-seen.ensures.value.1 in
    refuses_undefined c.args.text c.args.place _
    (plain_undefined mode _ env c.args.name.now e told.0.within (sym told.1 ∙ ap seen_value c.in_default.is))

pub put_value-requires : goal.put_value-requires
unfolding seen_value
put_value-requires c =
    let mode = c.args.env.now.mode in
    let env = env_of c.args.env.now in
    let e = expr_tree c.args.e.now in
    let told = value_counted mode 0 c.in_ok-seen.ensures.value.0 env e (seen_value c.in_ok-seen.seen) c.in_ok-seen.ensures.value.1 in
    record {
      typed =
          subst (λ t. IsOf t (value_tree c.in-Value.value)) (sym c.in_ok-ty.ensures)
          (value_is_typed mode env e (value_tree c.in-Value.value) c.mode-mode.ensures.typed c.requires.faultless (sym told.1 ∙ ap seen_value c.in-Value.is));
    }

pub returns-clause-known : goal.returns-clause-known
unfolding seen_value
returns-clause-known c =
    let mode = c.args.env.now.mode in
    let env = env_of c.args.env.now in
    let e = expr_tree c.args.e.now in
    let told = value_counted mode 0 c.in_ok-seen.ensures.value.0 env e (seen_value c.in_ok-seen.seen) c.in_ok-seen.ensures.value.1 in
    answers_same _ c.put_value.result _ _
    (plain_given mode _ env c.args.name.now e (value_tree c.in-Value.value) c.in_ok-ty.ty told.0.within (sym told.1 ∙ ap seen_value c.in-Value.is) c.in_ok-ty.ensures)
    c.put_value.ensures.known
