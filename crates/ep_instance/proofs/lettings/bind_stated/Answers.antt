use Rattle.std.proofs.Common.{ap, sym, ◌∙◌, ◌++◌, false}
use Rattle.std.proofs.lemmas.Result.{err_from_is_err_and}
use Rattle.ep_eval.specs.Known.{env_of}
use Rattle.ep_eval.specs.Outcomes.{seen_value}
use Rattle.ep_tree.specs.Binding.{undefined_at}
use Rattle.ep_tree.specs.Measures.{met, met_domain}
use Rattle.ep_tree.specs.Views.{domain_tree, expr_tree, value_tree}
use Rattle.ep_instance_parts.proofs.Answering.{answers_same, limit_refuses, refuses_first, refuses_undefined, then_is}
use Rattle.ep_instance_parts.proofs.LimitSteps.{cause_first, cause_next, counted_on, value_counted}
use Rattle.ep_instance_parts.proofs.ShapeSteps.{given_is, given_some}
use Rattle.ep_instance_parts.specs.Refusals.{text_name}
use Rattle.ep_instance_parts.specs.Steps.{fitted_said}
use Rattle.ep_instance.proofs.BindSteps.{fits_typed, stated_limits, stated_undefined}
use Rattle.ep_instance.proofs.lettings.bind_stated.Goals as goal

pub returns-in_err-read-clause-known : goal.returns-in_err-read-clause-known
returns-in_err-read-clause-known c =
    let mode = c.args.env.now.mode in
    let env = env_of c.args.env.now in
    let ds = met_domain mode env (domain_tree c.args.d.now) in
    let es = met mode env (expr_tree c.args.e.now) in
    let p = err_from_is_err_and c.from_residual.result c.from_residual.ensures.1 in
    rw (p.1, p.2) (limit_refuses mode (ds ++ es) _ _ (cause_first mode 0 ds es _ c.in_err-read.ensures))

pub returns-in_err-seen-clause-known : goal.returns-in_err-seen-clause-known
returns-in_err-seen-clause-known c =
    let mode = c.args.env.now.mode in
    let env = env_of c.args.env.now in
    let ds = met_domain mode env (domain_tree c.args.d.now) in
    let es = met mode env (expr_tree c.args.e.now) in
    let p = err_from_is_err_and c.from_residual-in_err-seen.result c.from_residual-in_err-seen.ensures.1 in
    rw (p.1, p.2) (limit_refuses mode (ds ++ es) _ _ (cause_next mode 0 c.in_ok-read.count ds es _ c.in_ok-read.ensures.counted c.in_err-seen.ensures.cause))

pub returns-in_default-clause-known : goal.returns-in_default-clause-known
unfolding seen_value
returns-in_default-clause-known c =
    let mode = c.args.env.now.mode in
    let env = env_of c.args.env.now in
    let d = domain_tree c.args.d.now in
    let e = expr_tree c.args.e.now in
    let told = value_counted mode c.in_ok-read.count _ env e (seen_value c.in_ok-seen.seen) c.in_ok-seen.ensures.value in
    let all = counted_on mode 0 c.in_ok-read.count _ (met_domain mode env d) (met mode env e) c.in_ok-read.ensures.counted told.0 in
    refuses_undefined c.args.text c.args.place _
    (stated_limits mode (undefined_at (text_name c.args.text) c.args.place) env c.args.name.now d e all.within ∙ stated_undefined _ _ _ (sym told.1 ∙ ap seen_value c.in_default.is))

pub returns-in_err-shape-clause-known : goal.returns-in_err-shape-clause-known
unfolding seen_value
returns-in_err-shape-clause-known c =
    let mode = c.args.env.now.mode in
    let env = env_of c.args.env.now in
    let d = domain_tree c.args.d.now in
    let e = expr_tree c.args.e.now in
    let refusal = undefined_at (text_name c.args.text) c.args.place in
    let told = value_counted mode c.in_ok-read.count _ env e (seen_value c.in_ok-seen.seen) c.in_ok-seen.ensures.value in
    let all = counted_on mode 0 c.in_ok-read.count _ (met_domain mode env d) (met mode env e) c.in_ok-read.ensures.counted told.0 in
    let step = then_is _ _ _ _ (stated_limits mode refusal env c.args.name.now d e all.within) (given_some refusal _ (value_tree c.in-Value.value) (sym told.1 ∙ ap seen_value c.in-Value.is)) in
    let p = err_from_is_err_and c.from_residual-in_err-shape.result c.from_residual-in_err-shape.ensures.1 in
    rw (p.1, p.2) (refuses_first _ _ _ _ step c.in_err-shape.ensures)

pub shape_from-requires : goal.shape_from-requires
shape_from-requires c = record { indices = c.in_ok-read.ensures.indices; elements = c.in_ok-read.ensures.elements }

pub bind_fitted-requires : goal.bind_fitted-requires
bind_fitted-requires c =
    let mode = c.args.env.now.mode in
    let env = env_of c.args.env.now in
    let d = domain_tree c.args.d.now in
    record {
      typed = record {
        shape = c.in_ok-shape.ensures.0;
        same = c.in_ok-shape.ensures.2;
        typed = fits_typed mode env false d c.in_ok-shape.ensures.0 c.mode-mode.ensures.typed c.requires.faultless (given_is _ _ _ c.in_ok-shape.ensures.1);
      };
    }

pub returns-clause-known : goal.returns-clause-known
unfolding seen_value
returns-clause-known c =
    let mode = c.args.env.now.mode in
    let env = env_of c.args.env.now in
    let d = domain_tree c.args.d.now in
    let e = expr_tree c.args.e.now in
    let refusal = undefined_at (text_name c.args.text) c.args.place in
    let told = value_counted mode c.in_ok-read.count _ env e (seen_value c.in_ok-seen.seen) c.in_ok-seen.ensures.value in
    let all = counted_on mode 0 c.in_ok-read.count _ (met_domain mode env d) (met mode env e) c.in_ok-read.ensures.counted told.0 in
    let step = then_is _ _ _ _ (stated_limits mode refusal env c.args.name.now d e all.within) (given_some refusal _ (value_tree c.in-Value.value) (sym told.1 ∙ ap seen_value c.in-Value.is)) in
    answers_same _ c.bind_fitted.result _ _
    (then_is _ _ _ _ step c.in_ok-shape.ensures.1 ∙ ap (λ t. fitted_said c.in_ok-shape.ensures.0 c.args.name.now t (value_tree c.in-Value.value) env) (sym c.in_ok-own.ensures))
    (c.bind_fitted.ensures.known c.in_ok-shape.ensures.0 c.in_ok-shape.ensures.2)
