use Rattle.std.proofs.Common.{ap, sym, subst, ◌∙◌, option_map}
use Rattle.ep_eval.specs.Known.{env_of}
use Rattle.ep_tree.specs.Environments.{has_value, shape_type}
use Rattle.ep_tree.specs.Names.{put}
use Rattle.ep_tree.specs.TypedValues.{IsOf}
use Rattle.ep_tree.specs.Views.{value_tree}
use Rattle.std.specs.Prelude.{Ok}
use Rattle.ep_instance_parts.proofs.Answering.{answers_same, refuses_one}
use Rattle.ep_instance_parts.proofs.ShapeSteps.{fit_now, fitted_none, fitted_some, kept_type}
use Rattle.ep_instance_parts.proofs.fitted.bind_fitted.Goals as goal

pub returns-in_default-clause-known : goal.returns-in_default-clause-known
returns-in_default-clause-known c = λ bound same.
    let is = fit_now bound c.args.shape.now c.args.own (value_tree c.args.value.now) _ _ _ same c.deref.ensures.value c.scalar_of.ensures c.in_ok-fitted.ensures in
    refuses_one c.outside.result _ _
    (fitted_none bound c.args.name.now c.args.own (value_tree c.args.value.now) (env_of c.args.env.now) (sym is ∙ ap (option_map value_tree) c.in_default.is))
    c.outside.ensures

pub put_value-requires : goal.put_value-requires
put_value-requires c =
    let t = c.requires.typed in
    let is = fit_now t.shape c.args.shape.now c.args.own (value_tree c.args.value.now) _ _ _ t.same c.deref.ensures.value c.scalar_of.ensures c.in_ok-fitted.ensures in
    let fit = value_tree c.in-Some.fitted in
    record {
      typed =
          subst (λ ty. IsOf ty fit) (sym (c.type_of_shape-ty.ensures ∙ ap (shape_type c.args.shape.now.scalar) c.deref-2.ensures.value ∙ kept_type t.shape c.args.shape.now t.same))
          (t.typed c.args.own (value_tree c.args.value.now) fit (sym is ∙ ap (option_map value_tree) c.in-Some.is));
    }

pub returns-clause-known : goal.returns-clause-known
returns-clause-known c = λ bound same.
    let is = fit_now bound c.args.shape.now c.args.own (value_tree c.args.value.now) _ _ _ same c.deref.ensures.value c.scalar_of.ensures c.in_ok-fitted.ensures in
    let fit = value_tree c.in-Some.fitted in
    answers_same _ c.put_value.result _ _
    (fitted_some bound c.args.name.now c.args.own (value_tree c.args.value.now) fit (env_of c.args.env.now) (sym is ∙ ap (option_map value_tree) c.in-Some.is)
    ∙ ap (λ ty. Ok (put c.args.name.now (has_value ty fit) (env_of c.args.env.now)))
    (sym (c.type_of_shape-ty.ensures ∙ ap (shape_type c.args.shape.now.scalar) c.deref-2.ensures.value ∙ kept_type bound c.args.shape.now same)))
    c.put_value.ensures.known
