use Rattle.std.proofs.lemmas.Result.{err_from_is_err_and}
use Rattle.std.proofs.Common.{subst}
use Rattle.ep_instance_parts.specs.Instances.{plain_instance}
use Rattle.ep_tree.specs.Views.{model_tree, params_tree}
use Rattle.ep_tree.specs.declared.values.Mode.{Mode}
use Rattle.ep_types.specs.Texts.{typed_params_tree, typed_tree}
use Rattle.ep_types.specs.declared.typed.Typed.{Typed}
use Rattle.ep_types.specs.declared.typed.TypedParams.{TypedParams}
use Rattle.ep_solve.specs.Right.{empty_log}
use Rattle.ep_driver.specs.Outcomes.{judge_outcome}
use Rattle.ep_driver.specs.Steps.{TellsReply}
use Rattle.ep_driver.proofs.Running.{same-instance, verify-instance-stopped, verify-judged, verify-model-stopped, verify-params-stopped, verify-solution-stopped}
use Rattle.ep_driver.proofs.Tasks.{AreAllFaultless, AreFaultless}
use Rattle.ep_driver.proofs.runs.verify_texts.Goals as goal

pub returns-in_err-model : goal.returns-in_err-model
returns-in_err-model c =
    let p = err_from_is_err_and c.from_residual.result c.from_residual.ensures.1 in
    let m = model_tree c.args.model in
    let q = params_tree c.args.params in
    let s = params_tree c.args.solution in
    record { tells = rw (p.1, p.2) (verify-model-stopped c.args.mode Typed m q s c.in_err-model.field-0.0 c.in_err-model.ensures.passes) }

pub returns-in_err-params : goal.returns-in_err-params
returns-in_err-params c =
    let p = err_from_is_err_and c.from_residual-in_err-params.result c.from_residual-in_err-params.ensures.1 in
    let m = model_tree c.args.model in
    let q = params_tree c.args.params in
    let s = params_tree c.args.solution in
    record { tells = rw (p.1, p.2) (verify-params-stopped c.args.mode TypedParams m q s c.in_err-params.field-0.0 c.in_ok-model.ensures.passes c.in_err-params.ensures.passes) }

pub returns-in_err-solution : goal.returns-in_err-solution
returns-in_err-solution c =
    let p = err_from_is_err_and c.from_residual-in_err-solution.result c.from_residual-in_err-solution.ensures.1 in
    let m = model_tree c.args.model in
    let q = params_tree c.args.params in
    let s = params_tree c.args.solution in
    let none : AreFaultless m q = record { model = c.in_ok-model.ensures.passes; params = c.in_ok-params.ensures.passes } in
    record { tells = rw (p.1, p.2) (verify-solution-stopped c.args.mode TypedParams m q s c.in_err-solution.field-0.0 none c.in_err-solution.ensures.passes) }

pub returns-in_err-instance : goal.returns-in_err-instance
returns-in_err-instance c =
    let p = err_from_is_err_and c.from_residual-in_err-instance.result c.from_residual-in_err-instance.ensures.1 in
    let m = model_tree c.args.model in
    let q = params_tree c.args.params in
    let s = params_tree c.args.solution in
    let none : AreFaultless m q = record { model = c.in_ok-model.ensures.passes; params = c.in_ok-params.ensures.passes } in
    let all : AreAllFaultless m q s = record { texts = none; solution = c.in_ok-solution.ensures.passes } in
    record {
      tells =
          rw (p.1, p.2)
          (verify-instance-stopped c.args.mode plain_instance m q s (typed_tree c.in_ok-model.model) (typed_params_tree c.in_ok-params.params) c.in_err-instance.field-0.0
          c.in_ok-model.ensures.same c.in_ok-params.ensures.same all c.in_err-instance.ensures.tells);
    }

pub returns : goal.returns
returns c =
    let m = model_tree c.args.model in
    let q = params_tree c.args.params in
    let s = params_tree c.args.solution in
    let none : AreFaultless m q = record { model = c.in_ok-model.ensures.passes; params = c.in_ok-params.ensures.passes } in
    let all : AreAllFaultless m q s = record { texts = none; solution = c.in_ok-solution.ensures.passes } in
    let i = plain_instance c.in_ok-instance.instance in
    let bound = same-instance c.args.mode m q (typed_tree c.in_ok-model.model) (typed_params_tree c.in_ok-params.params) i c.in_ok-model.ensures.same c.in_ok-params.ensures.same c.in_ok-instance.ensures.tells in
    let read = typed_params_tree c.in_ok-solution.solution in
    let P : Mode → Type 0 = λ mode. TellsReply (judge_outcome mode i read) empty_log c.judged_reply.result in
    record {
      tells =
          verify-judged c.args.mode m q s read i c.judged_reply.result all bound c.in_ok-solution.ensures.same
          (subst P c.in_ok-instance.ensures.mode c.judged_reply.ensures);
    }
