use Rattle.std.proofs.lemmas.Result.{err_from_is_err_and}
use Rattle.std.proofs.Common.{subst}
use Rattle.ep_instance_parts.specs.Instances.{plain_instance}
use Rattle.ep_tree.specs.Views.{model_tree, params_tree}
use Rattle.ep_tree.specs.declared.values.Mode.{Mode}
use Rattle.ep_types.specs.Texts.{typed_params_tree, typed_tree}
use Rattle.ep_types.specs.declared.typed.Typed.{Typed}
use Rattle.ep_types.specs.declared.typed.TypedParams.{TypedParams}
use Rattle.ep_driver.specs.Answers.{Settles}
use Rattle.ep_driver.specs.Outcomes.{searched_task}
use Rattle.ep_driver.proofs.Noted.{settled-readable}
use Rattle.ep_driver.proofs.Running.{same-instance, search-answered, search-instance-stopped, search-model-stopped, search-params-stopped, search-wanting, stopped-search}
use Rattle.ep_driver.proofs.Tasks.{AreFaultless}
use Rattle.ep_driver.proofs.runs.search_texts.Goals as goal

pub returns-in_err-model-clause-tells : goal.returns-in_err-model-clause-tells
returns-in_err-model-clause-tells g c =
    let p = err_from_is_err_and c.from_residual.result c.from_residual.ensures.1 in
    let m = model_tree c.args.model in
    let q = params_tree c.args.params in
    rw (p.1, p.2) (search-model-stopped c.args.mode Typed c.args.log.now c.args.request m q c.in_err-model.field-0.0 c.requires.empty c.in_err-model.ensures.passes)

pub returns-in_err-params-clause-tells : goal.returns-in_err-params-clause-tells
returns-in_err-params-clause-tells g c =
    let p = err_from_is_err_and c.from_residual-in_err-params.result c.from_residual-in_err-params.ensures.1 in
    let m = model_tree c.args.model in
    let q = params_tree c.args.params in
    rw (p.1, p.2) (search-params-stopped c.args.mode TypedParams c.args.log.now c.args.request m q c.in_err-params.field-0.0 c.requires.empty c.in_ok-model.ensures.passes c.in_err-params.ensures.passes)

pub returns-in_err-instance-clause-tells : goal.returns-in_err-instance-clause-tells
returns-in_err-instance-clause-tells g c =
    let p = err_from_is_err_and c.from_residual-in_err-instance.result c.from_residual-in_err-instance.ensures.1 in
    let m = model_tree c.args.model in
    let q = params_tree c.args.params in
    let none : AreFaultless m q = record { model = c.in_ok-model.ensures.passes; params = c.in_ok-params.ensures.passes } in
    rw (p.1, p.2)
    (search-instance-stopped c.args.mode plain_instance c.args.log.now c.args.request m q (typed_tree c.in_ok-model.model) (typed_params_tree c.in_ok-params.params) c.in_err-instance.field-0.0 c.requires.empty
    c.in_ok-model.ensures.same c.in_ok-params.ensures.same none c.in_err-instance.ensures.tells)

pub returns-clause-tells : goal.returns-clause-tells
returns-clause-tells g c =
    let m = model_tree c.args.model in
    let q = params_tree c.args.params in
    let none : AreFaultless m q = record { model = c.in_ok-model.ensures.passes; params = c.in_ok-params.ensures.passes } in
    let i = plain_instance c.in_ok-instance.instance in
    let bound = same-instance c.args.mode m q (typed_tree c.in_ok-model.model) (typed_params_tree c.in_ok-params.params) i c.in_ok-model.ensures.same c.in_ok-params.ensures.same c.in_ok-instance.ensures.tells in
    let reply = c.in_ok-reply.reply in
    let P : Mode → Type 0 = λ mode. Settles (searched_task mode c.args.request i) reply.status reply.text.items c.searched_reply.new.log in
    search-answered c.args.mode c.args.request m q i reply c.searched_reply.new.log none bound (subst P c.in_ok-instance.ensures.mode c.in_ok-reply.ensures.answers)

pub returns-in_err-model-clause-ends : goal.returns-in_err-model-clause-ends
returns-in_err-model-clause-ends g c =
    let p = err_from_is_err_and c.from_residual.result c.from_residual.ensures.1 in
    rw (p.1, p.2) (stopped-search c.args.request c.args.log.now c.in_err-model.field-0.0 c.requires.empty)

pub returns-in_err-params-clause-ends : goal.returns-in_err-params-clause-ends
returns-in_err-params-clause-ends g c =
    let p = err_from_is_err_and c.from_residual-in_err-params.result c.from_residual-in_err-params.ensures.1 in
    rw (p.1, p.2) (stopped-search c.args.request c.args.log.now c.in_err-params.field-0.0 c.requires.empty)

pub returns-in_err-instance-clause-ends : goal.returns-in_err-instance-clause-ends
returns-in_err-instance-clause-ends g c =
    let p = err_from_is_err_and c.from_residual-in_err-instance.result c.from_residual-in_err-instance.ensures.1 in
    rw (p.1, p.2) (stopped-search c.args.request c.args.log.now c.in_err-instance.field-0.0 c.requires.empty)

pub returns-in_err-reply-clause-ends : goal.returns-in_err-reply-clause-ends
returns-in_err-reply-clause-ends g c =
    let p = err_from_is_err_and c.from_residual-in_err-reply.result c.from_residual-in_err-reply.ensures.1 in
    rw (p.1, p.2) c.in_err-reply.ensures.sound

pub returns-in_err-reply-clause-tells : goal.returns-in_err-reply-clause-tells
returns-in_err-reply-clause-tells g c =
    let p = err_from_is_err_and c.from_residual-in_err-reply.result c.from_residual-in_err-reply.ensures.1 in
    let m = model_tree c.args.model in
    let q = params_tree c.args.params in
    let none : AreFaultless m q = record { model = c.in_ok-model.ensures.passes; params = c.in_ok-params.ensures.passes } in
    let i = plain_instance c.in_ok-instance.instance in
    let bound = same-instance c.args.mode m q (typed_tree c.in_ok-model.model) (typed_params_tree c.in_ok-params.params) i c.in_ok-model.ensures.same c.in_ok-params.ensures.same c.in_ok-instance.ensures.tells in
    rw (p.1, p.2) (search-wanting c.args.mode c.args.request m q i c.searched_reply.new.log none bound)

pub returns-clause-readable : goal.returns-clause-readable
returns-clause-readable g c = λ own.
    let m = model_tree c.args.model in
    let q = params_tree c.args.params in
    let i = plain_instance c.in_ok-instance.instance in
    let bound = same-instance c.args.mode m q (typed_tree c.in_ok-model.model) (typed_params_tree c.in_ok-params.params) i c.in_ok-model.ensures.same c.in_ok-params.ensures.same c.in_ok-instance.ensures.tells in
    let reply = c.in_ok-reply.reply in
    let P : Mode → Type 0 = λ mode. Settles (searched_task mode c.args.request i) reply.status reply.text.items c.searched_reply.new.log in
    settled-readable c.notes_can_be_read.ensures c.args.mode c.args.request m q i reply.status reply.text.items c.searched_reply.new.log c.requires.spelled bound own (subst P c.in_ok-instance.ensures.mode c.in_ok-reply.ensures.answers)
