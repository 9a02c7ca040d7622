use Rattle.std.proofs.lemmas.Result.{err_from_is_err_and}
use Rattle.std.proofs.Common.{◌≡◌, [], Err, option_to_list}
use Rattle.ep_base.specs.Outside.{Rose}
use Rattle.ep_tree.specs.Views.{model_tree}
use Rattle.ep_driver.specs.Outcomes.{search_outcome}
use Rattle.ep_driver.specs.Shown.{comes_to_search}
use Rattle.ep_driver.proofs.Chains.{unread-params}
use Rattle.ep_driver.proofs.Running.{last-read, stopped-search}
use Rattle.ep_driver.proofs.runs.search_model.Goals as goal

pub returns-in_err-params-clause-tells : goal.returns-in_err-params-clause-tells
returns-in_err-params-clause-tells g c =
    let p = err_from_is_err_and c.from_residual.result c.from_residual.ensures.1 in
    let told = g.F.Files.held c.args.files.now in
    let rose = Rose (g.F.Files.faults c.args.files.now) (g.F.Files.faults c.read_named_params.new.files) in
    let m = model_tree c.args.model in
    rw (p.1, p.2)
    (last-read (option_to_list c.args.params.now) (comes_to_search c.args.mode c.args.request c.args.params.now m) told rose c.args.log.now (Err c.in_err-params.field-0.0)
    (unread-params c.args.params.now [] (λ q held outcome. outcome ≡ search_outcome c.args.mode c.args.request m q) told rose c.args.log.now c.in_err-params.field-0.0 c.requires.empty c.in_err-params.ensures.tells))

pub returns-in_err-params-clause-ends : goal.returns-in_err-params-clause-ends
returns-in_err-params-clause-ends g c =
    let p = err_from_is_err_and c.from_residual.result c.from_residual.ensures.1 in
    rw (p.1, p.2) (stopped-search c.args.request c.args.log.now c.in_err-params.field-0.0 c.requires.empty)
