use Rattle.std.proofs.lemmas.Result.{err_from_is_err_and}
use Rattle.std.proofs.Common.{◌≡◌, [], refl}
use Rattle.ep_base.specs.Outside.{Rose}
use Rattle.ep_print.specs.declared.refusals.TextFile.{TextFile}
use Rattle.ep_tree.specs.Views.{model_tree, params_tree}
use Rattle.ep_solve.specs.Right.{empty_log}
use Rattle.ep_driver.specs.Outcomes.{verify_outcome}
use Rattle.ep_files.specs.Readings.{IsTextReadAs}
use Rattle.ep_driver.proofs.Chains.{unread}
use Rattle.ep_driver.proofs.Running.{reply-ends}
use Rattle.ep_driver.proofs.runs.verify_solution.Goals as goal

pub returns-in_err-solution-clause-tells : goal.returns-in_err-solution-clause-tells
returns-in_err-solution-clause-tells g c =
    let p = err_from_is_err_and c.from_residual.result c.from_residual.ensures.1 in
    let told = g.F.Files.held c.args.files.now in
    let rose = Rose (g.F.Files.faults c.args.files.now) (g.F.Files.faults c.read_params.new.files) in
    let m = model_tree c.args.model in
    let q = params_tree c.args.params in
    rw (p.1, p.2)
    (unread params_tree (IsTextReadAs TextFile.Solution) c.args.solution.now [] (λ s held outcome. outcome ≡ verify_outcome c.args.mode m q s) told rose empty_log c.in_err-solution.field-0.0 refl c.in_err-solution.ensures.tells)

pub returns-clause-status : goal.returns-clause-status
returns-clause-status g c =
    let m = model_tree c.args.model in
    let q = params_tree c.args.params in
    reply-ends c.args.mode m q (params_tree c.in_ok-solution.solution) c.verify_texts.result c.verify_texts.ensures.tells
