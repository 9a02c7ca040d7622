use Rattle.std.proofs.lemmas.Result.{err_from_is_err_and}
use Rattle.std.proofs.Common.{[], ◌∷◌, option_to_list, refl}
use Rattle.ep_base.proofs.PutSteps.{rose_later}
use Rattle.ep_base.specs.Outside.{Rose}
use Rattle.ep_tree.specs.Views.{model_tree, params_tree}
use Rattle.ep_solve.specs.Right.{empty_log}
use Rattle.ep_files.specs.Readings.{AreParams}
use Rattle.ep_driver.specs.Shown.{comes_to_judge}
use Rattle.ep_driver.proofs.Chains.{after, stable-params, unread-params}
use Rattle.ep_driver.proofs.runs.verify_model.Goals as goal

pub returns-in_err-params-clause-tells : goal.returns-in_err-params-clause-tells
returns-in_err-params-clause-tells g c =
    let p = err_from_is_err_and c.from_residual.result c.from_residual.ensures.1 in
    let told = g.F.Files.held c.args.files.now in
    let rose = Rose (g.F.Files.faults c.args.files.now) (g.F.Files.faults c.read_named_params.new.files) in
    rw (p.1, p.2)
    (unread-params c.args.params.now (c.args.solution.now ∷ []) (λ q. comes_to_judge c.args.mode c.args.solution.now (model_tree c.args.model) q) told rose empty_log c.in_err-params.field-0.0 refl c.in_err-params.ensures.tells)

pub returns-clause-tells : goal.returns-clause-tells
returns-clause-tells g c =
    let told = g.F.Files.held c.args.files.now in
    let rose = Rose (g.F.Files.faults c.args.files.now) (g.F.Files.faults c.verify_solution.new.files) in
    let now = g.F.Files.faults c.read_named_params.new.files in
    after (option_to_list c.args.params.now) (c.args.solution.now ∷ []) (λ held. AreParams held c.args.params.now) (λ q. comes_to_judge c.args.mode c.args.solution.now (model_tree c.args.model) q)
    (stable-params c.args.params.now) (params_tree c.in_ok-params.params) told (g.F.Files.held c.read_named_params.new.files) rose
    (Rose now (g.F.Files.faults c.verify_solution.new.files)) empty_log c.verify_solution.result c.in_ok-params.ensures.held
    (rose_later (g.F.Files.faults c.args.files.now) now (g.F.Files.faults c.verify_solution.new.files) c.in_ok-params.ensures.faults)
    c.in_ok-params.ensures.tells c.verify_solution.ensures.tells
