use Rattle.std.proofs.Common.{Err, sym, subst}
use Rattle.ep_tree.specs.Faults.{params_faults}
use Rattle.ep_tree.specs.Views.{params_tree}
use Rattle.ep_types.specs.declared.typed.TypedParams.{TypedParams}
use Rattle.ep_driver.specs.Outcomes.{fault_refusals}
use Rattle.ep_driver.specs.Steps.{Passes}
use Rattle.ep_files.specs.declared.stops.Stop.{Stop}
use Rattle.ep_driver.proofs.Binding.{static-stopped}
use Rattle.ep_driver.proofs.checking.checked_params.Goals as goal

pub returns-in-Err-clause-passes : goal.returns-in-Err-clause-passes
returns-in-Err-clause-passes c =
    let faults = params_faults (params_tree c.args.params) in
    let P : Stop → Type 0 = λ s. Passes {V = TypedParams} (fault_refusals c.args.file faults) (Err s) in
    subst P (sym c.static_stop.ensures) (static-stopped TypedParams c.args.file faults c.in-Err.error c.in-Err.ensures.named)
