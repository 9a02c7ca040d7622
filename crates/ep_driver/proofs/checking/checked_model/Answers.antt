use Rattle.std.proofs.Common.{Err, sym, subst}
use Rattle.ep_print.specs.declared.refusals.TextFile.{TextFile}
use Rattle.ep_tree.specs.Faults.{text_faults}
use Rattle.ep_tree.specs.Views.{model_tree}
use Rattle.ep_types.specs.declared.typed.Typed.{Typed}
use Rattle.ep_driver.specs.Outcomes.{fault_refusals}
use Rattle.ep_driver.specs.Steps.{Passes}
use Rattle.ep_files.specs.declared.stops.Stop.{Stop}
use Rattle.ep_driver.proofs.Binding.{static-stopped}
use Rattle.ep_driver.proofs.checking.checked_model.Goals as goal

pub returns-in-Err-clause-passes : goal.returns-in-Err-clause-passes
returns-in-Err-clause-passes c =
    let faults = text_faults (model_tree c.args.model) in
    let P : Stop → Type 0 = λ s. Passes {V = Typed} (fault_refusals TextFile.Model faults) (Err s) in
    subst P (sym c.static_stop.ensures) (static-stopped Typed TextFile.Model faults c.in-Err.error c.in-Err.ensures.named)
