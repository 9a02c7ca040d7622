use Rattle.std.proofs.Common.{Err, refl, sym, subst}
use Rattle.ep_print.specs.declared.refusals.TextFile.{TextFile}
use Rattle.ep_tree.specs.StatementSpelling.{SpellsModel}
use Rattle.ep_tree.specs.Texts.{IsReadAs, read_as}
use Rattle.ep_tree.specs.Views.{model_tree}
use Rattle.ep_files.specs.Readings.{IsTextReadAs, tree_or_refusal}
use Rattle.ep_files.specs.Reads.{TellsText}
use Rattle.ep_files.specs.declared.stops.Stop.{Stop}
use Rattle.ep_files.proofs.FileReading.{text-stopped}
use Rattle.ep_files.proofs.reading.model_in.Goals as goal

pub returns-in-Ok-clause-tells : goal.returns-in-Ok-clause-tells
unfolding tree_or_refusal
returns-in-Ok-clause-tells c = (read_as (model_tree c.in-Ok.model), c.in-Ok.ensures.answer, refl)

pub returns-in-Ok-clause-spelled : goal.returns-in-Ok-clause-spelled
returns-in-Ok-clause-spelled c =
    let is : IsReadAs SpellsModel c.args.text.now (model_tree c.in-Ok.model) = c.in-Ok.ensures.answer in
    (c.args.text.now, record { tokens = is.tokens; found = is.found; spelled = is.reads.spelled })

pub returns-in-Err-clause-tells : goal.returns-in-Err-clause-tells
returns-in-Err-clause-tells c =
    let P : Stop → Type 0 = λ s. TellsText model_tree (IsTextReadAs TextFile.Model) c.args.text.now (Err s) in
    subst P (sym c.text_stop.ensures) (text-stopped model_tree TextFile.Model c.args.text.now c.in-Err.error c.in-Err.ensures.answer)
