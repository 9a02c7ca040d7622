use Rattle.std.proofs.Common.{Err, refl, sym, subst}
use Rattle.ep_tree.specs.Texts.{read_as}
use Rattle.ep_tree.specs.Views.{params_tree}
use Rattle.ep_files.specs.Readings.{IsTextReadAs, tree_or_refusal}
use Rattle.ep_files.specs.Reads.{TellsText}
use Rattle.ep_files.specs.declared.stops.Stop.{Stop}
use Rattle.ep_files.proofs.FileReading.{as-params, as-refuses, text-stopped}
use Rattle.ep_files.proofs.reading.params_in.Goals as goal

pub returns-in-Ok : goal.returns-in-Ok
unfolding tree_or_refusal
returns-in-Ok c =
    let answer = read_as (params_tree c.in-Ok.params) in
    (answer, as-params c.args.file c.requires c.args.text.now answer c.in-Ok.ensures.answer, refl)

pub returns-in-Err : goal.returns-in-Err
returns-in-Err c =
    let file = c.args.file in
    let text = c.args.text.now in
    let P : Stop → Type 0 = λ s. TellsText params_tree (IsTextReadAs file) text (Err s) in
    subst P (sym c.text_stop.ensures)
    (text-stopped params_tree file text c.in-Err.error (as-refuses file c.requires text c.in-Err.error c.in-Err.ensures.answer))
