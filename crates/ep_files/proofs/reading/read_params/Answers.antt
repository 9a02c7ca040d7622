use Rattle.std.proofs.Common.{ℕ, List, subst}
use Rattle.ep_base.specs.Outside.{Rose}
use Rattle.ep_tree.specs.Views.{params_tree}
use Rattle.ep_tree.specs.Texts.{MOST_BYTES}
use Rattle.ep_files.specs.Readings.{IsTextReadAs}
use Rattle.ep_files.specs.Reads.{TellsText}
use Rattle.ep_files.proofs.FileReading.{cut-tree, tells-read}
use Rattle.ep_files.proofs.reading.read_params.Goals as goal

pub returns-clause-tells : goal.returns-clause-tells
returns-clause-tells g c =
    let told = g.F.Files.held c.args.files.now in
    let rose = Rose (g.F.Files.faults c.args.files.now) (g.F.Files.faults c.read_bytes.new.files) in
    let P : List ℕ → Type 0 = λ t. TellsText params_tree (IsTextReadAs c.args.file) t c.params_in.result in
    tells-read params_tree MOST_BYTES (IsTextReadAs c.args.file) (cut-tree c.args.file) told c.args.name.now c.in_ok-text.text.items rose c.params_in.result c.in_ok-text.ensures.tells
    (subst P c.deref.ensures.value c.params_in.ensures)
