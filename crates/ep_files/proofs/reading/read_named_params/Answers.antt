use Rattle.std.proofs.Common.{ℕ, List, Option, Ok, sym, subst}
use Rattle.ep_base.specs.Outside.{Rose}
use Rattle.ep_files.specs.Reads.{TellsParams}
use Rattle.ep_files.proofs.FileReading.{none-read}
use Rattle.ep_files.proofs.reading.read_named_params.Goals as goal

pub returns-in-None-clause-tells : goal.returns-in-None-clause-tells
returns-in-None-clause-tells g c =
    let told = g.F.Files.held c.args.files.now in
    let rose = Rose (g.F.Files.faults c.args.files.now) (g.F.Files.faults c.args.files.now) in
    let P : Option (List ℕ) → Type 0 = λ n. TellsParams told n rose (Ok c.no_params.result) in
    subst P (sym c.in-None.is) (none-read told rose c.no_params.result c.no_params.ensures)
