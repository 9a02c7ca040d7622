use Rattle.std.proofs.Common.{ℕ, List, subst}
use Rattle.ep_base.specs.Outside.{Rose}
use Rattle.sat_text.specs.Words.{most_text_bytes}
use Rattle.ep_files.specs.Readings.{IsProofReadAs}
use Rattle.sat_proof.specs.Lines.{proof_lines}
use Rattle.ep_files.specs.Reads.{TellsText}
use Rattle.ep_files.proofs.FileReading.{cut-proof, tells-read}
use Rattle.ep_files.proofs.reading.read_proof.Goals as goal

pub returns-clause-tells : goal.returns-clause-tells
returns-clause-tells g c =
    let told = g.F.Files.held c.args.files.now in
    let rose = Rose (g.F.Files.faults c.args.files.now) (g.F.Files.faults c.read_bytes.new.files) in
    let P : List ℕ → Type 0 = λ t. TellsText proof_lines IsProofReadAs t c.proof_in.result in
    tells-read proof_lines most_text_bytes IsProofReadAs cut-proof told c.args.name.now c.in_ok-text.text.items rose c.proof_in.result c.in_ok-text.ensures.tells
    (subst P c.deref.ensures.value c.proof_in.ensures)
