use Rattle.std.proofs.Common.{Err, sym, subst}
use Rattle.ep_files.specs.Readings.{IsProofReadAs}
use Rattle.sat_proof.specs.Lines.{proof_lines}
use Rattle.ep_files.specs.Reads.{TellsText}
use Rattle.ep_files.specs.declared.stops.Stop.{Stop}
use Rattle.ep_files.proofs.FileReading.{proof-read, proof-stopped}
use Rattle.ep_files.proofs.reading.proof_in.Goals as goal

pub returns-in-Ok : goal.returns-in-Ok
returns-in-Ok c =
    proof-read c.args.text.now c.in-Ok.proof (record {
      too_long = c.in-Ok.ensures.too_long;
      spelled = c.in-Ok.ensures.spelled;
      complete = c.in-Ok.ensures.complete;
      fault = c.in-Ok.ensures.fault;
    })

pub returns-in-Err : goal.returns-in-Err
returns-in-Err c =
    let P : Stop → Type 0 = λ s. TellsText proof_lines IsProofReadAs c.args.text.now (Err s) in
    subst P (sym c.log_stop.ensures)
    (proof-stopped c.args.text.now c.in-Err.error (record {
      too_long = c.in-Err.ensures.too_long;
      spelled = c.in-Err.ensures.spelled;
      complete = c.in-Err.ensures.complete;
      fault = c.in-Err.ensures.fault;
    }))
