use Rattle.std.proofs.Common.{Err, sym, subst}
use Rattle.ep_files.specs.Readings.{IsFormulaReadAs}
use Rattle.ep_files.specs.Reads.{TellsText, formula_clauses}
use Rattle.ep_files.specs.declared.stops.Stop.{Stop}
use Rattle.ep_files.proofs.FileReading.{formula-read, formula-stopped}
use Rattle.ep_files.proofs.reading.formula_in.Goals as goal

pub returns-in-Ok : goal.returns-in-Ok
returns-in-Ok c =
    formula-read c.args.text.now c.in-Ok.file (record {
      too_long = c.in-Ok.ensures.too_long;
      spelled = c.in-Ok.ensures.spelled;
      complete = c.in-Ok.ensures.complete;
      fault = c.in-Ok.ensures.fault;
    })

pub returns-in-Err : goal.returns-in-Err
returns-in-Err c =
    let P : Stop → Type 0 = λ s. TellsText formula_clauses IsFormulaReadAs c.args.text.now (Err s) in
    subst P (sym c.cnf_stop.ensures)
    (formula-stopped c.args.text.now c.in-Err.error (record {
      too_long = c.in-Err.ensures.too_long;
      spelled = c.in-Err.ensures.spelled;
      complete = c.in-Err.ensures.complete;
      fault = c.in-Err.ensures.fault;
    }))
