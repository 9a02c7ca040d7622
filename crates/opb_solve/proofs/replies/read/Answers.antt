use Rattle.std.proofs.Common.{Err, sym, subst}
use Rattle.opb_solve.proofs.Replying.{read_is, read_stops}
use Rattle.opb_solve.proofs.replies.read.Goals as goal
use Rattle.opb_solve.specs.Replies.{ReadsOpb}
use Rattle.opb_solve.specs.declared.replies.OpbStop.{OpbStop}

pub returns-in-Ok-clause-reads : goal.returns-in-Ok-clause-reads
returns-in-Ok-clause-reads c =
    read_is c.args.text.now c.in-Ok.opb (record {
      too_long = c.in-Ok.ensures.too_long;
      spelled = c.in-Ok.ensures.spelled;
      complete = c.in-Ok.ensures.complete;
      fault = c.in-Ok.ensures.fault;
    })

pub returns-in-Ok-clause-only : goal.returns-in-Ok-clause-only
returns-in-Ok-clause-only c = c.in-Ok.ensures.complete

pub returns-in-Err-clause-reads : goal.returns-in-Err-clause-reads
returns-in-Err-clause-reads c =
    let P : OpbStop → Type 0 = λ stop. ReadsOpb c.args.text.now (Err stop) in
    subst P (sym c.read_stop.ensures)
    (read_stops c.args.text.now c.in-Err.error (record {
      too_long = c.in-Err.ensures.too_long;
      spelled = c.in-Err.ensures.spelled;
      complete = c.in-Err.ensures.complete;
      fault = c.in-Err.ensures.fault;
    }))
