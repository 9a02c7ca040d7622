use Rattle.std.proofs.Common.{◌≡◌, ◌⊎◌, Result, Err, sym, subst}
use Rattle.std.proofs.lemmas.Result.{err_from_is_err_and}
use Rattle.ep_base.specs.declared.operators.Limit.{Limit}
use Rattle.opb_solve.proofs.Replying.{SizeFacts, err_of, measured_not, size_gives, size_refused, unread_gives, unread_refused}
use Rattle.opb_solve.proofs.replies.opb_in.Goals as goal
use Rattle.opb_solve.specs.Replies.{GivesOpb}
use Rattle.opb_solve.specs.declared.replies.OpbStop.{OpbStop}
use Rattle.opb_text.specs.Views.{plain_opb}
use Rattle.opb_text.specs.declared.content.Opb.{Opb}
use Rattle.opb_text.specs.declared.errors.OpbSizeError.{OpbSizeError}

pub returns-in_err-opb-clause-gives : goal.returns-in_err-opb-clause-gives
returns-in_err-opb-clause-gives c =
    let p = err_from_is_err_and c.from_residual.result c.from_residual.ensures.1 in
    rw (p.1, p.2) (unread_gives c.args.text.now c.in_err-opb.field-0.0 c.in_err-opb.ensures.reads)

pub returns-in_err-opb-clause-refused : goal.returns-in_err-opb-clause-refused
returns-in_err-opb-clause-refused c =
    let p = err_from_is_err_and c.from_residual.result c.from_residual.ensures.1 in
    rw (p.1, p.2) (λ refusal comes. unread_refused c.args.text.now c.in_err-opb.field-0.0 refusal c.in_err-opb.ensures.reads comes)

pub returns-in-Ok-clause-gives : goal.returns-in-Ok-clause-gives
returns-in-Ok-clause-gives c = (
  c.in_ok-opb.ensures.reads,
  c.in-Ok.ensures.weight.0,
  record { weight = c.in-Ok._weight; weighs = c.in-Ok.ensures.weight.1; low = c.in-Ok.ensures.weight.2 },
)

pub returns-in-Ok-clause-refused : goal.returns-in-Ok-clause-refused
returns-in-Ok-clause-refused c = λ refusal comes.
    absurd (measured_not c.args.text.now (plain_opb c.in_ok-opb.opb) refusal c.in_ok-opb.ensures.reads c.in_ok-opb.ensures.only c.in-Ok.ensures.weight.0
    (record { weight = c.in-Ok._weight; weighs = c.in-Ok.ensures.weight.1; low = c.in-Ok.ensures.weight.2 }) comes)

pub returns-in-Err-clause-gives : goal.returns-in-Err-clause-gives
returns-in-Err-clause-gives c =
    let facts : SizeFacts (plain_opb c.in_ok-opb.opb) c.in-Err.error = record {
      reach = λ e. c.in-Err.ensures.reach.0 (err_of c.in-Err.error (OpbSizeError.Limit Limit.Reach) e);
      over = λ e. c.in-Err.ensures.over (err_of c.in-Err.error (OpbSizeError.Limit Limit.Weight) e);
      size = λ e. c.in-Err.ensures.size (err_of c.in-Err.error (OpbSizeError.Limit Limit.Size) e);
    } in
    subst (λ (stop : OpbStop). GivesOpb c.args.text.now (Err stop)) (sym c.size_stop.ensures)
    (size_gives c.args.text.now (plain_opb c.in_ok-opb.opb) c.in-Err.error c.in_ok-opb.ensures.reads facts)

pub returns-in-Err-clause-refused : goal.returns-in-Err-clause-refused
returns-in-Err-clause-refused c = λ refusal comes.
    let facts : SizeFacts (plain_opb c.in_ok-opb.opb) c.in-Err.error = record {
      reach = λ e. c.in-Err.ensures.reach.0 (err_of c.in-Err.error (OpbSizeError.Limit Limit.Reach) e);
      over = λ e. c.in-Err.ensures.over (err_of c.in-Err.error (OpbSizeError.Limit Limit.Weight) e);
      size = λ e. c.in-Err.ensures.size (err_of c.in-Err.error (OpbSizeError.Limit Limit.Size) e);
    } in
    subst (λ (stop : OpbStop). (◌≡◌ {A = Result Opb OpbStop} (Err stop) (Err (OpbStop.Refused refusal))) ⊎ (◌≡◌ {A = Result Opb OpbStop} (Err stop) (Err OpbStop.Memory))) (sym c.size_stop.ensures)
    (size_refused c.args.text.now (plain_opb c.in_ok-opb.opb) c.in-Err.error refusal c.in_ok-opb.ensures.reads c.in_ok-opb.ensures.only facts comes)
