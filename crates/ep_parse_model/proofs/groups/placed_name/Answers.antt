use Rattle.std.proofs.lemmas.Result.{err_from_is_err_and}
use Rattle.ep_parse_model.proofs.NextSteps.{placed_fails, placed_reads}
use Rattle.ep_parse_model.proofs.groups.placed_name.Goals as goal

pub returns-in_err-text : goal.returns-in_err-text
returns-in_err-text c =
    let p = err_from_is_err_and c.from_residual.result c.from_residual.ensures.1 in
    record { read = rw (p.1, p.2) (placed_fails _ _ c.in_err-text.field-0.0 c.in_err-text.ensures.read) }

pub returns : goal.returns
returns c = record { read = placed_reads _ _ _ _ _ c.in_ok-text.ensures.read c.in_ok-name.ensures.copied c.place-place.ensures.next }
