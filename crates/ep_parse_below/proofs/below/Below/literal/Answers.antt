use Rattle.std.proofs.lemmas.Result.{err_from_is_err_and}
use Rattle.ep_parse_below.proofs.ListLoops.{literal_fails, literal_read}
use Rattle.ep_parse_below.proofs.below.Below.literal.Goals as goal

pub returns-in_err-more_parts : goal.returns-in_err-more_parts
returns-in_err-more_parts g c =
    let p = err_from_is_err_and c.from_residual-in_err-more_parts.result c.from_residual-in_err-more_parts.ensures.1 in
    record { read = rw (p.1, p.2) (literal_fails _ _ _ _ _ _ c.in_err-more_parts.field-0.0 c.in_err-more_parts.ensures.read) }

pub returns : goal.returns
returns g c =
    record { read = literal_read _ _ _ _ _ _ _ _ _ _ _ c.new-parts.ensures.none c.in_ok-push.ensures.pushed c.in_ok-more_parts.ensures.read c.literal_end.ensures.read }
